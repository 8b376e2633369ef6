use Rattle.std.proofs.Common.{◌≡◌, ◌++◌}
use Rattle.std.specs.String.{string_bytes}
use Rattle.ad_elf.specs.Below.{joined}
use Rattle.ad_generator.specs.Script.{line_text}
use Rattle.ad_generator.proofs.script.put_lines.Given as goal

-- the lines so far are written
abbrev pub invariant-loop-k : goal.invariant-loop-k
invariant-loop-k l = string_bytes l.text ≡ string_bytes l.fn.text ++ joined line_text l.k
