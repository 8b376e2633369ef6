use Rattle.std.proofs.Common.{◌≡◌, ◌++◌, take}
use Rattle.std.specs.List.{flat_map}
use Rattle.std.specs.String.{string_bytes}
use Rattle.ad_generator.specs.Modules.{modules}
use Rattle.ad_generator.specs.Script.{load_line}
use Rattle.ad_generator.proofs.script.put_loads.Given as goal

-- the modules so far are loaded
abbrev pub invariant-loop-number : goal.invariant-loop-number
invariant-loop-number l = string_bytes l.text ≡ string_bytes l.fn.text ++ flat_map load_line (take l.number modules)
