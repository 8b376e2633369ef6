use Rattle.std.proofs.Common.{◌≡◌, None}
use Rattle.ad_elf.specs.Below.{first}
use Rattle.ad_elf.specs.Refusals.{is_astray}
use Rattle.ad_elf.proofs.symbols.first_astray.Given as goal

abbrev pub invariant-loop-j : goal.invariant-loop-j
invariant-loop-j l = first (is_astray l.file) l.j ≡ None
