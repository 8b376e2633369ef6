use Rattle.std.proofs.Common.{◌≡◌}
use Rattle.ad_elf.specs.Below.{joined}
use Rattle.ad_elf.specs.File.{kept_relas}
use Rattle.ad_elf.proofs.relas.relas.Given as goal

abbrev pub invariant-loop-i : goal.invariant-loop-i
invariant-loop-i l = l.relas.items ≡ joined (kept_relas l.file) l.i
