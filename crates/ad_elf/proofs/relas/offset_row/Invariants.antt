use Rattle.std.proofs.Common.{◌≡◌, None, find, take}
use Rattle.ad_elf.specs.Refusals.{ends_outside}
use Rattle.ad_elf.proofs.relas.offset_row.Given as goal

abbrev pub invariant-loop-k : goal.invariant-loop-k
invariant-loop-k l = find (ends_outside l.file) (take l.k l.relas) ≡ None
