use Rattle.std.proofs.Common.{◌≡◌, None}
use Rattle.ad_elf.specs.Below.{first}
use Rattle.ad_elf.specs.Fields.{header}
use Rattle.ad_elf.specs.Refusals.{is_misdirected}
use Rattle.ad_elf.proofs.relas.first_misdirected.Given as goal

abbrev pub invariant-loop-i : goal.invariant-loop-i
invariant-loop-i l = first (λ i. is_misdirected l.file (header l.file i)) l.i ≡ None
