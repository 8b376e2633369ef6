use Rattle.std.proofs.Common.{◌≡◌, None}
use Rattle.ad_elf.specs.Below.{first}
use Rattle.ad_elf.specs.Fields.{header}
use Rattle.ad_elf.specs.Refusals.{is_of_wrong_type}
use Rattle.ad_elf.proofs.sections.first_of_wrong_type.Given as goal

abbrev pub invariant-loop-i : goal.invariant-loop-i
invariant-loop-i l = first (λ i. is_of_wrong_type (header l.file i)) l.i ≡ None
