use Rattle.std.proofs.Common.{List, ℕ, subst, sym, arith, rules}
use Rattle.ad_elf.specs.Refusals.{IsObject}
use Rattle.ad_elf.specs.Worked.{sum_object}
use Rattle.ad_elf.proofs.Computed.{IsObject-sum}
use Rattle.ad_kit.proofs.WorkedFile.{sum_is_written}
use Rattle.ad_kit.proofs.laws.law_worked_object.Goals as goal

pub returns-clause-file : goal.returns-clause-file
returns-clause-file c = sum_is_written

pub returns-clause-read : goal.returns-clause-read
returns-clause-read c = subst (λ (file : List ℕ). IsObject file sum_object) (sym sum_is_written) IsObject-sum

pub returns-clause-fit : goal.returns-clause-fit
returns-clause-fit c = record { sections = search rules; relas = search rules; symbols = search rules; file = rw sum_is_written (omega arith) }
