use Rattle.std.proofs.Common.{refl}
use Rattle.ad_turns.specs.Worked.{worked_entry}
use Rattle.ad_turns.proofs.laws.law_worked_turns.Goals as goal

pub returns-clause-own : goal.returns-clause-own
returns-clause-own c = record { entry = worked_entry 0; added = refl; own = refl }
