use Rattle.ad_mover.proofs.Worked.{worked-made, worked-not-busy}
use Rattle.ad_mover.proofs.laws.law_worked_moves.Goals as goal

pub returns-clause-made : goal.returns-clause-made
returns-clause-made c = worked-made

pub returns-clause-not_busy : goal.returns-clause-not_busy
returns-clause-not_busy c = worked-not-busy
