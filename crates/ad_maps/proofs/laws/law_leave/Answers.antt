use Rattle.ad_maps.proofs.WorkerLaws.{leave_law}
use Rattle.ad_maps.proofs.laws.law_leave.Goals as goal

pub returns : goal.returns
returns c = leave_law
