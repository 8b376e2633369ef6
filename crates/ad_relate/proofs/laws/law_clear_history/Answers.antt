use Rattle.ad_relate.proofs.ClearHistory.{replies}
use Rattle.ad_relate.proofs.laws.law_clear_history.Goals as goal

pub returns : goal.returns
returns c = replies
