use Rattle.ad_predict.proofs.Entries.{as-long, asked-alike}
use Rattle.ad_predict.proofs.laws.law_clear_histories.Goals as goal

pub returns : goal.returns
returns c = record { asked = asked-alike; length = as-long }
