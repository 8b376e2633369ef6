use Rattle.ad_link.proofs.OneAnswer.{not_both, one_plan, one_refusal, some_plan}
use Rattle.ad_link.proofs.laws.law_one_answer.Goals as goal

pub returns : goal.returns
returns c = record { one_plan = one_plan; one_refusal = one_refusal; apart = not_both; some = some_plan }
