use Rattle.ad_elf.proofs.OneAnswer.{one_object, one_refusal, some_answer, not_both}
use Rattle.ad_elf.proofs.laws.law_one_answer.Goals as goal

pub returns : goal.returns
returns c = record { one_object = one_object; one_refusal = one_refusal; apart = not_both; some = some_answer }
