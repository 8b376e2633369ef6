use Rattle.ad_reloc.proofs.OneImage.{not_both, one_image, one_refusal}
use Rattle.ad_reloc.proofs.SomeImage.{some_answer}
use Rattle.ad_reloc.proofs.laws.law_one_answer.Goals as goal

pub returns : goal.returns
returns c = record { some = some_answer; one_image = one_image; one_refusal = one_refusal; apart = not_both }
