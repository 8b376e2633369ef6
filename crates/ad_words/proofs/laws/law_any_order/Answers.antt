use Rattle.ad_words.proofs.Order.{past_option}
use Rattle.ad_words.proofs.Whole.{leads-option, swapped}
use Rattle.ad_words.specs.Laws.{option_words}
use Rattle.ad_words.specs.Words.{Given}
use Rattle.ad_words.proofs.laws.law_any_order.Goals as goal

pub returns : goal.returns
returns c = λ task name value other other_value form other_form before after whole named other_named differ.
    swapped task before (option_words form name value) (option_words other_form other other_value) after
    (Given name value) (Given other other_value) whole
    (leads-option form name value named) (leads-option other_form other other_value other_named)
    (λ more. past_option name value other other_value more differ)
