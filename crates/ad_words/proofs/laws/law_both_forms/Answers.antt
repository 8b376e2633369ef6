use Rattle.std.proofs.Common.{[], ◌∷◌, refl}
use Rattle.ad_words.proofs.Whole.{exchanged, leads-option}
use Rattle.ad_words.specs.Laws.{OneWord, TwoWords, option_words}
use Rattle.ad_words.specs.Words.{Given}
use Rattle.ad_words.proofs.laws.law_both_forms.Goals as goal

pub returns : goal.returns
returns c = λ task name value before after whole named.
    exchanged task before (option_words TwoWords name value) (option_words OneWord name value) after
    (Given name value ∷ []) (Given name value ∷ []) whole
    (leads-option TwoWords name value named) (leads-option OneWord name value named)
    (λ more. record { same_operands = refl; same_values = λ wanted. refl })
