use Rattle.std.proofs.Common.{[], ◌∷◌, ◌++◌, ap, append_assoc, sym, ◌∙◌}
use Rattle.ad_words.proofs.Order.{past_operand}
use Rattle.ad_words.proofs.Whole.{leads-operand, leads-option, swapped}
use Rattle.ad_words.specs.Laws.{option_words}
use Rattle.ad_words.specs.Words.{Given, Operand, command_of}
use Rattle.ad_words.proofs.laws.law_words_stand_anywhere.Goals as goal

pub returns : goal.returns
returns c = λ task name value operand form before after whole named plain.
    let option = option_words form name value in
    sym (ap (λ words. command_of (task ∷ words)) (append_assoc (before ++ option) (operand ∷ []) after))
    ∙ (swapped task before option (operand ∷ []) after (Given name value) (Operand operand) whole
    (leads-option form name value named) (leads-operand operand plain) (past_operand name value operand)
    ∙ ap (λ front. command_of (task ∷ front ++ after)) (append_assoc before (operand ∷ []) option))
