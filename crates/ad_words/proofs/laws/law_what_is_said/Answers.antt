use Rattle.std.proofs.Common.{ap, option_and_then, sym, ◌∙◌}
use Rattle.ad_words.proofs.Order.{same-command}
use Rattle.ad_words.specs.Words.{command_said}
use Rattle.ad_words.proofs.laws.law_what_is_said.Goals as goal

pub returns : goal.returns
returns c = λ task words other_words said other_said says other_says same.
    ap (option_and_then (command_said task)) says
    ∙ (same-command task said other_said same ∙ sym (ap (option_and_then (command_said task)) other_says))
