use Rattle.std.proofs.Common.{◌≡◌, ◌==◌, false, None, lit<}
use Rattle.std.specs.List.{list_any}
use Rattle.std.proofs.lemmas.Str.Pattern.{split_once_first}
use Rattle.ad_words.proofs.Cutting.{list_any-past_end}
use Rattle.ad_words.proofs.kind.option_kind.Goals as goal

pub returns-in-None : goal.returns-in-None
returns-in-None c =
    let no_cut : list_any (λ b. b == 61) c.args.text.now ≡ false =
    list_any-past_end (λ b. b == 61) c.args.text.now (split_once_first 61 c.args.text.now None c.in-None.ensures.cases (lit< tt)) in
    rw no_cut
