use Rattle.std.proofs.Common.{◌∙◌, bytes_eq, rules}
use Rattle.std.proofs.lemmas.Iterator.{YieldsList-from_slice}
use Rattle.std.proofs.lemmas.Iterator.Search.{any_from_yields_List}
use Rattle.ad_script.proofs.Lists.{any_text}
use Rattle.ad_script.proofs.said.is_among.Goals as goal

pub returns : goal.returns
returns c =
    any_from_yields_List (λ w. bytes_eq c.args.name.now w.now) _ _ c.any.result c.any.ensures.ran (YieldsList-from_slice c.args.names.now cc) (λ x b q k. search rules)
    ∙ any_text (bytes_eq c.args.name.now) c.args.names.now
