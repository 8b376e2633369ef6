use Rattle.std.proofs.Common.{◌∙◌, sym, rules}
use Rattle.std.proofs.lemmas.Iterator.{YieldsList-from_slice}
use Rattle.std.proofs.lemmas.Iterator.Search.{all_from_yields_List}
use Rattle.std.proofs.lemmas.List.Folds.{list_all-map}
use Rattle.ad_script.specs.Forms.{is_module_name}
use Rattle.ad_script.proofs.said.are_module_names.Goals as goal

pub returns : goal.returns
returns c =
    all_from_yields_List (λ w. is_module_name w.now) _ _ c.all.result c.all.ensures.ran (YieldsList-from_slice c.args.names.now cc) (λ x b q k. search rules)
    ∙ sym (list_all-map is_module_name (λ w. w.now) c.args.names.now)
