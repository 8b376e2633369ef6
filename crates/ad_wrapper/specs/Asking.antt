-- What a worker asked of the pages of its mapping, as its list of acts tells it.
use Rattle.std.specs.Prelude.{List, [], ◌∷◌, ◌++◌, fold, map}
use Rattle.ad_call.specs.declared.asked.Asked.{Asked}
use Rattle.ad_call.specs.declared.asked.Asked.TheVariants as asked
use Rattle.ad_maps.specs.declared.view.Act.{Act}
use Rattle.ad_maps.specs.declared.view.Act.TheVariants as act

-- the act by which the pages are asked
abbrev pub act_of : Asked → Act
act_of (asked.Page at) = act.Page at
act_of (asked.Cell entry) = act.Cell entry

-- acts up to the last one that asks nothing, and what was asked since
pub record Asking : Type 0 where
  pub begun : List Act
  pub asked : List Asked

-- all the acts, in order
abbrev pub acts_in : Asking → List Act
acts_in a = a.begun ++ map act_of a.asked

-- with one act more
abbrev pub with_act : Asking → Act → Asking
with_act a (act.Page at) = record a { asked = a.asked ++ asked.Page at ∷ [] }
with_act a (act.Cell entry) = record a { asked = a.asked ++ asked.Cell entry ∷ [] }
with_act a other = record { begun = acts_in a ++ other ∷ []; asked = [] }

-- a list of acts, parted so
unfoldable pub asking : List Act → Asking
asking acts = fold with_act (record { begun = []; asked = [] }) acts
