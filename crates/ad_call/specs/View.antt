-- What is known of the pages of a movable part.
use Rattle.std.specs.Prelude.{List, ◌++◌, Option, option_map}
use Rattle.ad_base.specs.declared.image.Cell.{Cell}
use Rattle.ad_base.specs.declared.place.Place.{Place}
use Rattle.ad_call.specs.declared.asked.Asked.{Asked}

-- What the pages of a movable part are: where it lies, the words of its local area, what they were made with, and what they
-- were asked, in order, where that is told.
pub record View (O : Type 0) : Type 0 where
  pub place : Place
  pub cells : List Cell
  pub origin : O
  pub asked : Option (List Asked)

-- the same once this was asked too
abbrev pub with_asked : {O : Type 0} → View O → List Asked → View O
with_asked v list = record v { asked = option_map (λ before. before ++ list) v.asked }
