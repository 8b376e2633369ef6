use Rattle.ad_place.proofs.Places.{next_place_fresh, next_place_is}
use Rattle.ad_place.proofs.laws.law_next.Goals as goal

pub returns : goal.returns
returns c = record { place = next_place_is; fresh = next_place_fresh }
