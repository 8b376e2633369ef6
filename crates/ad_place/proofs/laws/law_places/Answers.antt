use Rattle.std.proofs.Common.{[], arith}
use Rattle.ad_place.specs.Choice.{places_of}
use Rattle.ad_place.proofs.Requests.{length-drawn_from, each_is, regions_differ}
use Rattle.ad_place.proofs.Places.{next_place_first}
use Rattle.ad_place.proofs.laws.law_places.Goals as goal

pub returns-clause-count : goal.returns-clause-count
unfolding places_of
returns-clause-count c = λ seed requests. omega (arith, length-drawn_from (record { seed = seed; places = [] }) requests)

pub returns-clause-each : goal.returns-clause-each
unfolding places_of
returns-clause-each c = λ seed requests may k request h. each_is (record { seed = seed; places = [] }) requests (omega (arith, may.few)) may.pages k request h k (omega arith)

pub returns-clause-differ : goal.returns-clause-differ
unfolding places_of
returns-clause-differ c = λ seed requests may. regions_differ (record { seed = seed; places = [] }) requests (omega (arith, may.few)) (λ i j d low inside. absurd (omega arith))

pub returns-clause-choice : goal.returns-clause-choice
returns-clause-choice c = next_place_first
