use Rattle.std.proofs.Common.{◌≡◌, ◌≢◌, ◌+◌, ◌<◌, vec_len}
use Rattle.std.specs.List.{All, AllPairs}
use Rattle.ad_base.specs.declared.place.Place.{Place}
use Rattle.ad_stacks.specs.StackPlace.{IsStackPlace}
use Rattle.ad_stacks.proofs.tests.stack_places.Given as goal

abbrev pub invariant-loop-lane : goal.invariant-loop-lane
invariant-loop-lane l = record {
  len : vec_len l.places ≡ l.lane;
  places : All IsStackPlace l.places.items;
  below : All (λ (p : Place). p.mapping < l.lane + 1) l.places.items;
  differ : AllPairs (λ (p q : Place). p.mapping ≢ q.mapping) l.places.items;
}
