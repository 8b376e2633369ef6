-- The table as it is opened: lane by lane.
use Rattle.std.specs.Prelude.{ℕ, zero, suc, List, [], ◌∷◌, slice_index_or}
use Rattle.ad_base.specs.declared.place.Place.{Place}
use Rattle.ad_base.specs.Place.{packed}
use Rattle.ad_stacks.specs.History.{Event, opened}
use Rattle.ad_stacks.specs.Names.{Words, Lane, Record, wrote}
use Rattle.ad_stacks.specs.StackPlace.{record_word}

-- no place: what is read past the last lane
abbrev pub nowhere : Place
nowhere = record { region = 0; start = 0; pages = 0; mapping = 0; frame = 0 }

-- the place of a lane
abbrev pub place_of_lane : List Place → ℕ → Place
place_of_lane openings w = slice_index_or openings w nowhere

-- the history once k lanes are opened
abbrev pub opening_events : List Place → ℕ → List Event
opening_events openings zero = []
opening_events openings (suc k) = opened k (place_of_lane openings k) ∷ opening_events openings k

-- the words once k lanes are opened
abbrev pub laid : List Place → ℕ → Words
laid openings zero = record { lane = λ _. 0; recorded = λ _. 0; mark = λ _. 0 }
laid openings (suc k) =
    let p : Place = place_of_lane openings k in
    wrote (wrote (laid openings k) (Lane k) (packed p)) (Record p.mapping) (record_word p k 0)
