-- A worked history: a stack is replaced while it is held.
use Rattle.std.specs.Prelude.{ℕ, List, [], ◌∷◌}
use Rattle.ad_base.specs.declared.ledger.Kind.TheVariants.{Stack}
use Rattle.ad_base.specs.declared.ledger.Row.{Row}
use Rattle.ad_base.specs.declared.place.Place.{Place}
use Rattle.ad_stacks.specs.declared.view.Given.{Given}
use Rattle.ad_stacks.specs.History.{Event, opened, took, put, refreshed}

-- the place of a stack of this mapping number
abbrev pub worked_place : ℕ → Place
worked_place m = record { region = 32768; start = 1; pages = 4; mapping = m; frame = 0 }

-- lane 0 has mapping 1; its worker takes it; the lane is given mapping 2 in line 4; mapping 1 is put
abbrev pub worked_history : List Event
worked_history = put 0 (worked_place 1) ∷ refreshed 0 (worked_place 2) 4 ∷ took 0 (worked_place 1) ∷ opened 0 (worked_place 1) ∷ []

abbrev pub worked_refresh : Given
worked_refresh = record { lane = 0; place = worked_place 2; line = 4 }

-- a row of lane 0
abbrev pub worked_row : ℕ → ℕ → ℕ → Row
worked_row m line unmaps = record { mapping = m; kind = Stack; who = 0; place = worked_place m; line = line; unmaps = unmaps }

-- mapping 1 is retired in line 4 and unmapped once; mapping 2 is neither
abbrev pub worked_rows : List Row
worked_rows = worked_row 1 4 1 ∷ worked_row 2 0 0 ∷ []
