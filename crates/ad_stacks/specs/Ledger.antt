-- The rows of a closed table: the ledger of its stacks.
use Rattle.std.specs.Prelude.{◌≡◌, ℕ, zero, suc, ◌+◌, ◌==◌, List, [], ◌∷◌, ◌++◌, length, filter, map, slice_get, IfSome, None, Any, All}
use Rattle.atomic_table.specs.Seated.{TableId}
use Rattle.ad_base.specs.declared.ledger.Kind.TheVariants.{Stack}
use Rattle.ad_base.specs.declared.ledger.Row.{Row}
use Rattle.ad_base.specs.declared.place.Place.{Place}
use Rattle.ad_base.specs.Ledger.{IsLedger, Mapping}
use Rattle.ad_stacks.specs.declared.words.TheConstants.{NUMBERS}
use Rattle.ad_stacks.specs.declared.view.Given.{Given}
use Rattle.ad_stacks.specs.History.{Event, AreLawful, held_of, openings_of, refreshes_of, takes_of}
use Rattle.ad_stacks.specs.Seen.{SeatSeen}

-- the stacks of the opening, as they were given to the lanes from w on, in line 0
abbrev pub given_from : ℕ → List Place → List Given
given_from w [] = []
given_from w (p ∷ ps) = record { lane = w; place = p; line = 0 } ∷ given_from (w + 1) ps

-- all stacks that the lanes were given
abbrev pub all_given : List Place → List Given → List Given
all_given openings refreshes = given_from 0 openings ++ refreshes

-- the mapping of a stack that a lane was given
abbrev pub stack_mapping : Given → Mapping
stack_mapping g = record { kind = Stack; who = g.lane; place = g.place; line = g.line }

-- the mappings of all stacks that the lanes were given, in order
abbrev pub stack_mappings : List Place → List Given → List Mapping
stack_mappings openings refreshes = map stack_mapping (all_given openings refreshes)

-- these rows in order of number: of each number below n in turn, those that have it
unfoldable pub by_number : List Row → ℕ → List Row
by_number rows zero = []
by_number rows (suc n) = by_number rows n ++ filter (λ (r : Row). r.mapping == n) rows

-- the rows are the ledger of the stacks that the lanes were given, in order of number
pub record AreRows (openings : List Place) (refreshes : List Given) (rows : List Row) : Type 0 where
  pub listed : List Row
  pub ledger : IsLedger (stack_mappings openings refreshes) listed
  pub in_order : rows ≡ by_number listed NUMBERS

-- all worker's seats of a table, in order of worker
pub record AreAll (table : TableId) (lanes : ℕ) (seats : List SeatSeen) : Type 0 where
  pub count : length seats ≡ lanes
  pub each : (w : ℕ) → IfSome (slice_get seats w) (λ s. (s.table ≡ table) × (s.worker ≡ w))

-- one lawful history, at whose end no worker holds a stack, has these openings, these refreshes, and for
-- each seat the takes of its worker
pub record HaveHistory (openings : List Place) (refreshes : List Given) (seats : List SeatSeen) : Type 0 where
  pub history : List Event
  pub lawful : AreLawful history
  pub opened : openings_of history ≡ openings
  pub refreshed : refreshes_of history ≡ refreshes
  pub taken : (w : ℕ) → IfSome (slice_get seats w) (λ s. s.taken ≡ takes_of history w)
  pub quiet : (w : ℕ) → held_of history w ≡ None

-- each place that a seat took is that of a row of its worker
abbrev pub HaveRows : List Row → List SeatSeen → Type 0
HaveRows rows seats = (w : ℕ) → IfSome (slice_get seats w) (λ s. All (λ (p : Place). Any (λ (r : Row). (r.who ≡ w) × (r.place ≡ p)) rows) s.taken)
