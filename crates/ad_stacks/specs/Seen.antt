-- What contracts see of the table and of its handles.
use Rattle.std.specs.Prelude.{◌≡◌, ℕ, ◌<◌, List, [], length, slice_get, Some}
use Rattle.atomic_table.specs.Seated.{TableId}
use Rattle.ad_base.specs.declared.place.Place.{Place}
use Rattle.ad_stacks.specs.declared.view.Given.{Given}

-- a table, and the places that it was opened with, one for each lane
pub record OpenStacks : Type 0 where
  pub table : TableId
  pub openings : List Place

-- a worker's seat at rest: its table, its worker's number, and the places that it took, in order
pub record SeatSeen : Type 0 where
  pub table : TableId
  pub worker : ℕ
  pub taken : List Place

-- a stack that a worker holds: the seat that took it, and its place
pub record StackSeen : Type 0 where
  pub seat : SeatSeen
  pub place : Place

-- the mover's seat at rest: its table, how many lanes that has, and the refreshes made, in order
pub record MoverSeen : Type 0 where
  pub table : TableId
  pub lanes : ℕ
  pub refreshes : List Given

-- the seat of a worker that took nothing yet
abbrev pub new_seat : TableId → ℕ → SeatSeen
new_seat table w = record { table = table; worker = w; taken = [] }

-- one seat for each of n workers, in order, which took nothing yet
pub record AreNew (table : TableId) (n : ℕ) (seats : List SeatSeen) : Type 0 where
  pub count : length seats ≡ n
  pub each : (w : ℕ) → w < n → slice_get seats w ≡ Some (new_seat table w)
