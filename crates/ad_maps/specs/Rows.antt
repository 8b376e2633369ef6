-- The rows of a closed table: one for each mapping that was made, in order of number.
use Rattle.std.specs.Prelude.{◌≡◌, ℕ, ◌+◌, ◌<◌, ◌==◌, List, length, slice_get, sum_by, Contains, AllPairs, IfSome, if◌then◌else◌}
use Rattle.atomic_table.specs.Seated.{TableId}
use Rattle.ad_base.specs.declared.ledger.Kind.TheVariants.{Code}
use Rattle.ad_base.specs.declared.ledger.Row.{Row}
use Rattle.ad_base.specs.declared.place.Place.{Place}
use Rattle.ad_maps.specs.declared.shape.Shape.{Shape}
use Rattle.ad_maps.specs.declared.view.Act.TheVariants as act
use Rattle.ad_maps.specs.declared.view.Deed.{Deed}
use Rattle.ad_maps.specs.declared.view.Deed.TheVariants as deed
use Rattle.ad_maps.specs.declared.view.Made.{Made}
use Rattle.ad_maps.specs.Ledger.{line_in, unmaps_in_acts, unmaps_in_deeds}
use Rattle.ad_maps.specs.Seen.{SeatSeen, MoverSeen}

-- a closed table: what the table was opened with, its rows, and the seats that it was closed with
pub record ClosedSeen : Type 0 where
  pub shape : Shape
  pub rows : List Row
  pub mover : MoverSeen
  pub seats : List SeatSeen

-- all worker's seats of a table, in order of worker
pub record AreAllSeats (table : TableId) (workers : ℕ) (seats : List SeatSeen) : Type 0 where
  pub count : length seats ≡ workers
  pub each : (w : ℕ) → IfSome (slice_get seats w) (λ s. (s.table ≡ table) × (s.worker ≡ w))

-- the row of a mapping: with the line under which the mover retired it, and unmapped once, or 0 and never
abbrev pub row_of : List Deed → Made → Row
row_of deeds g = record {
  mapping = g.place.mapping;
  kind = Code;
  who = g.of_module;
  place = g.place;
  line = line_in deeds g.place.mapping;
  unmaps = if line_in deeds g.place.mapping == 0 then 0 else 1;
}

-- each of these mappings has its row
abbrev pub HaveRowOfEach : List Made → List Deed → List Row → Type 0
HaveRowOfEach gs deeds rows = (g : Made) → Contains gs g → Contains rows (row_of deeds g)

-- each row is that of one of these mappings
abbrev pub AreRowsOf : List Made → List Deed → List Row → Type 0
AreRowsOf gs deeds rows = (r : Row) → Contains rows r → (g : Made) × Contains gs g × (r ≡ row_of deeds g)

-- the numbers of the rows rise, so that no mapping has two
abbrev pub AreInOrder : List Row → Type 0
AreInOrder rows = AllPairs (λ (r q : Row). r.mapping < q.mapping) rows

-- each place that a seat read is that of a row of the module that it read
abbrev pub HaveReadRows : List Row → List SeatSeen → Type 0
HaveReadRows rows seats = (w : ℕ) → IfSome (slice_get seats w) (λ s. (m : ℕ) (p : Place) → Contains s.acts (act.Read m p) → (r : Row) × Contains rows r × (r.who ≡ m) × (r.place ≡ p))

-- how often the lists tell an unmap of the mapping of a number: the mover's, and those of all seats, together
abbrev pub unmaps_told : List Deed → List SeatSeen → ℕ → ℕ
unmaps_told deeds seats n = unmaps_in_deeds deeds n + sum_by (λ (s : SeatSeen). unmaps_in_acts s.acts n) seats

-- all lists together tell as many unmaps of a row's mapping as the row says: one, so that one list alone tells it, or none
abbrev pub HaveUnmapsTold : List Row → List Deed → List SeatSeen → Type 0
HaveUnmapsTold rows deeds seats = (r : Row) → Contains rows r → unmaps_told deeds seats r.mapping ≡ r.unmaps

-- the mapping of this number has a row, which says that it was unmapped
abbrev pub IsUnmappedIn : List Row → ℕ → Type 0
IsUnmappedIn rows n = (r : Row) × Contains rows r × (r.mapping ≡ n) × (r.unmaps ≡ 1)

-- and each unmap that stands in one of the lists is that of a row which says so
pub record HaveUnmappedRows (rows : List Row) (deeds : List Deed) (seats : List SeatSeen) : Type 0 where
  pub by_mover : (n : ℕ) → Contains deeds (deed.Unmap n) → IsUnmappedIn rows n
  pub by_seats : (w : ℕ) → IfSome (slice_get seats w) (λ s. (n : ℕ) → Contains s.acts (act.Unmap n) → IsUnmappedIn rows n)
