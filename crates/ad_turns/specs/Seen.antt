-- What contracts see of the table and of its handles.
use Rattle.std.specs.Prelude.{◌≡◌, ℕ, ◌<◌, List, [], length, slice_get, slice_index_or, Some, IfSome}
use Rattle.atomic_table.specs.Seated.{TableId}
use Rattle.ad_base.specs.declared.book.Book.{Book}
use Rattle.ad_turns.specs.declared.view.Turn.{Turn}

-- a table, the books that it was opened with, one for each module, and the draws that each worker might make of each
pub record OpenTurns : Type 0 where
  pub table : TableId
  pub openings : List Book
  pub calls : List (List ℕ)

-- a worker's seat: its table, its worker's number, the draws that are left of each module, and its turns, in order
pub record SeatSeen : Type 0 where
  pub table : TableId
  pub worker : ℕ
  pub left : List ℕ
  pub turns : List Turn

-- a ticket: the seat that drew it, the module, and the number
pub record TicketSeen : Type 0 where
  pub seat : SeatSeen
  pub «module» : ℕ
  pub ticket : ℕ

-- A book whose turn it is: the seat, as it is before the turn, the module, the ticket, the book as it was when
-- the turn began, and as it is
pub record HeldSeen : Type 0 where
  pub seat : SeatSeen
  pub «module» : ℕ
  pub ticket : ℕ
  pub before : Book
  pub book : Book

-- the turn that a held book makes
abbrev pub turn_of : HeldSeen → Turn
turn_of h = record { «module» = h.«module»; position = h.ticket; before = h.before; after = h.book }

-- the seat of a worker that made no turn yet, and may draw as often
abbrev pub new_seat : TableId → ℕ → List ℕ → SeatSeen
new_seat table worker left = record { table = table; worker = worker; left = left; turns = [] }

-- one seat for each of the workers, in order, which made no turn yet
pub record AreNew (table : TableId) (calls : List (List ℕ)) (seats : List SeatSeen) : Type 0 where
  pub count : length seats ≡ length calls
  pub each : (w : ℕ) → w < length calls → slice_get seats w ≡ Some (new_seat table w (slice_index_or calls w []))

-- the seats of all n workers of a table, in order
pub record AreAll (table : TableId) (n : ℕ) (seats : List SeatSeen) : Type 0 where
  pub count : length seats ≡ n
  pub each : (w : ℕ) → IfSome (slice_get seats w) (λ s. (s.table ≡ table) × (s.worker ≡ w))
