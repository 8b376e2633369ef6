-- What the seats of the handles know between two steps.
use Rattle.std.specs.Prelude.{◌≡◌, ℕ, ◌≤◌, List, [], length, Option, Some, None}
use Rattle.atomic_table.specs.Seated.{TableId}
use Rattle.ad_base.specs.declared.book.Book.{Book}
use Rattle.ad_turns.specs.declared.words.TheConstants.{BOOKS, WORDS}
use Rattle.ad_turns.specs.declared.view.Drawn.{Drawn}
use Rattle.ad_turns.specs.declared.view.Turn.{Turn}
use Rattle.ad_turns.specs.declared.view.Stage.{Stage}
use Rattle.ad_turns.specs.declared.view.Stage.TheVariants.{Rests, Waits, Holds, Gives}
use Rattle.ad_turns.specs.declared.view.Hand.{Hand}
use Rattle.ad_turns.specs.declared.view.Doing.{Doing}
use Rattle.ad_turns.specs.declared.view.Doing.TheVariants.{Spent, Worker, Dealer, Gatherer}
use Rattle.ad_turns.specs.Seen.{SeatSeen}
use Rattle.ad_turns.specs.Steps.{hand, no_book, turns_of_view, stage_of, Sat}

-- the seat is of this table, which has the words of a turn table
pub record IsAt (table seat : TableId) : Type 0 where
  pub same : seat ≡ table
  pub words : table.words ≡ WORDS

-- the tickets that a seat drew
abbrev pub drawn_by : Doing → List Drawn
drawn_by Spent = []
drawn_by (Worker w h) = h.drawn
drawn_by (Dealer k calls) = []
drawn_by (Gatherer back) = []

-- the worker of a seat, and the draws that are left to it
abbrev pub worker_of : Doing → ℕ
worker_of Spent = 0
worker_of (Worker w h) = w
worker_of (Dealer k calls) = 0
worker_of (Gatherer back) = 0

abbrev pub left_of : Doing → List ℕ
left_of Spent = []
left_of (Worker w h) = h.left
left_of (Dealer k calls) = []
left_of (Gatherer back) = []

-- the seat is a worker's, does this, and has these slots
abbrev pub IsDoing : Sat → Stage → List (ℕ × Option Book) → Type 0
IsDoing me stage slots = me ≡ (Worker (worker_of me.0) (hand stage (left_of me.0) (drawn_by me.0) (turns_of_view me.0)), slots)

-- the seat is that of the worker w, does this, has so many draws left, and has these slots
pub record IsWorker (me : Sat) (w : ℕ) (stage : Stage) (left : List ℕ) (slots : List (ℕ × Option Book)) : Type 0 where
  pub view : IsDoing me stage slots
  pub worker : worker_of me.0 ≡ w
  pub draws : left_of me.0 ≡ left
  pub few : length left ≤ BOOKS

-- the book that was in the slot when the turn began, and once the turn is noted the book that it leaves
abbrev pub held_in : Stage → Book
held_in Rests = no_book
held_in (Waits m t) = no_book
held_in (Holds m t before) = before
held_in (Gives m t after) = after

abbrev pub held_by : Doing → Book
held_by view = held_in (stage_of view)

-- what the seats knew that were joined
abbrev pub back_of : Doing → List Hand
back_of Spent = []
back_of (Worker w h) = []
back_of (Dealer k calls) = []
back_of (Gatherer back) = back

-- the seat is one that joins the others
abbrev pub IsGatherer : Sat → Type 0
IsGatherer me = me ≡ (Gatherer (back_of me.0), [])

-- the turns that a seat made, as its view and as its handle have them
abbrev pub turns_in : Hand → List Turn
turns_in h = h.turns

abbrev pub turns_shown : SeatSeen → List Turn
turns_shown s = s.turns

-- a slot with a book in it
abbrev pub some_book : Book → Option Book
some_book b = Some b

-- the book of a slot
abbrev pub book_in : Option Book → Book
book_in None = no_book
book_in (Some b) = b
