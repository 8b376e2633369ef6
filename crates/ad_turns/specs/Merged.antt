-- The turns of all seats, joined to one chain for each module.
use Rattle.std.specs.Prelude.{◌≡◌, ℕ, ◌<◌, List, length, slice_get, All, IfSome, IsSomeAnd}
use Rattle.ad_base.specs.declared.book.Book.{Book}
use Rattle.ad_base.specs.Book.{contents_of}
use Rattle.ad_turns.specs.declared.view.Turn.{Turn}
use Rattle.ad_turns.specs.Seen.{SeatSeen}
use Rattle.ad_turns.specs.Turns.{turns_at, turns_by, turns_of, AreNumbered, AreRising, HaveLengths, AddsOwnEntry, Made, Reaches}

-- The book of a module is reached from its opening book by the turns of all seats at it, in order of position. Each of them
-- is one worker's, and stands in the list of that worker's seat alone.
pub record IsReached (m : ℕ) (opening book : Book) (seats : List SeatSeen) : Type 0 where
  pub made : List Made
  pub numbered : AreNumbered 0 made
  pub reaches : Reaches (contents_of opening) (turns_of made) (contents_of book)
  pub lists : (w : ℕ) → IfSome (slice_get seats w) (λ s. turns_at m s.turns ≡ turns_by w made)
  pub workers : All (λ (e : Made). e.worker < length seats) made

-- and so is that of each module
abbrev pub AreReached : List Book → List Book → List SeatSeen → Type 0
AreReached openings books seats = (m : ℕ) → IfSome (slice_get openings m) (λ opening. IsSomeAnd (slice_get books m) (λ book. IsReached m opening book seats))

-- each book has as much data as its opening book
abbrev pub HaveAllLengths : List Book → List Book → Type 0
HaveAllLengths openings books = (m : ℕ) → IfSome (slice_get openings m) (λ opening. IsSomeAnd (slice_get books m) (λ book. HaveLengths opening book))

-- the turns of a worker are at modules of the table, each added one entry of its own, and the positions at one module rise
pub record AreTurnsOf (modules w : ℕ) (turns : List Turn) : Type 0 where
  pub inside : All (λ (t : Turn). t.«module» < modules) turns
  pub own : All (AddsOwnEntry w) turns
  pub rising : AreRising turns

-- and so are those of each seat, whose worker's they are
abbrev pub AreOwnTurns : List Book → List SeatSeen → Type 0
AreOwnTurns openings seats = (w : ℕ) → IfSome (slice_get seats w) (λ s. AreTurnsOf (length openings) w s.turns)
