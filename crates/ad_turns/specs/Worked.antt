-- A worked account: two workers take turns at module 0, worker 1 first, and worker 0 makes one at module 1.
use Rattle.std.specs.Prelude.{ℕ, ◌+◌, List, [], ◌∷◌}
use Rattle.atomic_table.specs.Seated.{TableId}
use Rattle.ad_base.specs.declared.book.Book.{Book}
use Rattle.ad_base.specs.declared.book.Entry.{Entry}
use Rattle.ad_base.specs.declared.end.End.TheVariants.{Returned}
use Rattle.ad_base.specs.declared.place.Place.{Place}
use Rattle.ad_turns.specs.declared.view.Turn.{Turn}
use Rattle.ad_turns.specs.Seen.{SeatSeen}
use Rattle.ad_turns.specs.Turns.{Made}

abbrev pub worked_place : Place
worked_place = record { region = 2; start = 1; pages = 1; mapping = 1; frame = 0 }

-- an entry of this worker
abbrev pub worked_entry : ℕ → Entry
worked_entry w = record { line = w + 1; worker = w; export = 0; args = []; under = worked_place; stack = worked_place; notes = []; end = Returned 0 }

-- a book with one byte of movable data
abbrev pub worked_book : ℕ → List Entry → Book
worked_book byte entries = record { writable = byte ∷ []; fixed = []; device = []; history = record { entries = entries; room = 2 } }

abbrev pub worked_opening : Book
worked_opening = worked_book 7 []

abbrev pub worked_middle : Book
worked_middle = worked_book 8 (worked_entry 1 ∷ [])

abbrev pub worked_last : Book
worked_last = worked_book 9 (worked_entry 1 ∷ worked_entry 0 ∷ [])

abbrev pub worked_turn : ℕ → ℕ → Book → Book → Turn
worked_turn m t before after = record { «module» = m; position = t; before = before; after = after }

-- the turn of each worker at module 0
abbrev pub worked_earlier : Turn
worked_earlier = worked_turn 0 0 worked_opening worked_middle

abbrev pub worked_later : Turn
worked_later = worked_turn 0 1 worked_middle worked_last

abbrev pub worked_made : List Made
worked_made = record { worker = 1; turn = worked_earlier } ∷ record { worker = 0; turn = worked_later } ∷ []

-- the books of module 1, and the one turn at it
abbrev pub worked_other_opening : Book
worked_other_opening = worked_book 20 []

abbrev pub worked_other_last : Book
worked_other_last = worked_book 21 (worked_entry 0 ∷ [])

abbrev pub worked_other : Turn
worked_other = worked_turn 1 0 worked_other_opening worked_other_last

-- the books of both modules, at first and at the end
abbrev pub worked_openings : List Book
worked_openings = worked_opening ∷ worked_other_opening ∷ []

abbrev pub worked_books : List Book
worked_books = worked_last ∷ worked_other_last ∷ []

-- the seat of a worker that has no draw left, with these turns
abbrev pub worked_seat : TableId → ℕ → List Turn → SeatSeen
worked_seat table w turns = record { table = table; worker = w; left = 0 ∷ 0 ∷ []; turns = turns }

-- the seats of both workers at the end
abbrev pub worked_seats : TableId → List Turn → List Turn → List SeatSeen
worked_seats table first second = worked_seat table 0 first ∷ worked_seat table 1 second ∷ []
