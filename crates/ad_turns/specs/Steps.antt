-- What each step makes of the view of its seat, and of the word that it found.
use Rattle.std.specs.Prelude.{◌≡◌, ◌≢◌, ℕ, ◌+◌, ◌-◌, ◌<◌, List, [], ◌∷◌, ◌++◌, length, slice_index, slice_set, slice_get, slice_index_or, Option, Some, IsSomeAnd}
use Rattle.atomic_table.specs.Table.{Me, Step, rest}
use Rattle.ad_base.specs.declared.book.Book.{Book}
use Rattle.ad_turns.specs.declared.view.Drawn.{Drawn}
use Rattle.ad_turns.specs.declared.view.Turn.{Turn}
use Rattle.ad_turns.specs.declared.view.Stage.{Stage}
use Rattle.ad_turns.specs.declared.view.Stage.TheVariants.{Rests, Waits, Holds, Gives}
use Rattle.ad_turns.specs.declared.view.Hand.{Hand}
use Rattle.ad_turns.specs.declared.view.Doing.{Doing}
use Rattle.ad_turns.specs.declared.view.Doing.TheVariants.{Spent, Worker, Dealer, Gatherer}
use Rattle.ad_turns.specs.Names.{Ticket, index}
use Rattle.ad_turns.specs.Turns.{AreRising, HaveLengths}

-- a seat of the table: its view, and the slots that it has
abbrev pub Sat : Type 0
Sat = Me (Option Book) Doing

abbrev pub At : Type 0
At = Step (Option Book)

abbrev pub hand : Stage → List ℕ → List Drawn → List Turn → Hand
hand stage left drawn turns = record { stage = stage; left = left; drawn = drawn; turns = turns }

-- no book: what no note leaves
abbrev pub no_book : Book
no_book = record { writable = []; fixed = []; device = []; history = record { entries = []; room = 0 } }

abbrev pub draw_at : ℕ → ℕ → Drawn
draw_at m t = record { «module» = m; ticket = t }

-- a worker has drawn the ticket that the step found, and one draw less
abbrev pub drawing : ℕ → ℕ → Hand → Hand
drawing m t h = hand (Waits m t) (slice_set h.left m (slice_index h.left m - 1)) (h.drawn ++ draw_at m t ∷ []) h.turns

-- what a seat does changes, and nothing else that it knows
abbrev pub staged : Stage → Doing → Doing
staged stage Spent = Spent
staged stage (Worker w h) = Worker w (record h { stage = stage })
staged stage (Dealer k calls) = Dealer k calls
staged stage (Gatherer back) = Gatherer back

abbrev pub after_draw : ℕ → Doing → ℕ → Doing
after_draw m Spent found = Spent
after_draw m (Worker w h) found = Worker w (drawing m found h)
after_draw m (Dealer k calls) found = Dealer k calls
after_draw m (Gatherer back) found = Gatherer back

-- the turn that a stage makes, if the book after it is this one
abbrev pub turn_at : Stage → Book → List Turn
turn_at Rests after = []
turn_at (Waits m t) after = []
turn_at (Holds m t before) after = record { «module» = m; position = t; before = before; after = after } ∷ []
turn_at (Gives m t before) after = []

abbrev pub giving : Stage → Book → Stage
giving Rests after = Rests
giving (Waits m t) after = Waits m t
giving (Holds m t before) after = Gives m t after
giving (Gives m t before) after = Gives m t before

-- a worker has noted its turn, which leaves this book
abbrev pub after_note : Book → Doing → Doing
after_note after Spent = Spent
after_note after (Worker w h) = Worker w (hand (giving h.stage after) h.left h.drawn (h.turns ++ turn_at h.stage after))
after_note after (Dealer k calls) = Dealer k calls
after_note after (Gatherer back) = Gatherer back

-- what a seat is doing
abbrev pub stage_of : Doing → Stage
stage_of Spent = Rests
stage_of (Worker w h) = h.stage
stage_of (Dealer k calls) = Rests
stage_of (Gatherer back) = Rests

abbrev pub turns_of_view : Doing → List Turn
turns_of_view Spent = []
turns_of_view (Worker w h) = h.turns
turns_of_view (Dealer k calls) = []
turns_of_view (Gatherer back) = []

abbrev pub module_of : Stage → ℕ
module_of Rests = 0
module_of (Waits m t) = m
module_of (Holds m t before) = m
module_of (Gives m t after) = m

abbrev pub ticket_of : Stage → ℕ
ticket_of Rests = 0
ticket_of (Waits m t) = t
ticket_of (Holds m t before) = t
ticket_of (Gives m t after) = t

-- what is known of the book of a module where a ticket of it is served
pub record IsServed (openings : List Book) (m t : ℕ) (book : Book) : Type 0 where
  pub entries : length book.history.entries ≡ t
  pub room : 0 < book.history.room
  pub lengths : IsSomeAnd (slice_get openings m) (λ opening. HaveLengths opening book)

-- what a draw tells: the ticket is the number that it found
abbrev pub Draws : At → Sat → ℕ → Sat → Type 0
Draws st me found me' = me' ≡ (after_draw (st.word - index (Ticket 0)) me.0 found, me.1)

-- the seat has the slot of the module, with the book in it
pub record Has (openings : List Book) (me me' : Sat) : Type 0 where
  pub book : Book
  pub view : me' ≡ (staged (Holds (module_of (stage_of me.0)) (ticket_of (stage_of me.0)) book) me.0, (module_of (stage_of me.0), Some book) ∷ me.1)
  pub served : IsServed openings (module_of (stage_of me.0)) (ticket_of (stage_of me.0)) book

-- what a look tells: the seat has the slot where its ticket is served, and else is as it was
pub record Looks (openings : List Book) (st : At) (me : Sat) (found : ℕ) (me' : Sat) : Type 0 where
  pub hit : found ≡ ticket_of (stage_of me.0) → Has openings me me'
  pub miss : found ≢ ticket_of (stage_of me.0) → me' ≡ me

-- what a give's look tells: the turn is noted
pub record Notes (after : Book) (st : At) (me : Sat) (found : ℕ) (me' : Sat) : Type 0 where
  pub view : me' ≡ (after_note after me.0, me.1)
  pub rising : AreRising (turns_of_view me'.0)

-- what a pass tells: the seat has given back the slot
abbrev pub Passes : At → Sat → ℕ → Sat → Type 0
Passes st me found me' = me' ≡ (staged Rests me.0, rest me.1)

-- a worker's seat is split off the dealer's
abbrev pub after_deal : Doing → Doing
after_deal Spent = Spent
after_deal (Worker w h) = Worker w h
after_deal (Dealer k calls) = Dealer (k + 1) calls
after_deal (Gatherer back) = Gatherer back

-- the seat of the next worker
abbrev pub given_off : Doing → Doing
given_off Spent = Spent
given_off (Worker w h) = Spent
given_off (Dealer k calls) = Worker k (hand Rests (slice_index_or calls k []) [] [])
given_off (Gatherer back) = Spent

-- what it tells to make a seat that joins the others
abbrev pub Enters : At → Sat → ℕ → Sat → Type 0
Enters st me found me' = me' ≡ (Gatherer [], [])

-- a worker's seat is joined to the gatherer's
abbrev pub after_join : Doing → Doing → Doing
after_join (Gatherer back) (Worker w h) = Gatherer (back ++ h ∷ [])
after_join view other = view
