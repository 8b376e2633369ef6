-- The rule of the table: a module's book is in its slot, or with the one worker whose ticket is served.
use Rattle.std.specs.Prelude.{◌≡◌, ◌⊎◌, ℕ, zero, suc, ◌+◌, ◌<◌, ◌≤◌, ◌^◌, Bool, true, false, List, [], length, slice_index, slice_index_or, All, Option, Some, Contains}
use mathlib.Core.Option.{some, none}
use mathlib.Core.Option as maybe
use lib.ListN.{get_elem?}
use Rattle.atomic_table.specs.Table.{State}
use Rattle.ad_base.specs.declared.book.Book.{Book}
use Rattle.ad_base.specs.Book.{contents_of}
use Rattle.ad_turns.specs.declared.words.TheConstants.{BOOKS}
use Rattle.ad_turns.specs.declared.view.Drawn.{Drawn}
use Rattle.ad_turns.specs.declared.view.Turn.{Turn}
use Rattle.ad_turns.specs.declared.view.Stage.{Stage}
use Rattle.ad_turns.specs.declared.view.Stage.TheVariants.{Rests, Waits, Holds, Gives}
use Rattle.ad_turns.specs.declared.view.Hand.{Hand}
use Rattle.ad_turns.specs.declared.view.Doing.{Doing}
use Rattle.ad_turns.specs.declared.view.Doing.TheVariants.{Spent, Worker, Dealer, Gatherer}
use Rattle.ad_turns.specs.Names.{AreWords, Words}
use Rattle.ad_turns.specs.Steps.{draw_at, hand, no_book}
use Rattle.ad_turns.specs.Turns.{draws_of, turns_at, turns_by, turns_of, AreNumbered, AreRising, HaveLengths, AddsOwnEntry, Made, Reaches}

-- words, slots and views
abbrev pub St : Type 0
St = State (Option Book) Doing

-- the slots that are not with a seat, each with what it holds
abbrev pub Homes : Type 0
Homes = List (maybe.Option (Option Book))

-- the sum of f over the numbers below n
abbrev pub total : (ℕ → ℕ) → ℕ → ℕ
total f zero = 0
total f (suc n) = total f n + f n

-- the opening book of a module
abbrev pub opening_of : List Book → ℕ → Book
opening_of openings m = slice_index_or openings m no_book

-- the seat has the slot of the module
abbrev pub HasSlot : Stage → ℕ → Type 0
HasSlot Rests m = ⊥
HasSlot (Waits k t) m = ⊥
HasSlot (Holds k t before) m = k ≡ m
HasSlot (Gives k t after) m = k ≡ m

-- a worker's ticket that is served, or will be
pub record IsTicket (ticket serving : ℕ → ℕ) (who : ℕ → ℕ → ℕ) (modules w m t : ℕ) : Type 0 where
  pub inside : m < modules
  pub ahead : serving m ≤ t
  pub drawn : t < ticket m
  pub own : who m t ≡ w

-- the slot of the module is with the worker, whose ticket is served; so many turns were noted, and they leave this book
pub record IsHolder (ticket serving : ℕ → ℕ) (who : ℕ → ℕ → ℕ) (made : ℕ → List Made) (last : ℕ → Book) (modules w m t : ℕ) (book : Book) (turns : ℕ) : Type 0 where
  pub is_ticket : IsTicket ticket serving who modules w m t
  pub served : t ≡ serving m
  pub leaves : book ≡ last m
  pub noted : length (made m) ≡ turns

-- what a worker is doing
module _ (ticket serving : ℕ → ℕ) (who : ℕ → ℕ → ℕ) (made : ℕ → List Made) (last : ℕ → Book) (modules w : ℕ) where
  abbrev pub StageStands : Stage → Type 0
  StageStands Rests = Unit {0}
  StageStands (Waits m t) = IsTicket ticket serving who modules w m t
  StageStands (Holds m t before) = IsHolder ticket serving who made last modules w m t before t
  StageStands (Gives m t after) = IsHolder ticket serving who made last modules w m t after (t + 1)

-- a worker's turns are those that were noted as its own, at the modules of the table
pub record TurnsStand (made : ℕ → List Made) (modules w : ℕ) (turns : List Turn) : Type 0 where
  pub inside : All (λ (t : Turn). t.«module» < modules) turns
  pub listed : (m : ℕ) → turns_at m turns ≡ turns_by w (made m)
  pub behind : All (λ (t : Turn). t.position < length (made t.«module»)) turns
  pub rising : AreRising turns
  pub own : All (AddsOwnEntry w) turns

-- the tickets that a worker drew
pub record DrawnStands (ticket : ℕ → ℕ) (who : ℕ → ℕ → ℕ) (w : ℕ) (drawn : List Drawn) : Type 0 where
  pub own : (m t : ℕ) → Contains drawn (draw_at m t) → (t < ticket m) × (who m t ≡ w)

-- what is known of each worker
pub record HandStands (ticket serving : ℕ → ℕ) (who : ℕ → ℕ → ℕ) (made : ℕ → List Made) (last : ℕ → Book) (modules w : ℕ) (h : Hand) : Type 0 where
  pub wide : length h.left ≡ modules
  pub stage : StageStands ticket serving who made last modules w h.stage
  pub turns : TurnsStand made modules w h.turns
  pub drawn : DrawnStands ticket who w h.drawn

-- the book that is left after n turns, where so many draws might be made
pub record BookStands (opening : Book) (draws n : ℕ) (book : Book) : Type 0 where
  pub entries : length book.history.entries ≡ n
  pub room : draws ≤ n + book.history.room
  pub lengths : HaveLengths opening book

-- the turns at a module, and the book that they leave
pub record ModuleStands (ticket serving : ℕ) (opening : Book) (draws workers : ℕ) (made : List Made) (last : Book) : Type 0 where
  pub few : length made ≤ ticket
  pub passed : serving ≤ length made
  pub book : BookStands opening draws (length made) last
  pub numbered : AreNumbered 0 made
  pub reaches : Reaches (contents_of opening) (turns_of made) (contents_of last)
  pub whose : All (λ (e : Made). e.worker < workers) made

-- the book is in the slot, and no turn is under way
pub record IsAtHome (homes : Homes) (serving m : ℕ) (made : List Made) (last : Book) : Type 0 where
  pub here : get_elem? homes m ≡ some (some (Some last))
  pub quiet : length made ≡ serving

-- the slot is with a worker, or at home
abbrev pub SlotStands : Homes → (ℕ → ℕ) → (ℕ → Hand) → (ℕ → List Made) → (ℕ → Book) → ℕ → Type 0
SlotStands homes serving hands made last m = ((w : ℕ) × HasSlot (hands w).stage m) ⊎ IsAtHome homes (serving m) m (made m) (last m)

-- the draws of a module that are left to the worker
abbrev pub left_to : (ℕ → Hand) → ℕ → ℕ → ℕ
left_to hands m w = slice_index (hands w).left m

-- a worker that may draw as often, and made no turn yet
abbrev pub new_hand : List (List ℕ) → ℕ → Hand
new_hand calls w = hand Rests (slice_index_or calls w []) [] []

-- what the seat of this index knows
module _ (calls : List (List ℕ)) (hands : ℕ → Hand) (owner : ℕ → ℕ) (joined : ℕ → Bool) (dealt dealer : ℕ) (seat : ℕ) where
  abbrev pub Knows : Doing → Type 0
  Knows Spent = Unit {0}
  Knows (Worker w h) = (w < dealt) × (joined w ≡ false) × (owner w ≡ seat) × (h ≡ hands w)
  Knows (Dealer k cs) = (k ≡ dealt) × (cs ≡ calls) × (seat ≡ dealer)
  Knows (Gatherer back) = (w : ℕ) → w < length back → (joined w ≡ true) × ((hands w).stage ≡ Rests) × (get_elem? back w ≡ some (hands w))

-- The words, the slots and the views of a table that was opened with these books and draws. A worker's number has one seat
-- at most, its owner.
pub record Kept (openings : List Book) (calls : List (List ℕ)) (s : St) : Type 0 where
  pub words : Words
  pub hands : ℕ → Hand
  pub who : ℕ → ℕ → ℕ
  pub made : ℕ → List Made
  pub last : ℕ → Book
  pub owner : ℕ → ℕ
  pub joined : ℕ → Bool
  pub dealt : ℕ
  pub dealer : ℕ
  pub few : length openings ≤ BOOKS
  pub small : (m : ℕ) → m < length openings → draws_of calls m < 2 ^ 64
  pub reads : AreWords s.words words
  pub deep : length s.homes ≡ length openings
  pub each_module : (m : ℕ) → m < length openings → ModuleStands (words.ticket m) (words.serving m) (opening_of openings m) (draws_of calls m) (length calls) (made m) (last m)
  pub each_slot : (m : ℕ) → m < length openings → SlotStands s.homes words.serving hands made last m
  pub each_draw : (m : ℕ) → m < length openings → words.ticket m + total (left_to hands m) (length calls) ≤ draws_of calls m
  pub each_ticket : (m t : ℕ) → m < length openings → t < words.ticket m → Contains (hands (who m t)).drawn (draw_at m t)
  pub each_hand : (w : ℕ) → w < length calls → HandStands words.ticket words.serving who made last (length openings) w (hands w)
  pub each_seat : (j : ℕ) (view : Doing) → get_elem? s.views j ≡ some view → Knows calls hands owner joined dealt dealer j view
  pub all_dealt : dealt ≤ length calls
  pub undealt : (w : ℕ) → dealt ≤ w → (hands w ≡ new_hand calls w) × (joined w ≡ false)
