-- The laws of the steps: made under its own conditions from any words, slots and views that meet the rule, a step keeps the
-- rule, and the account of the turns changes by what the step is.
use Rattle.std.specs.Prelude.{◌≡◌, ℕ, ◌+◌, ◌%◌, ◌^◌, ◌<◌, ◌≤◌, List, [], ◌∷◌, ◌++◌, length, slice_index, slice_set, Option, Some, Contains}
use mathlib.Core.Option.{some}
use lib.ListN.{get_elem?}
use Rattle.atomic_table.specs.Table.{Act, keeps, takes, gives, stepped}
use Rattle.ad_base.specs.declared.book.Book.{Book}
use Rattle.ad_turns.specs.declared.view.Drawn.{Drawn}
use Rattle.ad_turns.specs.declared.view.Turn.{Turn}
use Rattle.ad_turns.specs.declared.view.Stage.TheVariants.{Rests, Waits, Holds, Gives}
use Rattle.ad_turns.specs.declared.view.Hand.{Hand}
use Rattle.ad_turns.specs.declared.view.Doing.{Doing}
use Rattle.ad_turns.specs.declared.view.Doing.TheVariants.{Spent, Worker, Dealer, Gatherer}
use Rattle.ad_turns.specs.Names.{changed, index, Name, Serving, Ticket}
use Rattle.ad_turns.specs.Rule.{left_to, new_hand, total, HasSlot, Kept, St}
use Rattle.ad_turns.specs.Steps.{draw_at, drawing, hand, ticket_of, IsServed}
use Rattle.ad_turns.specs.Turns.{draws_of, AddsOne, HaveLengths}

module _ (openings : List Book) (calls : List (List ℕ)) where
  -- the step keeps the rule, and no turn is added
  abbrev pub Stays : (s : St) → Kept openings calls s → St → Type 0
  Stays s r s' = (r' : Kept openings calls s') × ((m : ℕ) → r'.made m ≡ r.made m)

  -- the step keeps the rule, and adds a turn of the worker
  abbrev pub Adds : (s : St) → Kept openings calls s → St → ℕ → Turn → Type 0
  Adds s r s' w t = (r' : Kept openings calls s') × ((m : ℕ) → r'.made m ≡ changed r.made t.«module» (r.made t.«module» ++ record { worker = w; turn = t } ∷ []) m)

-- a seat that has these slots writes to the word of a name what f makes of the word that it finds, and its view becomes v
abbrev pub moved : St → ℕ → List (ℕ × Option Book) → Name → (ℕ → ℕ) → Doing → Act (Option Book) → St
moved s id slots n f v act = stepped s (index n) (f (slice_index s.words (index n))) id slots v act

abbrev pub one_more : ℕ → ℕ
one_more n = (n + 1) % 2 ^ 64

-- a worker at rest that has a draw left of the module draws the ticket that it finds, and lowers its draws
abbrev pub DrawLaw : Type 0
DrawLaw = (openings : List Book) (calls : List (List ℕ)) (s : St) (r : Kept openings calls s) (id w m : ℕ) (left : List ℕ) (drawn : List Drawn) (turns : List Turn)
    → get_elem? s.views id ≡ some (Worker w (hand Rests left drawn turns)) → 0 < slice_index left m
    → let found = slice_index s.words (index (Ticket m)) in
    Stays openings calls s r (moved s id [] (Ticket m) one_more (Worker w (drawing m found (hand Rests left drawn turns))) keeps)

-- a worker that finds its own ticket served takes the slot, in which the module's book is
abbrev pub LookLaw : Type 0
LookLaw = (openings : List Book) (calls : List (List ℕ)) (s : St) (r : Kept openings calls s) (id w m t : ℕ) (left : List ℕ) (drawn : List Drawn) (turns : List Turn)
    → get_elem? s.views id ≡ some (Worker w (hand (Waits m t) left drawn turns)) → slice_index s.words (index (Serving m)) ≡ t
    → (b : Book) × (get_elem? s.homes m ≡ some (some (Some b))) × IsServed openings m t b
    × Stays openings calls s r (moved s id [] (Serving m) (λ n. n) (Worker w (hand (Holds m t b) left drawn turns)) (takes m (Some b)))

-- a look by which a worker takes no slot changes nothing: so is one that doesn't find its own ticket served
abbrev pub MissLaw : Type 0
MissLaw = (openings : List Book) (calls : List (List ℕ)) (s : St) (r : Kept openings calls s) (id w m t : ℕ) (left : List ℕ) (drawn : List Drawn) (turns : List Turn)
    → get_elem? s.views id ≡ some (Worker w (hand (Waits m t) left drawn turns))
    → Stays openings calls s r (moved s id [] (Serving m) (λ n. n) (Worker w (hand (Waits m t) left drawn turns)) keeps)

-- what a turn of the worker may make of a book
pub record MayGive (worker : ℕ) (before after : Book) : Type 0 where
  pub entry : AddsOne worker before.history.entries after.history.entries
  pub room : before.history.room ≤ after.history.room + 1
  pub lengths : HaveLengths before after

-- a worker that has the slot notes its turn
abbrev pub NoteLaw : Type 0
NoteLaw = (openings : List Book) (calls : List (List ℕ)) (s : St) (r : Kept openings calls s) (id w m t : ℕ) (before after : Book) (left : List ℕ) (drawn : List Drawn) (turns : List Turn) (slots : List (ℕ × Option Book))
    → get_elem? s.views id ≡ some (Worker w (hand (Holds m t before) left drawn turns)) → MayGive w before after
    → let turn : Turn = record { «module» = m; position = t; before = before; after = after } in
    Adds openings calls s r (moved s id slots (Serving m) (λ n. n) (Worker w (hand (Gives m t after) left drawn (turns ++ turn ∷ []))) keeps) w turn

-- a worker that noted its turn, and put the book into the slot, passes the module on and gives back the slot
abbrev pub PassLaw : Type 0
PassLaw = (openings : List Book) (calls : List (List ℕ)) (s : St) (r : Kept openings calls s) (id w m t : ℕ) (after : Book) (left : List ℕ) (drawn : List Drawn) (turns : List Turn)
    → get_elem? s.views id ≡ some (Worker w (hand (Gives m t after) left drawn turns))
    → Stays openings calls s r (moved s id ((m, Some after) ∷ []) (Serving m) one_more (Worker w (hand Rests left drawn turns)) gives)

-- the seat of the next worker is split off the dealer's
abbrev pub SplitLaw : Type 0
SplitLaw = (openings : List Book) (calls : List (List ℕ)) (s : St) (r : Kept openings calls s) (id k : ℕ) (cs : List (List ℕ))
    → get_elem? s.views id ≡ some (Dealer k cs) → k < length calls
    → Stays openings calls s r (record { words = s.words; homes = s.homes; views = slice_set s.views id (Dealer (k + 1) cs) ++ Worker k (new_hand cs k) ∷ [] })

-- a seat is made that is to join the others
abbrev pub EnterLaw : Type 0
EnterLaw = (openings : List Book) (calls : List (List ℕ)) (s : St) (r : Kept openings calls s)
    → Stays openings calls s r (record { words = s.words; homes = s.homes; views = s.views ++ Gatherer [] ∷ [] })

-- the seat of the next worker, at rest, is joined to the gatherer's
abbrev pub JoinLaw : Type 0
JoinLaw = (openings : List Book) (calls : List (List ℕ)) (s : St) (r : Kept openings calls s) (id other w : ℕ) (back : List Hand) (left : List ℕ) (drawn : List Drawn) (turns : List Turn)
    → get_elem? s.views id ≡ some (Gatherer back) → ¬ (other ≡ id) → get_elem? s.views other ≡ some (Worker w (hand Rests left drawn turns)) → w ≡ length back
    → Stays openings calls s r (record { words = s.words; homes = s.homes; views = slice_set (slice_set s.views id (Gatherer (back ++ hand Rests left drawn turns ∷ []))) other Spent })

-- ---- what the rule says of the draws

-- what the seat of a worker knows is what the account says of the worker
abbrev pub HandsAre : (openings : List Book) (calls : List (List ℕ)) (s : St) → Kept openings calls s → Type 0
HandsAre openings calls s r = (id w : ℕ) (h : Hand) → get_elem? s.views id ≡ some (Worker w h) → r.hands w ≡ h

-- the tickets that were drawn of a module, and the draws that are left to all workers, are together at most the draws of the opening
abbrev pub DrawsLaw : Type 0
DrawsLaw = (openings : List Book) (calls : List (List ℕ)) (s : St) (r : Kept openings calls s)
    → HandsAre openings calls s r × ((m : ℕ) → m < length openings → slice_index s.words (index (Ticket m)) + total (left_to r.hands m) (length calls) ≤ draws_of calls m)

-- the worker drew the ticket
abbrev pub Drew : Hand → ℕ → ℕ → Type 0
Drew h m t = Contains h.drawn (draw_at m t)

-- each ticket below the number of those that were drawn was drawn by one worker, and by no other, and no other ticket was drawn
abbrev pub TicketsLaw : Type 0
TicketsLaw = (openings : List Book) (calls : List (List ℕ)) (s : St) (r : Kept openings calls s) (m t : ℕ) → m < length openings
    → (t < slice_index s.words (index (Ticket m)) → (w : ℕ) × (w < length calls) × Drew (r.hands w) m t)
    × ((v w : ℕ) → v < length calls → w < length calls → Drew (r.hands v) m t → Drew (r.hands w) m t → v ≡ w)
    × ((w : ℕ) → w < length calls → Drew (r.hands w) m t → t < slice_index s.words (index (Ticket m)))

-- ---- what the rule says of the slots

-- a worker that has the slot of a module has the ticket that is served, and no other seat has the slot
abbrev pub HeldLaw : Type 0
HeldLaw = (openings : List Book) (calls : List (List ℕ)) (s : St) (r : Kept openings calls s) (id w m : ℕ) (h : Hand)
    → get_elem? s.views id ≡ some (Worker w h) → HasSlot h.stage m
    → (m < length openings) × (ticket_of h.stage ≡ slice_index s.words (index (Serving m)))
    × ((other v : ℕ) (g : Hand) → get_elem? s.views other ≡ some (Worker v g) → HasSlot g.stage m → other ≡ id)
