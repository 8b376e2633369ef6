-- The table as it is opened, and as seats are dealt from it.
use Rattle.std.specs.Prelude.{◌≡◌, ℕ, ◌^◌, ◌<◌, ◌≤◌, List, [], ◌∷◌, length, map, replicate, slice_get, All, IfSome, Some}
use Rattle.std.specs.List.{range_with_len}
use Rattle.atomic_table.specs.Table.{opening}
use Rattle.ad_base.specs.declared.book.Book.{Book}
use Rattle.ad_base.specs.declared.layout.TheConstants.{MODULES, WORKERS}
use Rattle.ad_turns.specs.declared.words.TheConstants.{WORDS}
use Rattle.ad_turns.specs.declared.view.Doing.{Doing}
use Rattle.ad_turns.specs.declared.view.Doing.TheVariants.{Dealer, Worker}
use Rattle.ad_turns.specs.Names.{AreWords, Words}
use Rattle.ad_turns.specs.Rule.{new_hand, Kept, St}
use Rattle.ad_turns.specs.Turns.{draws_of}

-- A table may be opened with these books, one for each module, and these draws, one list for each worker.
pub record MayBeOpened (openings : List Book) (calls : List (List ℕ)) : Type 0 where
  pub workers_from : 1 ≤ length calls
  pub workers_to : length calls ≤ WORKERS
  pub modules : length openings ≤ MODULES
  pub wide : All (λ (left : List ℕ). length left ≡ length openings) calls
  pub empty : All (λ (b : Book). b.history.entries ≡ []) openings
  pub room : (m : ℕ) → IfSome (slice_get openings m) (λ b. draws_of calls m ≤ b.history.room)
  pub small : (m : ℕ) → m < length openings → draws_of calls m < 2 ^ 64

-- the words that a table begins with
abbrev pub opening_words : List ℕ
opening_words = replicate WORDS 0

-- no ticket of any module was drawn, and the first one is served next
abbrev pub none_drawn : Words
none_drawn = record { ticket = λ m. 0; serving = λ m. 0 }

-- each book is in its own slot, in order, and the one seat deals all draws
abbrev pub opened : List Book → List (List ℕ) → St
opened openings calls = opening opening_words (map (λ (b : Book). Some b) openings) (Dealer 0 calls)

-- what the seat of the worker w knows, who has its draws and made no turn
abbrev pub new_worker : List (List ℕ) → ℕ → Doing
new_worker calls w = Worker w (new_hand calls w)

-- the first k workers have been dealt their seats
abbrev pub dealt : List Book → List (List ℕ) → ℕ → St
dealt openings calls k = record (opened openings calls) { views = Dealer k calls ∷ map (new_worker calls) (range_with_len 0 k) }

-- the words that a table begins with say that no ticket was drawn
abbrev pub WordsLaw : Type 0
WordsLaw = AreWords opening_words none_drawn

-- the table as it is opened meets the rule
abbrev pub OpenedLaw : Type 0
OpenedLaw = (openings : List Book) (calls : List (List ℕ)) → MayBeOpened openings calls → Kept openings calls (opened openings calls)

-- and so it does behind each seat that is dealt
abbrev pub DealtLaw : Type 0
DealtLaw = (openings : List Book) (calls : List (List ℕ)) (k : ℕ) → MayBeOpened openings calls → k ≤ length calls → Kept openings calls (dealt openings calls k)
