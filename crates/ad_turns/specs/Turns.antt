-- The turns at the books of the modules.
use Rattle.std.specs.Prelude.{◌≡◌, ℕ, ◌+◌, ◌<◌, ◌==◌, Bool, List, [], ◌∷◌, ◌++◌, length, filter, map, slice_index, sum_by, AllPairs}
use Rattle.ad_base.specs.declared.book.Book.{Book}
use Rattle.ad_base.specs.declared.book.Entry.{Entry}
use Rattle.ad_base.specs.Book.{Contents, contents_of}
use Rattle.ad_turns.specs.declared.view.Turn.{Turn}

-- the draws of a module that these workers may make together
abbrev pub draws_of : List (List ℕ) → ℕ → ℕ
draws_of calls m = sum_by (λ (c : List ℕ). slice_index c m) calls

-- the entries after are those before and one of this worker
pub record AddsOne (worker : ℕ) (before after : List Entry) : Type 0 where
  pub entry : Entry
  pub added : after ≡ before ++ entry ∷ []
  pub own : entry.worker ≡ worker

-- the turn added one entry, of this worker
abbrev pub AddsOwnEntry : ℕ → Turn → Type 0
AddsOwnEntry worker t = AddsOne worker t.before.history.entries t.after.history.entries

-- the book has as much data of both kinds as the other
pub record HaveLengths (opening book : Book) : Type 0 where
  pub writable : length book.writable ≡ length opening.writable
  pub fixed : length book.fixed ≡ length opening.fixed

abbrev pub is_of : ℕ → Turn → Bool
is_of m t = t.«module» == m

-- the turns at a module, in order
abbrev pub turns_at : ℕ → List Turn → List Turn
turns_at m turns = filter (is_of m) turns

-- among the turns at one module the positions rise
abbrev pub AreRising : List Turn → Type 0
AreRising turns = AllPairs (λ (t u : Turn). t.«module» ≡ u.«module» → t.position < u.position) turns

-- what the book holds at the end is reached from what it held at first: each turn begins with what the one before it left
abbrev pub Reaches : Contents → List Turn → Contents → Type 0
Reaches first [] last = first ≡ last
Reaches first (t ∷ turns) last = (contents_of t.before ≡ first) × Reaches (contents_of t.after) turns last

-- a turn that was made, with the worker whose it is
pub record Made : Type 0 where
  pub worker : ℕ
  pub turn : Turn

-- the positions count up from n
abbrev pub AreNumbered : ℕ → List Made → Type 0
AreNumbered n [] = Unit {0}
AreNumbered n (e ∷ made) = (e.turn.position ≡ n) × AreNumbered (n + 1) made

-- the turns that were made
abbrev pub turns_of : List Made → List Turn
turns_of made = map (λ (e : Made). e.turn) made

-- those of one worker
abbrev pub turns_by : ℕ → List Made → List Turn
turns_by worker made = turns_of (filter (λ (e : Made). e.worker == worker) made)
