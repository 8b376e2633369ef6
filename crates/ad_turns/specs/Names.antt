-- The words of the table, by name.
use Rattle.std.specs.Prelude.{◌≡◌, ℕ, ◌+◌, ◌<◌, ◌==◌, List, length, slice_index, if◌then◌else◌}
use Rattle.ad_turns.specs.declared.words.TheConstants.{BOOKS, WORDS}

-- how many tickets of a module were drawn, and the one that is served
pub data Name : Type 0 where
  Ticket : ℕ → Name
  Serving : ℕ → Name

-- where the word of a name stands
abbrev pub index : Name → ℕ
index (Ticket m) = 1 + m
index (Serving m) = 1 + BOOKS + m

-- there is a word of this name
abbrev pub IsName : Name → Type 0
IsName (Ticket m) = m < BOOKS
IsName (Serving m) = m < BOOKS

-- f, but x at k
abbrev pub changed : {A : Type 0} → (ℕ → A) → ℕ → A → ℕ → A
changed f k x j = if j == k then x else f j

-- what the words hold, an area at a time
pub record Words : Type 0 where
  pub ticket : ℕ → ℕ
  pub serving : ℕ → ℕ

-- what the word of a name holds
abbrev pub read : Words → Name → ℕ
read ws (Ticket m) = ws.ticket m
read ws (Serving m) = ws.serving m

-- the words, once x was written to the word of a name
abbrev pub wrote : Words → Name → ℕ → Words
wrote ws (Ticket m) x = record ws { ticket = changed ws.ticket m x }
wrote ws (Serving m) x = record ws { serving = changed ws.serving m x }

-- the table's words are these, and word 0 is 0
abbrev pub AreWords : List ℕ → Words → Type 0
AreWords xs ws = (length xs ≡ WORDS) × ((n : Name) → IsName n → slice_index xs (index n) ≡ read ws n) × (slice_index xs 0 ≡ 0)
