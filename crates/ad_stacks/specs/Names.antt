-- The words of the table, by name.
use Rattle.std.specs.Prelude.{◌≡◌, ℕ, ◌+◌, ◌<◌, ◌==◌, List, ◌++◌, map, length, slice_index, if◌then◌else◌}
use Rattle.std.specs.List.{range_with_len}
use Rattle.ad_stacks.specs.declared.words.TheConstants.{LANES, NUMBERS, WORDS}

-- the lane of a worker, the record of a mapping, the mark of a mapping
pub data Name : Type 0 where
  Lane : ℕ → Name
  Record : ℕ → Name
  Mark : ℕ → Name

-- where the word of a name stands
abbrev pub index : Name → ℕ
index (Lane w) = w
index (Record m) = LANES + m
index (Mark m) = LANES + NUMBERS + m

-- there is a word of this name
abbrev pub IsName : Name → Type 0
IsName (Lane w) = w < LANES
IsName (Record m) = m < NUMBERS
IsName (Mark m) = m < NUMBERS

-- f, but x at k
abbrev pub changed : {A : Type 0} → (ℕ → A) → ℕ → A → ℕ → A
changed f k x j = if j == k then x else f j

-- what the words hold, an area at a time
pub record Words : Type 0 where
  pub lane : ℕ → ℕ
  pub recorded : ℕ → ℕ
  pub mark : ℕ → ℕ

-- what the word of a name holds
abbrev pub read : Words → Name → ℕ
read ws (Lane w) = ws.lane w
read ws (Record m) = ws.recorded m
read ws (Mark m) = ws.mark m

-- the words, once x was written to the word of a name
abbrev pub wrote : Words → Name → ℕ → Words
wrote ws (Lane w) x = record ws { lane = changed ws.lane w x }
wrote ws (Record m) x = record ws { recorded = changed ws.recorded m x }
wrote ws (Mark m) x = record ws { mark = changed ws.mark m x }

-- the table's words are these
abbrev pub AreWords : List ℕ → Words → Type 0
AreWords xs ws = (length xs ≡ WORDS) × ((n : Name) → IsName n → slice_index xs (index n) ≡ read ws n)

-- the words, in the order in which they stand
unfoldable pub in_order : Words → List ℕ
in_order ws = map ws.lane (range_with_len 0 LANES) ++ map ws.recorded (range_with_len 0 NUMBERS) ++ map ws.mark (range_with_len 0 NUMBERS)
