-- The words of the table, by name. An area has a base, and no word of two areas.
use Rattle.std.specs.Prelude.{◌≡◌, ℕ, ◌+◌, ◌*◌, ◌<◌, List, ◌++◌, map, length, slice_index}
use Rattle.std.specs.List.{flat_map, range_with_len}
use Rattle.ad_events.specs.Functions.{changed}
use Rattle.ad_maps.specs.declared.words.TheConstants.{SLOTS, MODULE_WORDS, REGION_WORDS, FRAME_WORDS, CELLS, NUMBERS, MEMBERS, CURRENT_BASE, DIRECTORY_BASE, OWNER_BASE, CELL_BASE, COUNT_BASE, MEMBER_BASE, WORDS}

-- a slot, the current mapping of a module, the directory's word for a region, the owner of a frame, a word of a
-- frame, the count of a batch, a member of a batch
pub data Name : Type 0 where
  Slot : ℕ → Name
  Current : ℕ → Name
  Directory : ℕ → Name
  Owner : ℕ → Name
  Cell : ℕ → ℕ → Name
  Count : ℕ → Name
  Member : ℕ → ℕ → Name

-- where the word of a name stands
abbrev pub index : Name → ℕ
index (Slot s) = s
index (Current m) = CURRENT_BASE + m
index (Directory r) = DIRECTORY_BASE + r
index (Owner f) = OWNER_BASE + f
index (Cell f e) = CELL_BASE + (CELLS * f + e)
index (Count b) = COUNT_BASE + b
index (Member b k) = MEMBER_BASE + (MEMBERS * b + k)

-- there is a word of this name
abbrev pub IsName : Name → Type 0
IsName (Slot s) = s < SLOTS
IsName (Current m) = m < MODULE_WORDS
IsName (Directory r) = r < REGION_WORDS
IsName (Owner f) = f < FRAME_WORDS
IsName (Cell f e) = (f < FRAME_WORDS) × (e < CELLS)
IsName (Count b) = b < NUMBERS
IsName (Member b k) = (b < NUMBERS) × (k < MEMBERS)

-- what the words hold, an area at a time
pub record Words : Type 0 where
  pub slot : ℕ → ℕ
  pub current : ℕ → ℕ
  pub directory : ℕ → ℕ
  pub owner : ℕ → ℕ
  pub cell : ℕ → ℕ → ℕ
  pub count : ℕ → ℕ
  pub member : ℕ → ℕ → ℕ

-- what the word of a name holds
abbrev pub read : Words → Name → ℕ
read ws (Slot s) = ws.slot s
read ws (Current m) = ws.current m
read ws (Directory r) = ws.directory r
read ws (Owner f) = ws.owner f
read ws (Cell f e) = ws.cell f e
read ws (Count b) = ws.count b
read ws (Member b k) = ws.member b k

-- the words, once x was written to the word of a name
abbrev pub wrote : Words → Name → ℕ → Words
wrote ws (Slot s) x = record ws { slot = changed ws.slot s x }
wrote ws (Current m) x = record ws { current = changed ws.current m x }
wrote ws (Directory r) x = record ws { directory = changed ws.directory r x }
wrote ws (Owner f) x = record ws { owner = changed ws.owner f x }
wrote ws (Cell f e) x = record ws { cell = changed ws.cell f (changed (ws.cell f) e x) }
wrote ws (Count b) x = record ws { count = changed ws.count b x }
wrote ws (Member b k) x = record ws { member = changed ws.member b (changed (ws.member b) k x) }

-- the table's words are these
abbrev pub AreWords : List ℕ → Words → Type 0
AreWords xs ws = (length xs ≡ WORDS) × ((n : Name) → IsName n → slice_index xs (index n) ≡ read ws n)

-- the words, in the order in which they stand
unfoldable pub in_order : Words → List ℕ
in_order ws =
    map ws.slot (range_with_len 0 SLOTS)
    ++ map ws.current (range_with_len 0 MODULE_WORDS)
    ++ map ws.directory (range_with_len 0 REGION_WORDS)
    ++ map ws.owner (range_with_len 0 FRAME_WORDS)
    ++ flat_map (λ f. map (ws.cell f) (range_with_len 0 CELLS)) (range_with_len 0 FRAME_WORDS)
    ++ map ws.count (range_with_len 0 NUMBERS)
    ++ flat_map (λ b. map (ws.member b) (range_with_len 0 MEMBERS)) (range_with_len 0 NUMBERS)
