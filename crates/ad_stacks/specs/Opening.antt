-- The table as `open` makes it: what it may be opened with, its words, and the views of the seats, as each is dealt.
use Rattle.std.specs.Prelude.{◌≡◌, ◌≢◌, ℕ, ◌<◌, ◌≤◌, ◌==◌, Bool, List, [], ◌∷◌, map, length, slice_get, slice_index, All, AllPairs, Some}
use Rattle.std.specs.List.{enumerate_from, find, range_with_len}
use Rattle.std.specs.Option.{option_map_or}
use Rattle.atomic_table.specs.Table.{opening}
use Rattle.ad_base.specs.declared.place.Place.{Place}
use Rattle.ad_stacks.specs.declared.view.Stance.TheVariants as stance
use Rattle.ad_stacks.specs.declared.view.Doing.{Doing}
use Rattle.ad_stacks.specs.declared.view.Doing.TheVariants.{Worker, Mover}
use Rattle.ad_stacks.specs.declared.words.TheConstants.{LANES, NUMBERS, WORDS}
use Rattle.ad_stacks.specs.Names.{Lane, Record, Mark, index, Words, in_order}
use Rattle.ad_stacks.specs.Rule.{St, Kept, starting, starting_plan}
use Rattle.ad_stacks.specs.StackPlace.{lane_word, record_word, IsStackPlace}
use Rattle.ad_stacks.specs.Steps.{hand}

-- a table may be opened with these places, one for each lane
pub record MayOpenWith (openings : List Place) : Type 0 where
  pub few : length openings ≤ LANES
  pub places : All IsStackPlace openings
  pub differ : AllPairs (λ (p q : Place). p.mapping ≢ q.mapping) openings

-- ---- the words

-- the lane's stack has the number m
abbrev pub has_number : ℕ → ℕ × Place → Bool
has_number m (lane, p) = p.mapping == m

-- the record word of a lane's stack, on which no unmap step was made
abbrev pub new_record : ℕ × Place → ℕ
new_record (lane, p) = record_word p lane 0

-- the record word of the mapping m, or 0 where it isn't made
abbrev pub opening_record : List Place → ℕ → ℕ
opening_record openings m = option_map_or new_record (find (has_number m) (enumerate_from 0 openings)) 0

-- what the words hold
abbrev pub opening_words : List Place → Words
opening_words openings = record { lane = λ w. lane_word (slice_get openings w); recorded = opening_record openings; mark = λ m. 0 }

-- Read by name, the words say that each lane has its stack, that no unmap step was made on it, that no other mapping is
-- made, and that none was replaced
pub record AreOpeningWords (openings : List Place) (words : List ℕ) : Type 0 where
  pub count : length words ≡ WORDS
  pub lanes : (w : ℕ) → w < LANES → slice_index words (index (Lane w)) ≡ lane_word (slice_get openings w)
  pub records : (w : ℕ) (p : Place) → slice_get openings w ≡ Some p → slice_index words (index (Record p.mapping)) ≡ record_word p w 0
  pub unmade : (m : ℕ) → m < NUMBERS → All (λ (p : Place). p.mapping ≢ m) openings → slice_index words (index (Record m)) ≡ 0
  pub marks : (m : ℕ) → m < NUMBERS → slice_index words (index (Mark m)) ≡ 0

-- ---- the words and the views

-- the mover's view once the first k workers have been dealt their seats
abbrev pub mover_dealt : List Place → ℕ → Doing
mover_dealt openings k = Mover (record (starting_plan openings) { dealt = k })

-- the view of the seat that a worker is dealt: it is at rest, and took nothing
abbrev pub worker_dealt : ℕ → Doing
worker_dealt w = Worker w (hand stance.Rest [])

-- the table as it is opened
abbrev pub opened_table : List Place → St
opened_table openings = opening (in_order (opening_words openings)) [] (starting openings)

-- the table once the first k workers have been dealt their seats
abbrev pub dealt_table : List Place → ℕ → St
dealt_table openings k = record { words = in_order (opening_words openings); homes = []; views = mover_dealt openings k ∷ map worker_dealt (range_with_len 0 k) }

-- ---- the laws

-- the words that a table is opened with are an opening table's
abbrev pub OpeningWordsLaw : Type 0
OpeningWordsLaw = (openings : List Place) → MayOpenWith openings → AreOpeningWords openings (opened_table openings).words

-- the table as it is opened meets the rule
abbrev pub OpenedLaw : Type 0
OpenedLaw = (openings : List Place) → MayOpenWith openings → Kept openings (opened_table openings)

-- and so does it behind each seat that is dealt
abbrev pub DealtLaw : Type 0
DealtLaw = (openings : List Place) → MayOpenWith openings → (k : ℕ) → k ≤ length openings → Kept openings (dealt_table openings k)
