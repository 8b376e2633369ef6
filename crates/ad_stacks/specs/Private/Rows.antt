-- The rows that the words of a closed table say.
use Rattle.std.specs.Prelude.{◌≢◌, ℕ, zero, suc, ◌+◌, ◌/◌, ◌%◌, ◌^◌, ◌<◌, ◌==◌, List, [], ◌∷◌, ◌++◌, slice_index, if◌then◌else◌}
use Rattle.ad_base.specs.declared.ledger.Kind.TheVariants.{Stack}
use Rattle.ad_base.specs.declared.ledger.Row.{Row}
use Rattle.ad_base.specs.Place.{place_at}
use Rattle.ad_stacks.specs.declared.view.Hand.{Hand}
use Rattle.ad_stacks.specs.declared.view.Stance.TheVariants as stance
use Rattle.ad_stacks.specs.declared.words.TheConstants.{LANES, NUMBERS}
use Rattle.ad_stacks.specs.Seen.{SeatSeen}
use Rattle.ad_stacks.specs.StackPlace.{IsStackWord}
use Rattle.ad_stacks.specs.Steps.{hand}

-- the row of a record word and a mark
abbrev pub row_at : ℕ → ℕ → Row
row_at word mark = record {
  mapping = (place_at (word % 2 ^ 48)).mapping;
  kind = Stack;
  who = word / 2 ^ 48 % 2 ^ 8;
  place = place_at (word % 2 ^ 48);
  line = mark;
  unmaps = word / 2 ^ 56;
}

-- the row of the mapping of a number, if it was made
abbrev pub row_in : List ℕ → ℕ → List Row
row_in words m = if slice_index words (LANES + m) == 0 then [] else row_at (slice_index words (LANES + m)) (slice_index words (LANES + NUMBERS + m)) ∷ []

-- the rows of the numbers below n. A goal with an `abbrev` at 4,096 would be computed
unfoldable pub rows_in : List ℕ → ℕ → List Row
rows_in words zero = []
rows_in words (suc n) = rows_in words n ++ row_in words n

-- a record word is 0, or has a stack's place
abbrev pub AreRecords : List ℕ → Type 0
AreRecords words = (m : ℕ) → m < NUMBERS → slice_index words (LANES + m) ≢ 0 → IsStackWord (slice_index words (LANES + m) % 2 ^ 48)

-- what a seat at rest brings back
abbrev pub hand_of : SeatSeen → Hand
hand_of s = hand stance.Rest s.taken
