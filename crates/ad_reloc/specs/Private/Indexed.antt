-- An index of a list of numbers.
use Rattle.std.specs.Prelude.{◌≡◌, ℕ, ◌==◌, List, Option, slice_index}
use Rattle.std.specs.BTreeMap.{BTreeMap, get}
use Rattle.std.specs.Ordering.{nat_cmp}
use Rattle.ad_elf.specs.Below.{first}

-- the place of the first item below n that is a number
abbrev pub place_below : ℕ → List ℕ → ℕ → Option ℕ
place_below n list q = first (λ e. slice_index list e == q) n

-- the index says for each number where it is first among the first n items
pub record IsIndexed (n : ℕ) (list : List ℕ) (index : BTreeMap ℕ ℕ) : Type 0 where
  pub each_one : (q : ℕ) → get nat_cmp index q ≡ place_below n list q
