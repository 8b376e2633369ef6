-- The symbols that a table has a word for, as they grow.
use Rattle.std.specs.Prelude.{◌≡◌, ℕ, ◌==◌, List, [], ◌∷◌, ◌++◌, if◌then◌else◌}
use Rattle.std.specs.BTreeSet.{BTreeSet, contains}
use Rattle.std.specs.List.{list_any}
use Rattle.std.specs.Ordering.{nat_cmp}

-- a list with one symbol more, if it hasn't it yet
unfoldable pub with_symbol : List ℕ → ℕ → List ℕ
with_symbol list symbol = if list_any (λ t. t == symbol) list then list else list ++ symbol ∷ []

-- the set has the symbols of the list
pub record HasSymbols (list : List ℕ) (members : BTreeSet ℕ) : Type 0 where
  pub each_one : (q : ℕ) → contains nat_cmp members q ≡ list_any (λ t. t == q) list
