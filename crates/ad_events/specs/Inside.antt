-- Who is inside what, and how many are inside each mapping.
use Rattle.std.specs.Prelude.{◌≡◌, ℕ, ◌==◌, List, count_by, unwrap_or}
use Rattle.std.specs.Ordering.{nat_cmp}
use Rattle.std.specs.Map.{keys_of, values_of}
use Rattle.std.specs.List.Sorted.{IsStrictlySortedBy}
use Rattle.std.specs.FinMap as map

-- the number at each mapping, 0 where there is none, is how many of the pairs (worker, mapping) have it
pub record IsCounted (counts : map.FinMap nat_cmp ℕ) (pairs : List (ℕ × ℕ)) : Type 0 where
  pub ordered : IsStrictlySortedBy nat_cmp (keys_of pairs)
  pub counted : (mapping : ℕ) → unwrap_or (map.get counts mapping) 0 ≡ count_by (λ m. m == mapping) (values_of pairs)
