-- The registers at the start of a call.
use Rattle.std.proofs.Common.{◌≡◌, ℕ, ◌+◌, ◌<◌, List, [], ◌∷◌, ◌++◌, length, set, refl, arith}
use Rattle.ad_symbolic.specs.Machine.{first_values}
use Rattle.ad_symbolic.specs.declared.value.Value.TheVariants.{Num}

-- one more argument is put behind those that have their registers
pub first_values-push : (xs : List ℕ) (a : ℕ) → length xs < 8 → set (first_values xs) (10 + length xs) (Num a) ≡ first_values (xs ++ a ∷ [])
unfolding first_values
first_values-push [] a h = refl
first_values-push (x1 ∷ []) a h = refl
first_values-push (x1 ∷ x2 ∷ []) a h = refl
first_values-push (x1 ∷ x2 ∷ x3 ∷ []) a h = refl
first_values-push (x1 ∷ x2 ∷ x3 ∷ x4 ∷ []) a h = refl
first_values-push (x1 ∷ x2 ∷ x3 ∷ x4 ∷ x5 ∷ []) a h = refl
first_values-push (x1 ∷ x2 ∷ x3 ∷ x4 ∷ x5 ∷ x6 ∷ []) a h = refl
first_values-push (x1 ∷ x2 ∷ x3 ∷ x4 ∷ x5 ∷ x6 ∷ x7 ∷ []) a h = refl
first_values-push (x1 ∷ x2 ∷ x3 ∷ x4 ∷ x5 ∷ x6 ∷ x7 ∷ x8 ∷ xs) a h = absurd (omega arith)
