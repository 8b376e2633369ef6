-- The items of one line, in a list in order of lines.
use Rattle.std.proofs.Common.{◌≡◌, ℕ, ◌-◌, ◌<◌, ◌≤◌, zero, suc, List, [], ◌∷◌, length, take, drop, filter, slice_range, cond, ◌==◌, refl, sym, ap, ◌∙◌, arith, tests}
use Rattle.std.specs.List.Sorted.{IsPartitionPoint}
use Rattle.std.proofs.Math.Nat.{sub-zero}
use Rattle.std.proofs.Math.Seq.{take-nil, drop-nil}

-- without the first item, the index is one lower
point_tail : {X : Type 0} (P Q : X → Type 0) (x : X) (xs : List X) (i j : ℕ) → j ≡ i - 1 → IsPartitionPoint P Q (x ∷ xs) i → IsPartitionPoint P Q xs j
point_tail P Q x xs i j e h = (λ k d from to. h.0 (suc k) d (omega arith) (omega arith), λ k d from to. h.1 (suc k) d (omega arith) (omega arith))

module _ {X : Type 0} (n : X → ℕ) (line : ℕ) where
  -- the items before the first of this line or a later one, and those before the first of a later one
  abbrev pub IsFirst : List X → ℕ → Type 0
  IsFirst xs first = IsPartitionPoint (λ x. n x < line) (λ x. line ≤ n x) xs first

  abbrev pub IsEnd : List X → ℕ → Type 0
  IsEnd xs end = IsPartitionPoint (λ x. n x ≤ line) (λ x. line < n x) xs end

  first_tail : (x : X) (xs : List X) (i j : ℕ) → j ≡ i - 1 → IsFirst (x ∷ xs) i → IsFirst xs j
  first_tail = point_tail (λ x. n x < line) (λ x. line ≤ n x)

  end_tail : (x : X) (xs : List X) (i j : ℕ) → j ≡ i - 1 → IsEnd (x ∷ xs) i → IsEnd xs j
  end_tail = point_tail (λ x. n x ≤ line) (λ x. line < n x)

  other : (x : X) (later : List X) → (n x ≡ line → ⊥) → cond (n x == line) (x ∷ later) later ≡ later
  other x later ne = grind (arith, tests)

  same : (x : X) (later : List X) → n x ≡ line → cond (n x == line) (x ∷ later) later ≡ x ∷ later
  same x later e = grind (arith, tests)

  -- those of the line are the items between the two indices
  pub items_between : (xs : List X) (a b : ℕ) → IsFirst xs a → IsEnd xs b → slice_range xs a b ≡ filter (λ x. n x == line) xs
  items_between [] a b first end = rw (drop-nil {A = X} a, take-nil {A = X} (b - a)) refl
  items_between (x ∷ xs) zero zero first end =
      let high : line < n x = end.1 0 x (omega arith) (omega arith) in
      items_between xs 0 0 (first_tail x xs 0 0 refl first) (end_tail x xs 0 0 refl end) ∙ sym (other x (filter (λ y. n y == line) xs) (λ e. omega arith))
  items_between (x ∷ xs) zero (suc b) first end =
      let low : line ≤ n x = first.1 0 x (omega arith) (omega arith) in
      let high : n x ≤ line = end.0 0 x (omega arith) (omega arith) in
      let later : take b xs ≡ filter (λ y. n y == line) xs = simp sub-zero at (items_between xs 0 b (first_tail x xs 0 0 refl first) (end_tail x xs (suc b) b (omega arith) end)) in
      simp sub-zero (ap (λ ys. x ∷ ys) later ∙ sym (same x (filter (λ y. n y == line) xs) (omega arith)))
  items_between (x ∷ xs) (suc a) zero first end =
      let low : n x < line = first.0 0 x (omega arith) (omega arith) in
      let high : line < n x = end.1 0 x (omega arith) (omega arith) in
      absurd (omega arith)
  items_between (x ∷ xs) (suc a) (suc b) first end =
      let low : n x < line = first.0 0 x (omega arith) (omega arith) in
      ap (λ (count : ℕ). take count (drop a xs)) (omega arith)
      ∙ items_between xs a b (first_tail x xs (suc a) a (omega arith) first) (end_tail x xs (suc b) b (omega arith) end)
      ∙ sym (other x (filter (λ y. n y == line) xs) (λ e. omega arith))

  -- the two indices are in order
  pub first_le_end : (xs : List X) (a b : ℕ) → a ≤ length xs → IsFirst xs a → IsEnd xs b → a ≤ b
  first_le_end [] a b le first end = omega arith
  first_le_end (x ∷ xs) a b le first end = grind (arith, first.0 b x, end.1 b x)
