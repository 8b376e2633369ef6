-- Lemmas on sums over the numbers below a bound, and on counts over a list, as the numbered form and its successors need them.
use Rattle.std.proofs.Common.{◌≡◌, ℕ, zero, suc, ◌+◌, ◌*◌, ◌<◌, ◌≤◌, ◌≢◌, Bool, true, false, cond, List, [], ◌∷◌, length, get_or, set, refl, ap, inl, inr, arith}
use Rattle.std.specs.List.{count_by}
use Rattle.std.proofs.lemmas.List.Sums.{sum_by-set, sum_by-cons, get_or-le-sum_by}
use Rattle.std.proofs.lemmas.Bool.{cases_eq}
use Rattle.ad_events.specs.Sums.{sum_below, bit}

-- two functions that agree below n have the same sum
pub sum_below-same : (n : ℕ) (f g : ℕ → ℕ) → ((s : ℕ) → s < n → g s ≡ f s) → sum_below n g ≡ sum_below n f
sum_below-same zero f g alike = refl
sum_below-same (suc n) f g alike =
    let front = sum_below-same n f g (λ s l. alike s (omega arith)) in
    let here = alike n (omega arith) in omega arith

-- what one changed place changes in a sum
pub sum_below-changed : (n : ℕ) (f g : ℕ → ℕ) (i : ℕ) → i < n → ((s : ℕ) → s < n → s ≢ i → g s ≡ f s) → sum_below n g + f i ≡ sum_below n f + g i
sum_below-changed zero f g i l alike = absurd (omega arith)
sum_below-changed (suc n) f g i l alike =
    elim (cases_eq n i) [
      | inl e ↦
          let front = sum_below-same n f g (λ s m. alike s (omega arith) (omega arith)) in
          let fs = ap f e in
          let gs = ap g e in omega arith
      | inr apart ↦
          let front = sum_below-changed n f g i (omega arith) (λ s m. alike s (omega arith)) in
          let here = alike n (omega arith) apart in omega arith
    ]

-- a place is at most the sum
pub sum_below-at : (n : ℕ) (f : ℕ → ℕ) (i : ℕ) → i < n → f i ≤ sum_below n f
sum_below-at zero f i l = absurd (omega arith)
sum_below-at (suc n) f i l =
    elim (cases_eq n i) [
      | inl e ↦ let fs = ap f e in omega arith
      | inr apart ↦ let front = sum_below-at n f i (omega arith) in omega arith
    ]

-- a sum whose places are all the same
pub sum_below-const : (n : ℕ) (f : ℕ → ℕ) (c : ℕ) → ((s : ℕ) → s < n → f s ≡ c) → sum_below n f ≡ n * c
sum_below-const zero f c each = omega arith
sum_below-const (suc n) f c each =
    let front = sum_below-const n f c (λ s l. each s (omega arith)) in
    let here = each n (omega arith) in omega arith

-- a sum whose places are all at most c
pub sum_below-le : (n : ℕ) (f : ℕ → ℕ) (c : ℕ) → ((s : ℕ) → s < n → f s ≤ c) → sum_below n f ≤ n * c
sum_below-le zero f c each = omega arith
sum_below-le (suc n) f c each =
    let front = sum_below-le n f c (λ s l. each s (omega arith)) in
    let here = each n (omega arith) in omega arith

module _ {X : Type 0} where
  -- what one changed element changes in a count
  pub count_by-changed : (p : X → Bool) (xs : List X) (i : ℕ) (y d : X) → i < length xs → count_by p (set xs i y) + bit (p (get_or xs i d)) ≡ count_by p xs + bit (p y)
  count_by-changed p xs i y d l = sum_by-set (λ x. cond (p x) 1 0) xs i y d l

  pub count_by-cons : (p : X → Bool) (x : X) (xs : List X) → count_by p (x ∷ xs) ≡ bit (p x) + count_by p xs
  count_by-cons p x xs = sum_by-cons (λ x. cond (p x) 1 0) x xs

  -- two tests that agree at each element count the same
  pub count_by-same : (p q : X → Bool) (d : X) (xs : List X) → ((i : ℕ) → i < length xs → p (get_or xs i d) ≡ q (get_or xs i d)) → count_by p xs ≡ count_by q xs
  count_by-same p q d [] alike = refl
  count_by-same p q d (x ∷ xs) alike =
      let head = ap bit (alike 0 (omega arith)) in
      let tail = count_by-same p q d xs (λ i l. alike (suc i) (omega arith)) in
      omega (arith, count_by-cons p x xs, count_by-cons q x xs)

  -- a test that holds of no element counts none
  pub count_by-none : (p : X → Bool) (d : X) (xs : List X) → ((i : ℕ) → i < length xs → p (get_or xs i d) ≡ false) → count_by p xs ≡ 0
  count_by-none p d [] none = refl
  count_by-none p d (x ∷ xs) none =
      let head = ap bit (none 0 (omega arith)) in
      let tail = count_by-none p d xs (λ i l. none (suc i) (omega arith)) in
      omega (arith, count_by-cons p x xs)

  -- an element for which the test holds is counted
  pub count_by-at : (p : X → Bool) (xs : List X) (i : ℕ) (d : X) → i < length xs → p (get_or xs i d) ≡ true → 0 < count_by p xs
  count_by-at p xs i d l holds =
      let here = get_or-le-sum_by (λ x. cond (p x) 1 0) xs i d l in
      let one = ap bit holds in omega arith
