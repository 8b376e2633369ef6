-- The first number below a bound that passes a test.
use Rattle.std.proofs.Common.{◌≡◌, ℕ, zero, suc, ◌+◌, ◌<◌, Bool, true, false, cond, Option, Some, None, unwrap_or, ◌⊎◌, List, [], ◌∷◌, ◌++◌, append_assoc, refl, sym, ap, ap₂, ◌∙◌, inl, inr, arith, add-one}
use Rattle.std.specs.Option.{option_or}
use Rattle.std.proofs.lemmas.Bool.{cases_order}
use Rattle.ad_elf.specs.Below.{each, first, joined, total}

pub first-zero : (test : ℕ → Bool) → first test 0 ≡ None
unfolding first
first-zero test = refl

-- one number more
pub first_more : (test : ℕ → Bool) (n : ℕ) → first test n ≡ None → test n ≡ false → first test (n + 1) ≡ None
unfolding first
first_more test n before here = rw (add-one, before, here) refl

-- the first that passes is the first below every greater bound
pub first_here : (test : ℕ → Bool) (i n : ℕ) → first test i ≡ None → test i ≡ true → i < n → Some i ≡ first test n
unfolding first
first_here test i zero before here below = absurd (omega arith)
first_here test i (suc n) before here below =
    elim (cases_order i n) [
      | inl same ↦ rw (← same, before, here) refl
      | inr (inl less) ↦ ap (λ (o : Option ℕ). option_or o (cond (test n) (Some n) None)) (first_here test i n before here less)
      | inr (inr more) ↦ absurd (omega arith)
    ]

option_or_none : {X : Type 0} (o p : Option X) → option_or o p ≡ None → (o ≡ None) × (p ≡ None)
option_or_none None p e = (refl, e)
option_or_none (Some x) p e = cc

cond_none : (b : Bool) (n : ℕ) → cond b (Some n) None ≡ None → b ≡ false
cond_none true n e = cc
cond_none false n e = refl

-- where no number is the first, each fails
pub fails_where_none : (test : ℕ → Bool) (n i : ℕ) → first test n ≡ None → i < n → test i ≡ false
unfolding first
fails_where_none test zero i none below = absurd (omega arith)
fails_where_none test (suc n) i none below =
    let parts = option_or_none (first test n) (cond (test n) (Some n) None) none in
    elim (cases_order i n) [
      | inl same ↦ rw same (cond_none (test n) n parts.1)
      | inr (inl less) ↦ fails_where_none test n i parts.0 less
      | inr (inr more) ↦ absurd (omega arith)
    ]

-- the sum over one number more
pub total-zero : (f : ℕ → ℕ) → total f 0 ≡ 0
unfolding total
total-zero f = refl

pub total-more : (f : ℕ → ℕ) (n : ℕ) → total f (n + 1) ≡ total f n + f n
unfolding total
total-more f n = rw add-one refl

-- the lists of one number more
pub joined-zero : {X : Type 0} (f : ℕ → List X) → joined f 0 ≡ []
unfolding joined
joined-zero f = refl

pub joined-more : {X : Type 0} (f : ℕ → List X) (n : ℕ) → joined f (n + 1) ≡ joined f n ++ f n
unfolding joined
joined-more f n = rw add-one refl

-- one item more, behind what was there
pub joined_push : {X : Type 0} (f : ℕ → List X) (n : ℕ) (old new more : List X) → old ≡ joined f n → new ≡ old ++ more → more ≡ f n → new ≡ joined f (n + 1)
joined_push f n old new more before pushed here = pushed ∙ ap₂ (λ (x y : List _). x ++ y) before here ∙ sym (joined-more f n)

pub each_push_behind : {X : Type 0} (front : List X) (f : ℕ → X) (n : ℕ) (old new : List X) (x : X) → old ≡ front ++ each f n → new ≡ old ++ x ∷ [] → x ≡ f n → new ≡ front ++ each f (n + 1)
each_push_behind front f n old new x before pushed here =
    pushed ∙ ap₂ (λ (xs : List _) (y : _). xs ++ y ∷ []) before here ∙ append_assoc front (each f n) (f n ∷ []) ∙ ap (λ (xs : List _). front ++ xs) (sym (joined-more (λ i. f i ∷ []) n))

pub ruleset loop_steps = (first-zero, first_more, first_here, total-zero, total-more, joined-zero, joined-more)

-- where each fails, none is the first
pub none_where_fails : (test : ℕ → Bool) (n : ℕ) → ((i : ℕ) → i < n → test i ≡ false) → first test n ≡ None
unfolding first
none_where_fails test zero fails = refl
none_where_fails test (suc n) fails = rw (none_where_fails test n (λ i below. fails i (omega arith)), fails n (omega arith)) refl

-- before the first each fails
option_or_first : (o : Option ℕ) (b : Bool) (n k : ℕ) → option_or o (cond b (Some n) None) ≡ Some k → (o ≡ Some k) ⊎ ((o ≡ None) × (n ≡ k))
option_or_first None true n k e = inr (refl, ap (λ (o : Option ℕ). unwrap_or o 0) e)
option_or_first None false n k e = cc
option_or_first (Some x) b n k e = inl e

pub fails_before : (test : ℕ → Bool) (n k j : ℕ) → first test n ≡ Some k → j < k → test j ≡ false
unfolding first
fails_before test zero k j found below = cc
fails_before test (suc n) k j found below =
    elim (option_or_first (first test n) (test n) n k found) [
      | inl before ↦ fails_before test n k j before below
      | inr last ↦ fails_where_none test n j last.0 (omega (arith, last.1))
    ]
