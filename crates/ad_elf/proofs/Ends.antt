-- Where a string ends.
use Rattle.std.proofs.Common.{◌≡◌, inl, inr, ℕ, zero, suc, ◌+◌, ◌<◌, Bool, true, false, cond, ltb, List, [], ◌∷◌, length, take, Option, Some, None, is_some, unwrap_or, refl, ap, sym, ◌∙◌, arith}
use Rattle.std.specs.List.{list_any, position_or_len}
use Rattle.std.proofs.lemmas.Bool.{cases_Bool, lt-ltb, ltb-true}
use Rattle.std.proofs.lemmas.Bool.Decides.{nat_tests}

-- the place of the first that passes, where there is one
pub some_place : (test : ℕ → Bool) (text : List ℕ) (found : Option ℕ) (end : ℕ) → found ≡ Some end → found ≡ cond (ltb (position_or_len test text) (length text)) (Some (position_or_len test text)) None
    → (end ≡ position_or_len test text) × (position_or_len test text < length text)
some_place test text found end some e =
    elim (cases_Bool (ltb (position_or_len test text) (length text))) [
      | inl inside ↦ (
          let same : Some end ≡ Some (position_or_len test text) = sym some ∙ e ∙ rw inside refl in
          (ap (λ (o : Option ℕ). unwrap_or o 0) same, ltb-true _ _ inside))
      | inr outside ↦ (
          let none : Some end ≡ None = sym some ∙ e ∙ rw outside refl in
          cc)
    ]

is_some-cond : (b : Bool) (n : ℕ) → is_some (cond b (Some n) None) ≡ b
is_some-cond true n = refl
is_some-cond false n = refl

-- one passes where the first place is inside
inside_any : (test : ℕ → Bool) (text : List ℕ) → ltb (position_or_len test text) (length text) ≡ list_any test text
inside_any test [] = refl
inside_any test (x ∷ text) =
    elim (cases_Bool (test x)) [
      | inl passes ↦ rw passes (lt-ltb 0 (length (x ∷ text)) (omega arith))
      | inr fails ↦ (
          let same : ltb (1 + position_or_len test text) (length (x ∷ text)) ≡ ltb (position_or_len test text) (length text) = grind (arith, nat_tests) in
          rw fails (same ∙ inside_any test text))
    ]

pub is_some-found : (test : ℕ → Bool) (text : List ℕ) (found : Option ℕ) → found ≡ cond (ltb (position_or_len test text) (length text)) (Some (position_or_len test text)) None → is_some found ≡ list_any test text
is_some-found test text found e = ap is_some e ∙ is_some-cond (ltb (position_or_len test text) (length text)) (position_or_len test text) ∙ inside_any test text

-- the first place among the first so many is the first of all
pub first_among : (test : ℕ → Bool) (n : ℕ) (text : List ℕ) → position_or_len test (take n text) < length (take n text) → position_or_len test (take n text) ≡ position_or_len test text
first_among test zero text inside = absurd (omega arith)
first_among test (suc n) [] inside = refl
first_among test (suc n) (x ∷ text) inside =
    elim (cases_Bool (test x)) [
      | inl passes ↦ rw passes refl
      | inr fails ↦ (
          let less : 1 + position_or_len test (take n text) < length (x ∷ take n text) = (rw fails at inside) in
          rw fails (ap (λ (k : ℕ). 1 + k) (first_among test n text (omega arith))))
    ]
