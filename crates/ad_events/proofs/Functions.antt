-- Functions of numbers with one changed value, and what an option may be.
use Rattle.std.proofs.Common.{◌≡◌, ◌≢◌, ◌⊎◌, ℕ, cond, Option, Some, None, refl, sym, ap, ◌∙◌, inl, inr, eq-eqb, ne_eqb, true≢false, unwrap_or}
use Rattle.std.specs.Option.{is_some}
use Rattle.std.proofs.lemmas.Bool.{cases_eq}
use Rattle.ad_events.specs.Functions.{changed}

pub some≢none : {A : Type 0} (x : A) → Some x ≡ None → ⊥
some≢none x e = true≢false (ap is_some e)

pub option-cases : {A : Type 0} (o : Option A) → (o ≡ None) ⊎ ((x : A) × (o ≡ Some x))
option-cases None = inl refl
option-cases (Some x) = inr (x, refl)

pub changed-here : {A : Type 0} (f : ℕ → A) (k : ℕ) (x : A) (n : ℕ) → n ≡ k → changed f k x n ≡ x
changed-here f k x n e = ap (λ b. cond b x (f n)) (eq-eqb n k e)

pub changed-else : {A : Type 0} (f : ℕ → A) (k : ℕ) (x : A) (n : ℕ) → n ≢ k → changed f k x n ≡ f n
changed-else f k x n apart = ap (λ b. cond b x (f n)) (ne_eqb n k apart)

-- a function that is f but at k, where it is x
pub changed-is : {A : Type 0} (f g : ℕ → A) (k : ℕ) (x : A) → ((n : ℕ) → n ≡ k → g n ≡ x) → ((n : ℕ) → n ≢ k → g n ≡ f n) → (n : ℕ) → g n ≡ changed f k x n
changed-is f g k x here else n = elim (cases_eq n k) [ inl e ↦ here n e ∙ sym (changed-here f k x n e) | inr apart ↦ else n apart ∙ sym (changed-else f k x n apart) ]

-- a function that tells one number more
pub changed-told : {A : Type 0} (f : ℕ → Option A) (k : ℕ) (x : A) (n : ℕ) (y : A) → changed f k (Some x) n ≡ Some y → ((n ≡ k) × (x ≡ y)) ⊎ (f n ≡ Some y)
changed-told f k x n y e =
    elim (cases_eq n k) [
      | inl same ↦ inl (same, ap (λ o. unwrap_or o x) (sym (changed-here f k (Some x) n same) ∙ e))
      | inr apart ↦ inr (sym (changed-else f k (Some x) n apart) ∙ e)
    ]
