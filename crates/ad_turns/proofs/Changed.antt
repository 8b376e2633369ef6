-- A function that is changed at one number.
use Rattle.std.proofs.Common.{◌≡◌, ◌≢◌, ℕ, Bool, cond, eq-eqb, ne_eqb, sym, ap, subst}
use mathlib.Core.Logic.{dite}
use native.Mathlib.Decide.{ℕ_discrete}
use Rattle.ad_turns.specs.Names.{changed}

module _ {A : Type 0} (f : ℕ → A) (k : ℕ) (x : A) (j : ℕ) where
  pub changed_here : j ≡ k → changed f k x j ≡ x
  changed_here e = ap (λ (b : Bool). cond b x (f j)) (eq-eqb j k e)

  pub changed_else : j ≢ k → changed f k x j ≡ f j
  changed_else ne = ap (λ (b : Bool). cond b x (f j)) (ne_eqb j k ne)

  -- what holds of x at k, and of f elsewhere, holds of the changed function
  pub at_changed : (P : A → Type 0) → (j ≡ k → P x) → (j ≢ k → P (f j)) → P (changed f k x j)
  at_changed P here else = dite (ℕ_discrete j k) (λ e. subst P (sym (changed_here e)) (here e)) (λ ne. subst P (sym (changed_else ne)) (else ne))

-- two numbers are the same, or not
pub either_way : (j k : ℕ) {T : Type 0} → (j ≡ k → T) → (j ≢ k → T) → T
either_way j k same other = dite (ℕ_discrete j k) same other
