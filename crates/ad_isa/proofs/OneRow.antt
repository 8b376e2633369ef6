-- The rows of each opcode exclude one another, so the first that has a word is the only one.
use Rattle.std.proofs.Common.{◌≡◌, ◌↔◌, ℕ, zero, suc, ◌<◌, Bool, true, false, not, cond, ◌&&◌, ◌||◌, ◌==◌, if◌then◌else◌, List, [], ◌∷◌, length, find, Option, Some, option_map, slice_index_or, Any, refl, ap, ◌∙◌, arith}
use Rattle.std.specs.List.{list_all}
use Rattle.std.proofs.lemmas.Bool.Decides.{nat_tests}
use Rattle.ad_isa.specs.declared.instr.Instr.{Instr}
use Rattle.ad_isa.specs.Fields.{opcode}
use Rattle.ad_isa.specs.Table.{Fixed, Free, Funct3, Funct6, Funct7, Whole, fits, Row, rows, decoded, IsWordOf}

-- whether no word has the fixed bits of both, as far as their function fields tell
are_apart : Fixed → Fixed → Bool
are_apart (Funct3 a) (Funct3 c) = not (a == c)
are_apart (Funct3 a) (Funct6 c d) = not (a == c)
are_apart (Funct3 a) (Funct7 c d) = not (a == c)
are_apart (Funct6 a b) (Funct3 c) = not (a == c)
are_apart (Funct6 a b) (Funct6 c d) = not (a == c) || not (b == d)
are_apart (Funct6 a b) (Funct7 c d) = not (a == c)
are_apart (Funct7 a b) (Funct3 c) = not (a == c)
are_apart (Funct7 a b) (Funct6 c d) = not (a == c)
are_apart (Funct7 a b) (Funct7 c d) = not (a == c) || not (b == d)
are_apart (Whole a) (Whole c) = not (a == c)
are_apart f g = false

-- no word has both
are_apart_both : (w : ℕ) (f g : Fixed) → are_apart f g ≡ true → fits w f ≡ true → fits w g ≡ true → ⊥
unfolding are_apart
are_apart_both w Free Free e h k = absurd cc
are_apart_both w Free (Funct3 c) e h k = absurd cc
are_apart_both w Free (Funct6 c d) e h k = absurd cc
are_apart_both w Free (Funct7 c d) e h k = absurd cc
are_apart_both w Free (Whole c) e h k = absurd cc
are_apart_both w (Funct3 a) Free e h k = absurd cc
are_apart_both w (Funct3 a) (Funct3 c) e h k = grind (arith, nat_tests)
are_apart_both w (Funct3 a) (Funct6 c d) e h k = grind (arith, nat_tests)
are_apart_both w (Funct3 a) (Funct7 c d) e h k = grind (arith, nat_tests)
are_apart_both w (Funct3 a) (Whole c) e h k = absurd cc
are_apart_both w (Funct6 a b) Free e h k = absurd cc
are_apart_both w (Funct6 a b) (Funct3 c) e h k = grind (arith, nat_tests)
are_apart_both w (Funct6 a b) (Funct6 c d) e h k = grind (arith, nat_tests)
are_apart_both w (Funct6 a b) (Funct7 c d) e h k = grind (arith, nat_tests)
are_apart_both w (Funct6 a b) (Whole c) e h k = absurd cc
are_apart_both w (Funct7 a b) Free e h k = absurd cc
are_apart_both w (Funct7 a b) (Funct3 c) e h k = grind (arith, nat_tests)
are_apart_both w (Funct7 a b) (Funct6 c d) e h k = grind (arith, nat_tests)
are_apart_both w (Funct7 a b) (Funct7 c d) e h k = grind (arith, nat_tests)
are_apart_both w (Funct7 a b) (Whole c) e h k = absurd cc
are_apart_both w (Whole a) Free e h k = absurd cc
are_apart_both w (Whole a) (Funct3 c) e h k = absurd cc
are_apart_both w (Whole a) (Funct6 c d) e h k = absurd cc
are_apart_both w (Whole a) (Funct7 c d) e h k = absurd cc
are_apart_both w (Whole a) (Whole c) e h k = grind (arith, nat_tests)

-- each row is apart from each later one
all_apart : List Row → Bool
all_apart [] = true
all_apart (r ∷ rs) = list_all (λ (s : Row). are_apart r.fixed s.fixed) rs && all_apart rs

-- what holds of both choices holds of the one that is taken
either : {A : Type 0} (P : A → Type 0) (b : Bool) (x y : A) → P x → P y → P (if b then x else y)
either P true x y px py = px
either P false x y px py = py

rows_apart : (o : ℕ) → all_apart (rows o) ≡ true
unfolding rows all_apart are_apart
rows_apart o =
    either (λ (rs : List Row). all_apart rs ≡ true) (o == 0x37) _ _ refl (either (λ (rs : List Row). all_apart rs ≡ true) (o == 0x17) _ _ refl (either (λ (rs : List Row). all_apart rs ≡ true) (o == 0x6f) _ _ refl (either (λ (rs : List Row). all_apart rs ≡ true) (o == 0x67) _ _ refl (either (λ (rs : List Row). all_apart rs ≡ true) (o == 0x63) _ _ refl (either (λ (rs : List Row). all_apart rs ≡ true) (o == 0x03) _ _ refl (either (λ (rs : List Row). all_apart rs ≡ true) (o == 0x23) _ _ refl (either (λ (rs : List Row). all_apart rs ≡ true) (o == 0x13) _ _ refl (either (λ (rs : List Row). all_apart rs ≡ true) (o == 0x33) _ _ refl (either (λ (rs : List Row). all_apart rs ≡ true) (o == 0x1b) _ _ refl (either (λ (rs : List Row). all_apart rs ≡ true) (o == 0x3b) _ _ refl (either (λ (rs : List Row). all_apart rs ≡ true) (o == 0x0f) _ _ refl (either (λ (rs : List Row). all_apart rs ≡ true) (o == 0x73) _ _ refl (refl)))))))))))))

module _ (w : ℕ) (i : Instr) where
  -- a row has the word and makes the instruction of it
  abbrev Makes : Row → Type 0
  Makes r = (fits w r.fixed ≡ true) × (r.makes w ≡ i)

  -- what the first row makes that has the word
  abbrev first_of : List Row → Option Instr
  first_of rs = option_map (λ (r : Row). r.makes w) (find (λ (r : Row). fits w r.fixed) rs)

  later : (r : Row) (rs : List Row) → Any Makes rs → Any Makes (r ∷ rs)
  later r rs (k, x, below, at, makes) = (suc k, x, omega arith, at, makes)

  made : (r : Row) (rs : List Row) (b : Bool) → fits w r.fixed ≡ b → (first_of rs ≡ Some i → Any Makes rs)
      → option_map (λ (r : Row). r.makes w) (cond b (Some r) (find (λ (r : Row). fits w r.fixed) rs)) ≡ Some i → Any Makes (r ∷ rs)
  made r rs true h rest e = (0, r, omega arith, refl, (h, cc))
  made r rs false h rest e = later r rs (rest e)

  -- what the first row makes that has the word, some row makes
  found : (rs : List Row) → first_of rs ≡ Some i → Any Makes rs
  found [] e = absurd cc
  found (r ∷ rs) e = made r rs (fits w r.fixed) refl (found rs) e

  -- a test that all pass, passes the one at a place
  passes : (p : Row → Bool) (rs : List Row) (k : ℕ) (x : Row) → list_all p rs ≡ true → k < length rs → slice_index_or rs k x ≡ x → p x ≡ true
  passes p [] k x all below at = absurd (omega arith)
  passes p (r ∷ rs) zero x all below at = grind arith
  passes p (r ∷ rs) (suc k) x all below at = passes p rs k x (grind arith) (omega arith) at

  skips : (r : Row) (rs : List Row) (b : Bool) → fits w r.fixed ≡ b → (b ≡ true → ⊥) → first_of rs ≡ Some i → first_of (r ∷ rs) ≡ Some i
  skips r rs true h never e = absurd (never refl)
  skips r rs false h never e = rw h e

  takes : (r : Row) (rs : List Row) → fits w r.fixed ≡ true → r.makes w ≡ i → first_of (r ∷ rs) ≡ Some i
  takes r rs h m = rw h (ap (λ (i : Instr). Some i) m)

  -- where rows are apart, what some row makes the first one makes that has the word
  only : (rs : List Row) → all_apart rs ≡ true → Any Makes rs → first_of rs ≡ Some i
  unfolding all_apart
  only [] apart (k, x, below, at, makes) = absurd (omega arith)
  only (r ∷ rs) apart (zero, x, below, at, makes) = takes r rs (ap (λ (s : Row). fits w s.fixed) at ∙ makes.0) (ap (λ (s : Row). s.makes w) at ∙ makes.1)
  only (r ∷ rs) apart (suc k, x, below, at, makes) =
      let others : list_all (λ (s : Row). are_apart r.fixed s.fixed) rs ≡ true = grind arith in
      let rest : all_apart rs ≡ true = grind arith in
      let differ : are_apart r.fixed x.fixed ≡ true = passes (λ (s : Row). are_apart r.fixed s.fixed) rs k x others (omega arith) at in
      skips r rs (fits w r.fixed) refl (λ h. are_apart_both w r.fixed x.fixed differ h makes.0) (only rs rest (k, x, omega arith, at, makes))

  -- a word is decoded to an instruction exactly where some row of its opcode makes it
  pub decoded_is_word : (decoded w ≡ Some i) ↔ IsWordOf i w
  unfolding decoded
  decoded_is_word = (λ e. found (rows (opcode w)) e, λ h. only (rows (opcode w)) (rows_apart (opcode w)) h)

-- the same, from a decoded word on
pub word_of_decoded : (w : ℕ) (i : Instr) → decoded w ≡ Some i → IsWordOf i w
word_of_decoded w i e = (decoded_is_word w i).0 e
