-- The rows of a closed table.
use Rattle.std.proofs.Common.{◌≡◌, ◌≢◌, ℕ, zero, suc, ◌+◌, ◌%◌, ◌^◌, ◌<◌, Bool, cond, eq-eqb, ne_eqb, List, [], ◌∷◌, ◌++◌, append-nil, map, length, get_or, Some, slice_get, sym, refl, ap, ◌∙◌, subst, add-one}
use mathlib.Core.Option.{some, some-injective, some-ne-none}
use lib.ListN.{get_elem?}
use Rattle.ad_base.specs.declared.ledger.Row.{Row}
use Rattle.ad_stacks.specs.StackPlace.{IsStackWord}
use Rattle.ad_stacks.specs.Private.Rows.{row_at, row_in, rows_in, AreRecords}

module _ {A : Type 0} where
  pub at_seam : (xs : List A) (y : A) (ys : List A) → slice_get (xs ++ y ∷ ys) (length xs) ≡ Some y
  at_seam [] y ys = refl
  at_seam (x ∷ xs) y ys = at_seam xs y ys

  pub got : (xs : List A) (i : ℕ) (x d : A) → get_elem? xs i ≡ some x → get_or xs i d ≡ x
  got [] i x d e = absurd (some-ne-none x (sym e))
  got (y ∷ ys) zero x d e = some-injective y x e
  got (y ∷ ys) (suc i) x d e = got ys i x d e

  pub length_map : {B : Type 0} (f : A → B) (xs : List A) → length (map f xs) ≡ length xs
  length_map f [] = refl
  length_map f (x ∷ xs) = ap suc (length_map f xs)

  pub map_one_more : {B : Type 0} (f : A → B) (xs : List A) (x : A) (y : B) → y ≡ f x → map f xs ++ y ∷ [] ≡ map f (xs ++ x ∷ [])
  map_one_more f [] x y e = λ i. e i ∷ []
  map_one_more f (z ∷ zs) x y e = ap (λ ys. f z ∷ ys) (map_one_more f zs x y e)

-- ---- the rows that the words say, number by number
pub rows_in-zero : (words : List ℕ) → rows_in words 0 ≡ []
unfolding rows_in
rows_in-zero words = refl

rows_in-suc : (words : List ℕ) (n : ℕ) → rows_in words (n + 1) ≡ rows_in words n ++ row_in words n
unfolding rows_in
rows_in-suc words n = ap (rows_in words) (add-one n)

pub none_in : (words : List ℕ) (n word : ℕ) (rows : List Row) → rows ≡ rows_in words n → get_elem? words (64 + n) ≡ some word → word ≡ 0 → rows ≡ rows_in words (n + 1)
none_in words n word rows e at zero_word =
    let none : row_in words n ≡ [] = ap (λ (b : Bool). cond {A = List Row} b [] (row_at (get_or words (64 + n) 0) (get_or words (4160 + n) 0) ∷ [])) (eq-eqb (get_or words (64 + n) 0) 0 (got words (64 + n) word 0 at ∙ zero_word)) in
    e ∙ (sym (append-nil (rows_in words n)) ∙ (ap (λ (xs : List Row). rows_in words n ++ xs) (sym none) ∙ sym (rows_in-suc words n)))

pub one_in : (words : List ℕ) (n word mark : ℕ) (rows : List Row) → rows ≡ rows_in words n → get_elem? words (64 + n) ≡ some word → get_elem? words (4160 + n) ≡ some mark → word ≢ 0 → rows ++ row_at word mark ∷ [] ≡ rows_in words (n + 1)
one_in words n word mark rows e at at_mark made =
    let w = got words (64 + n) word 0 at in
    let m = got words (4160 + n) mark 0 at_mark in
    let one : row_in words n ≡ row_at word mark ∷ [] = ap (λ (b : Bool). cond {A = List Row} b [] (row_at (get_or words (64 + n) 0) (get_or words (4160 + n) 0) ∷ [])) (ne_eqb (get_or words (64 + n) 0) 0 (λ z. made (sym w ∙ z))) ∙ (λ i. row_at (w i) (m i) ∷ []) in
    (λ i. e i ++ row_at word mark ∷ []) ∙ (ap (λ (xs : List Row). rows_in words n ++ xs) (sym one) ∙ sym (rows_in-suc words n))

pub word_of_stack : (words : List ℕ) (n word : ℕ) → n < 4096 → get_elem? words (64 + n) ≡ some word → word ≢ 0 → AreRecords words → IsStackWord (word % 2 ^ 48)
word_of_stack words n word few at made are =
    let w = got words (64 + n) word 0 at in
    subst (λ (x : ℕ). IsStackWord (x % 2 ^ 48)) w (are n few (λ z. made (sym w ∙ z)))
