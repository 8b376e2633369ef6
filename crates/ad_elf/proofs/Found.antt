-- The first element that passes a test, of a list that is gone through by place.
use Rattle.std.proofs.Common.{◌≡◌, inl, inr, ℕ, suc, ◌+◌, ◌<◌, Bool, true, false, List, [], ◌∷◌, ◌++◌, find, get_or, length, take, drop, Some, None, refl, sym, ap, ap₂, ◌∙◌, take-append-drop}
use Rattle.std.specs.Option.{option_or}
use Rattle.std.specs.List.{All}
use Rattle.std.proofs.lemmas.Bool.{cases_Bool}
use Rattle.std.proofs.lemmas.List.Elements.{All-cons, All-head, All-nil, All-tail}
use Rattle.std.proofs.Math.Seq.{drop-cons}
use Rattle.std.proofs.lemmas.List.{take_more}
use Rattle.std.proofs.lemmas.List.Folds.{find-append}

find_first_fails : {X : Type 0} (p : X → Bool) (x : X) (xs : List X) → p x ≡ false → find p (x ∷ xs) ≡ find p xs
find_first_fails p x xs e = rw e refl

find_first_passes : {X : Type 0} (p : X → Bool) (x : X) (xs : List X) → p x ≡ true → find p (x ∷ xs) ≡ Some x
find_first_passes p x xs e = rw e refl

-- one element more
pub find_more : {X : Type 0} (p : X → Bool) (xs : List X) (i : ℕ) (d : X) → find p (take i xs) ≡ None → i < length xs → p (get_or xs i d) ≡ false → find p (take (i + 1) xs) ≡ None
find_more p xs i d none below e =
    let more : take (i + 1) xs ≡ take i xs ++ get_or xs i d ∷ [] = take_more xs i d below in
    ap (find p) more ∙ find-append p (take i xs) (get_or xs i d ∷ []) ∙ ap₂ (λ a b. option_or a b) none (find_first_fails p (get_or xs i d) [] e)

-- the first that passes in the list
pub find_here : {X : Type 0} (p : X → Bool) (xs : List X) (i : ℕ) (d : X) → find p (take i xs) ≡ None → i < length xs → p (get_or xs i d) ≡ true → find p xs ≡ Some (get_or xs i d)
find_here p xs i d none below e =
    ap (find p) (sym (take-append-drop i xs)) ∙ find-append p (take i xs) (drop i xs) ∙ ap₂ (λ a b. option_or a (find p b)) none (drop-cons xs i d below)
    ∙ find_first_passes p (get_or xs i d) (drop (suc i) xs) e

some_is_some : {X : Type 0} (x : X) → Some x ≡ None → ⊥
some_is_some x e = cc

-- where none is the first, each fails
pub find_none : {X : Type 0} (p : X → Bool) (xs : List X) → find p xs ≡ None → All (λ x. p x ≡ false) xs
find_none p [] e = All-nil (λ x. p x ≡ false)
find_none p (x ∷ xs) e =
    elim (cases_Bool (p x)) [
      | inl passes ↦ absurd (some_is_some x (rw passes at e))
      | inr none ↦ All-cons (λ y. p y ≡ false) x xs none (find_none p xs (rw none at e))
    ]

-- and where each fails, none is the first
pub find_where_fails : {X : Type 0} (p : X → Bool) (xs : List X) → All (λ x. p x ≡ false) xs → find p xs ≡ None
find_where_fails p [] all = refl
find_where_fails p (x ∷ xs) all =
    rw (All-head (λ y. p y ≡ false) x xs all) (find_where_fails p xs (All-tail (λ y. p y ≡ false) x xs all))
