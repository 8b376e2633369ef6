-- Lines of items that are numbered in order.
use Rattle.std.proofs.Common.{◌≡◌, ℕ, suc, ◌+◌, ◌<◌, ◌≤◌, List, ◌∷◌, ◌++◌, ◌∙◌, length, drop, drop-cons, get_or, ap, sym, add-one, append_assoc}
use Rattle.std.specs.List.{enumerate_from, flat_map}
use Rattle.std.proofs.lemmas.List.{append-nil}
use Rattle.std.proofs.Math.ListN.{drop_of_length-le}

drop-next : {A : Type 0} (xs : List A) (i : ℕ) (x : A) → i < length xs → x ≡ get_or xs i x → drop i xs ≡ x ∷ drop (i + 1) xs
drop-next xs i x within is = rw add-one (drop-cons xs i x within ∙ ap (λ y. y ∷ drop (suc i) xs) (sym is))

-- one line more of those of numbered items
pub more-lines : {A : Type 0} (f : ℕ × A → List ℕ) (text new all : List ℕ) (xs : List A) (i : ℕ) (x : A) → i < length xs → x ≡ get_or xs i x → new ≡ text ++ f (i, x)
    → text ++ flat_map f (enumerate_from i (drop i xs)) ≡ all → new ++ flat_map f (enumerate_from (i + 1) (drop (i + 1) xs)) ≡ all
more-lines f text new all xs i x within is made before =
    let rest = flat_map f (enumerate_from (i + 1) (drop (i + 1) xs)) in
    ap (λ t. t ++ rest) made ∙ append_assoc text (f (i, x)) rest
    ∙ ap (λ ys. text ++ flat_map f (enumerate_from i ys)) (sym (drop-next xs i x within is)) ∙ before

-- no line is left
pub no-more-lines : {A : Type 0} (f : ℕ × A → List ℕ) (text all : List ℕ) (xs : List A) (i : ℕ) → length xs ≤ i → text ++ flat_map f (enumerate_from i (drop i xs)) ≡ all → text ≡ all
no-more-lines f text all xs i end before =
    sym (append-nil text) ∙ ap (λ ys. text ++ flat_map f (enumerate_from i ys)) (sym (drop_of_length-le xs end)) ∙ before
