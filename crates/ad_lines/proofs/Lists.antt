-- One more element of a list that is gone through.
use Rattle.std.proofs.Common.{◌≡◌, ℕ, suc, ◌+◌, ◌<◌, List, ◌∷◌, ◌∙◌, ap, sym, length, drop, get_or, add-one}
use Rattle.std.proofs.Math.Seq.{drop-cons}

-- what is left from a place on is the element there, and what is left behind it
pub drop-next : {A : Type 0} (xs : List A) (i : ℕ) (x : A) → i < length xs → x ≡ get_or xs i x → drop i xs ≡ x ∷ drop (i + 1) xs
drop-next xs i x within is = drop-cons xs i x within ∙ (rw add-one (ap (λ y. y ∷ drop (suc i) xs) (sym is)))
