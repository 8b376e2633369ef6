-- What is read of a part of a list, and what holds of each element that is read.
use Rattle.std.proofs.Common.{◌≡◌, ℕ, zero, suc, ◌<◌, ◌≤◌, List, [], ◌∷◌, ◌++◌, length, get_or, slice_get, Some, refl, subst, arith}
use Rattle.std.specs.List.{All, AllPairs, Contains}
use Rattle.std.specs.List.Sorted.{IsNonDecreasingBy}
use Rattle.std.proofs.lemmas.List.Elements.{All-cons, All-head, All-nil, All-tail}
use Rattle.std.proofs.lemmas.Option.{slice_get_within}
use Rattle.ad_lines.proofs.Kept.{read}

-- what holds of all holds of the one that is read
pub all-read : {A : Type 0} (P : A → Type 0) (xs : List A) (k : ℕ) (x : A) → All P xs → slice_get xs k ≡ Some x → P x
all-read P xs k x h e = subst P (read xs k x x e) (h k x (slice_get_within xs k x e))

-- what holds of each that is read holds of all
pub all-reads : {A : Type 0} (P : A → Type 0) (xs : List A) → ((k : ℕ) (x : A) → slice_get xs k ≡ Some x → P x) → All P xs
all-reads P [] h k d within = absurd (omega arith)
all-reads P (x ∷ xs) h zero d within = h 0 x refl
all-reads P (x ∷ xs) h (suc k) d within = all-reads P xs (λ i y e. h (suc i) y e) k d (omega arith)

-- an element that is read is one of them
pub contains-read : {A : Type 0} (xs : List A) (k : ℕ) (x : A) → slice_get xs k ≡ Some x → Contains xs x
contains-read xs k x e = (k, slice_get_within xs k x e, read xs k x x e)

-- two elements that are read, one before the other
pub pairs-read : {A : Type 0} (R : A → A → Type 0) (xs : List A) (i j : ℕ) (x y : A) → AllPairs R xs → i < j → slice_get xs i ≡ Some x → slice_get xs j ≡ Some y → R x y
pairs-read R xs i j x y h less e f =
    let both = h i j x less (slice_get_within xs j y f) in
    subst (λ a. R a y) (read xs i x x e) (subst (λ b. R (get_or xs i x) b) (read xs j y x f) both)

-- the first of them with each later one, and the later ones among themselves
pub pairs-head : {A : Type 0} (R : A → A → Type 0) (x : A) (xs : List A) → AllPairs R (x ∷ xs) → All (R x) xs
pairs-head R x xs h k d within = h 0 (suc k) d (omega arith) (omega arith)

pub pairs-tail : {A : Type 0} (R : A → A → Type 0) (x : A) (xs : List A) → AllPairs R (x ∷ xs) → AllPairs R xs
pairs-tail R x xs h i j d less within = h (suc i) (suc j) d (omega arith) (omega arith)

-- the element behind the others
pub read-seam : {A : Type 0} (xs : List A) (x : A) (ys : List A) → slice_get (xs ++ x ∷ ys) (length xs) ≡ Some x
read-seam [] x ys = refl
read-seam (y ∷ xs) x ys = read-seam xs x ys

-- one more before the others, which is no higher
pub rises-cons : {A : Type 0} (n : A → ℕ) (x : A) (xs : List A) → All (λ y. n x ≤ n y) xs → IsNonDecreasingBy n xs → IsNonDecreasingBy n (x ∷ xs)
rises-cons n x xs low h zero zero d le within = omega arith
rises-cons n x xs low h zero (suc j) d le within = low j d (omega arith)
rises-cons n x xs low h (suc i) zero d le within = absurd (omega arith)
rises-cons n x xs low h (suc i) (suc j) d le within = h i j d (omega arith) (omega arith)

-- what holds of all holds of the front and of what is behind it
pub all-front : {A : Type 0} (P : A → Type 0) (xs ys : List A) → All P (xs ++ ys) → All P xs
all-front P [] ys h = All-nil P
all-front P (x ∷ xs) ys h = All-cons P x xs (All-head P x (xs ++ ys) h) (all-front P xs ys (All-tail P x (xs ++ ys) h))

pub all-back : {A : Type 0} (P : A → Type 0) (xs ys : List A) → All P (xs ++ ys) → All P ys
all-back P [] ys h = h
all-back P (x ∷ xs) ys h = all-back P xs ys (All-tail P x (xs ++ ys) h)
