-- What is read of a list once it has one more item, one other item, or its items mapped.
use Rattle.std.proofs.Common.{◌≡◌, ◌≢◌, ◌⊎◌, ℕ, zero, suc, ◌+◌, List, [], ◌∷◌, ◌++◌, length, map, get_or, slice_get, Some, inl, inr, refl, ap, subst, ◌∙◌, arith}
use Rattle.std.specs.List.{All, enumerate_from}
use Rattle.std.proofs.Math.ListN.{set}
use Rattle.std.proofs.lemmas.Option.{get_or_from_slice_get, slice_get-get_or, slice_get_within}

-- what holds of each item that is read
abbrev pub Each : {A : Type 0} → (A → Type 0) → List A → Type 0
Each {A} P xs = (k : ℕ) (x : A) → slice_get xs k ≡ Some x → P x

pub each-all : {A : Type 0} (P : A → Type 0) (xs : List A) → All P xs → Each P xs
each-all P xs h k x e = subst P (get_or_from_slice_get xs k x x e) (h k x (slice_get_within xs k x e))

pub all-each : {A : Type 0} (P : A → Type 0) (xs : List A) → Each P xs → All P xs
all-each P xs h k d within = h k (get_or xs k d) (slice_get-get_or xs k d within)

pub each-tail : {A : Type 0} (P : A → Type 0) (x : A) (xs : List A) → Each P (x ∷ xs) → Each P xs
each-tail P x xs h k y e = h (suc k) y e

-- an item of a longer list is one of the list or the new one
pub push-read : {A : Type 0} (xs : List A) (y : A) (k : ℕ) (x : A) → slice_get (xs ++ y ∷ []) k ≡ Some x → (slice_get xs k ≡ Some x) ⊎ ((k ≡ length xs) × (y ≡ x))
push-read [] y zero x e = let same : y ≡ x = cc in inr (refl, same)
push-read [] y (suc k) x e = absurd cc
push-read (z ∷ zs) y zero x e = inl e
push-read (z ∷ zs) y (suc k) x e = elim (push-read zs y k x e) [
  | inl h ↦ inl h
  | inr h ↦ inr (ap suc h.0, h.1)
]

pub each-push : {A : Type 0} (P : A → Type 0) (xs : List A) (y : A) → Each P xs → P y → Each P (xs ++ y ∷ [])
each-push P xs y h p k x e = elim (push-read xs y k x e) [
  | inl old ↦ h k x old
  | inr new ↦ subst P new.1 p
]

-- an item stays where others come behind it
pub read-front : {A : Type 0} (xs ys : List A) (k : ℕ) (x : A) → slice_get xs k ≡ Some x → slice_get (xs ++ ys) k ≡ Some x
read-front [] ys k x e = absurd cc
read-front (z ∷ zs) ys zero x e = e
read-front (z ∷ zs) ys (suc k) x e = read-front zs ys k x e

pub read-last : {A : Type 0} (xs : List A) (y : A) → slice_get (xs ++ y ∷ []) (length xs) ≡ Some y
read-last [] y = refl
read-last (x ∷ xs) y = read-last xs y

-- an item of a list in which one was replaced
pub set-read : {A : Type 0} (xs : List A) (n : ℕ) (y : A) (k : ℕ) (x : A) → slice_get (set xs n y) k ≡ Some x → ((k ≡ n) × (y ≡ x)) ⊎ ((k ≢ n) × (slice_get xs k ≡ Some x))
set-read [] n y k x e = absurd cc
set-read (z ∷ zs) zero y zero x e = let same : y ≡ x = cc in inl (refl, same)
set-read (z ∷ zs) zero y (suc k) x e = inr ((λ h. absurd (omega (arith, h))), e)
set-read (z ∷ zs) (suc n) y zero x e = inr ((λ h. absurd (omega (arith, h))), e)
set-read (z ∷ zs) (suc n) y (suc k) x e = elim (set-read zs n y k x e) [
  | inl h ↦ inl (ap suc h.0, h.1)
  | inr h ↦ inr ((λ j. h.0 (omega (arith, j))), h.1)
]

-- an item of a mapped list
pub map-read : {A B : Type 0} (f : A → B) (xs : List A) (k : ℕ) (y : B) → slice_get (map f xs) k ≡ Some y → (x : A) × (slice_get xs k ≡ Some x) × (f x ≡ y)
map-read f [] k y e = absurd cc
map-read f (x ∷ xs) zero y e = let same : f x ≡ y = cc in (x, refl, same)
map-read f (x ∷ xs) (suc k) y e = map-read f xs k y e

pub read-map : {A B : Type 0} (f : A → B) (xs : List A) (k : ℕ) (x : A) → slice_get xs k ≡ Some x → slice_get (map f xs) k ≡ Some (f x)
read-map f [] k x e = absurd cc
read-map f (z ∷ zs) zero x e = let same : z ≡ x = cc in ap (λ v. Some (f v)) same
read-map f (z ∷ zs) (suc k) x e = read-map f zs k x e

-- an item of a numbered list
pub read-enumerate : {A : Type 0} (n : ℕ) (xs : List A) (k : ℕ) (x : A) → slice_get xs k ≡ Some x → slice_get (enumerate_from n xs) k ≡ Some (n + k, x)
read-enumerate n [] k x e = absurd cc
read-enumerate n (y ∷ ys) zero x e = let same : y ≡ x = cc in let at : n ≡ n + 0 = omega arith in λ j. Some (at j, same j)
read-enumerate n (y ∷ ys) (suc k) x e = let at : n + 1 + k ≡ n + suc k = omega arith in read-enumerate (n + 1) ys k x e ∙ ap (λ i. Some (i, x)) at
