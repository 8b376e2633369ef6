-- Two lists side by side, and what a test keeps of a list.
use Rattle.std.proofs.Common.{◌≡◌, ℕ, zero, suc, ◌+◌, Bool, true, false, List, [], ◌∷◌, ◌++◌, length, map, take, slice_get, Some, refl, sym, ap, ◌∙◌, cond, arith}
use Rattle.std.specs.List.{filter, zip}

-- a pair is of an item of each
pub zip-read : {A B : Type 0} (xs : List A) (ys : List B) (k : ℕ) (z : A × B) → slice_get (zip xs ys) k ≡ Some z → (slice_get xs k ≡ Some z.0) × (slice_get ys k ≡ Some z.1)
zip-read [] ys k z e = absurd cc
zip-read (x ∷ xs) [] k z e = absurd cc
zip-read {A = A} {B = B} (x ∷ xs) (y ∷ ys) zero z e = let same : (x, y) ≡ z = cc in (ap (λ (w : A × B). Some w.0) same, ap (λ (w : A × B). Some w.1) same)
zip-read (x ∷ xs) (y ∷ ys) (suc k) z e = zip-read xs ys k z e

pub read-zip : {A B : Type 0} (xs : List A) (ys : List B) (k : ℕ) (x : A) (y : B) → slice_get xs k ≡ Some x → slice_get ys k ≡ Some y → slice_get (zip xs ys) k ≡ Some (x, y)
read-zip [] ys k x y e f = absurd cc
read-zip (v ∷ xs) [] k x y e f = absurd cc
read-zip (v ∷ xs) (w ∷ ys) zero x y e f = let first : v ≡ x = cc in let second : w ≡ y = cc in λ j. Some (first j, second j)
read-zip (v ∷ xs) (w ∷ ys) (suc k) x y e f = read-zip xs ys k x y e f

-- more behind two lists of one length
pub zip-append : {A B : Type 0} (xs more : List A) (ys others : List B) → length xs ≡ length ys → zip (xs ++ more) (ys ++ others) ≡ zip xs ys ++ zip more others
zip-append [] more [] others e = refl
zip-append [] more (y ∷ ys) others e = absurd (omega (arith, e))
zip-append (x ∷ xs) more [] others e = absurd (omega (arith, e))
zip-append (x ∷ xs) more (y ∷ ys) others e = ap (λ zs. (x, y) ∷ zs) (zip-append xs more ys others (omega (arith, e)))

-- one more in front of a second list that goes on
pub zip-push : {A B : Type 0} (xs : List A) (x : A) (ys : List B) (y : B) → slice_get ys (length xs) ≡ Some y → zip (xs ++ x ∷ []) ys ≡ zip xs ys ++ (x, y) ∷ []
zip-push [] x [] y e = absurd cc
zip-push [] x (z ∷ ys) y e = let same : z ≡ y = cc in ap (λ w. (x, w) ∷ []) same
zip-push (w ∷ xs) x [] y e = absurd cc
zip-push (w ∷ xs) x (z ∷ ys) y e = ap (λ zs. (w, z) ∷ zs) (zip-push xs x ys y e)

-- the first items of a list, with the next one
pub take-next : {A : Type 0} (xs : List A) (n : ℕ) (x : A) → slice_get xs n ≡ Some x → take (n + 1) xs ≡ take n xs ++ x ∷ []
take-next [] n x e = absurd cc
take-next (y ∷ xs) zero x e = let same : y ≡ x = cc in ap (λ z. z ∷ []) same
take-next (y ∷ xs) (suc n) x e = let at : suc n + 1 ≡ suc (n + 1) = omega arith in ap (λ k. take k (y ∷ xs)) at ∙ ap (λ zs. y ∷ zs) (take-next xs n x e)

-- a test of the first of two alone, where the second list is as long
kept-first : {A B : Type 0} (b : Bool) (x : A) (y : B) (zs : List (A × B)) → map (λ (z : A × B). z.0) (cond b ((x, y) ∷ zs) zs) ≡ cond b (x ∷ map (λ (z : A × B). z.0) zs) (map (λ (z : A × B). z.0) zs)
kept-first true x y zs = refl
kept-first false x y zs = refl

pub firsts-kept : {A B : Type 0} (p : A → Bool) (xs : List A) (ys : List B) → length xs ≡ length ys → map (λ (z : A × B). z.0) (filter (λ (z : A × B). p z.0) (zip xs ys)) ≡ filter p xs
firsts-kept p [] ys e = refl
firsts-kept p (x ∷ xs) [] e = absurd (omega (arith, e))
firsts-kept {A = A} {B = B} p (x ∷ xs) (y ∷ ys) e =
    kept-first (p x) x y (filter (λ (z : A × B). p z.0) (zip xs ys))
    ∙ ap (λ zs. cond (p x) (x ∷ zs) zs) (firsts-kept p xs ys (omega (arith, e)))

-- a test of what a function makes of the items
kept-made : {A B : Type 0} (f : A → B) (b : Bool) (x : A) (xs : List A) → map f (cond b (x ∷ xs) xs) ≡ cond b (f x ∷ map f xs) (map f xs)
kept-made f true x xs = refl
kept-made f false x xs = refl

pub filter-made : {A B : Type 0} (p : B → Bool) (f : A → B) (xs : List A) → filter p (map f xs) ≡ map f (filter (λ x. p (f x)) xs)
filter-made p f [] = refl
filter-made p f (x ∷ xs) = ap (λ ys. cond (p (f x)) (f x ∷ ys) ys) (filter-made p f xs) ∙ sym (kept-made f (p (f x)) x (filter (λ y. p (f y)) xs))

-- an item that was kept is one of all
kept-by : {A : Type 0} (b : Bool) (x : A) (xs kept : List A) → ((n : ℕ) (y : A) → slice_get kept n ≡ Some y → (k : ℕ) × (slice_get xs k ≡ Some y))
    → (n : ℕ) (y : A) → slice_get (cond b (x ∷ kept) kept) n ≡ Some y → (k : ℕ) × (slice_get (x ∷ xs) k ≡ Some y)
kept-by true x xs kept h zero y e = (0, e)
kept-by true x xs kept h (suc n) y e = let found = h n y e in (suc found.0, found.1)
kept-by false x xs kept h n y e = let found = h n y e in (suc found.0, found.1)

pub filter-read : {A : Type 0} (p : A → Bool) (xs : List A) (n : ℕ) (y : A) → slice_get (filter p xs) n ≡ Some y → (k : ℕ) × (slice_get xs k ≡ Some y)
filter-read p [] n y e = absurd cc
filter-read p (x ∷ xs) n y e = kept-by (p x) x xs (filter p xs) (filter-read p xs) n y e
