-- What a test keeps of a list, and what holds of the items of a mapped list.
use Rattle.std.proofs.Common.{◌≡◌, ℕ, ◌<◌, Bool, false, cond, List, [], ◌∷◌, length, map, get_or, refl, sym, ap, ◌∙◌, subst, ⊎_elim, arith}
use Rattle.std.specs.List.{All, AllPairs, Contains, filter, flat_map}
use Rattle.std.proofs.Math.ListN.{get_or-map}
use Rattle.std.proofs.lemmas.List.{length-map}
use Rattle.std.proofs.lemmas.List as lists
use Rattle.std.proofs.lemmas.List.Elements.{All-head, All-tail, Contains-append_left, Contains-append_right}
use Rattle.ad_maps.proofs.Elements.{cons-cases, cons-here, cons-later, none-in}

-- tests that agree on each item keep the same
pub filter-alike : {A : Type 0} (p q : A → Bool) (xs : List A) → All (λ x. p x ≡ q x) xs → filter p xs ≡ filter q xs
filter-alike p q [] h = refl
filter-alike {A = A} p q (x ∷ xs) h =
    let P : A → Type 0 = λ y. p y ≡ q y in
    let first : p x ≡ q x = All-head P x xs h in
    let later : filter p xs ≡ filter q xs = filter-alike p q xs (All-tail P x xs h) in
    λ j. cond (first j) (x ∷ later j) (later j)

-- a test that each item fails keeps none
pub filter-none : {A : Type 0} (p : A → Bool) (xs : List A) → All (λ x. p x ≡ false) xs → filter p xs ≡ []
filter-none p [] h = refl
filter-none {A = A} p (x ∷ xs) h =
    let P : A → Type 0 = λ y. p y ≡ false in
    ap (λ b. cond b (x ∷ filter p xs) (filter p xs)) (All-head P x xs h) ∙ filter-none p xs (All-tail P x xs h)

module _ {A B : Type 0} (f : A → B) where
  -- what holds of all images of items
  pub all-mapped : (P : B → Type 0) (xs : List A) → All P (map f xs) → All (λ x. P (f x)) xs
  all-mapped P xs h k d within = subst P (get_or-map f xs k d) (h k (f d) (omega (arith, within, length-map xs f)))

  -- and of pairs of them
  pub pairs-mapped : (R : B → B → Type 0) (xs : List A) → AllPairs R (map f xs) → AllPairs (λ x y. R (f x) (f y)) xs
  pairs-mapped R xs h i j d less within =
      subst (λ b. R (f (get_or xs i d)) b) (get_or-map f xs j d)
      (subst (λ a. R a (get_or (map f xs) j (f d))) (get_or-map f xs i d) (h i j (f d) less (omega (arith, within, length-map xs f))))

  pub contains-map : (xs : List A) (x : A) → Contains xs x → Contains (map f xs) (f x)
  contains-map xs x c = (c.0, (let l = c.1 in omega (arith, l, length-map xs f)), get_or-map f xs c.0 x ∙ ap f c.2)

  pub contains-mapped : (xs : List A) (y : B) → Contains (map f xs) y → (x : A) × Contains xs x × (f x ≡ y)
  contains-mapped [] y c = absurd (none-in y c)
  contains-mapped (x ∷ xs) y c = ⊎_elim
      (λ here. (x, cons-here x xs x refl, here))
      (λ there. let found = contains-mapped xs y there in (found.0, cons-later x xs found.0 found.1, found.2))
      (cons-cases (f x) (map f xs) y c)

-- pairs of images
pub pairs-map : {A B : Type 0} (f : A → B) (R : B → B → Type 0) (xs : List A) → AllPairs (λ x y. R (f x) (f y)) xs → AllPairs R (map f xs)
pairs-map f R [] h i j d less within = absurd (omega arith)
pairs-map {A = A} f R (x ∷ xs) h i j d less within =
    let ys : List A = x ∷ xs in
    let at : (k : ℕ) → k < length (map f ys) → get_or (map f ys) k d ≡ f (get_or ys k x) = λ k low. lists.get_or-map f ys k x d (omega (arith, low, length-map ys f)) in
    let both : R (f (get_or ys i x)) (f (get_or ys j x)) = h i j x less (omega (arith, within, length-map ys f)) in
    subst (λ b. R (get_or (map f ys) i d) b) (sym (at j within)) (subst (λ a. R a (f (get_or ys j x))) (sym (at i (omega arith))) both)

-- an item of a piece is one of all pieces
pub contains-flat : {A B : Type 0} (f : A → List B) (xs : List A) (x : A) (y : B) → Contains xs x → Contains (f x) y → Contains (flat_map f xs) y
contains-flat f [] x y c d = absurd (none-in x c)
contains-flat f (z ∷ zs) x y c d = ⊎_elim
    (λ here. Contains-append_left (f z) (flat_map f zs) y (subst (λ w. Contains (f w) y) (sym here) d))
    (λ there. Contains-append_right (f z) (flat_map f zs) y (contains-flat f zs x y there d))
    (cons-cases z zs x c)
