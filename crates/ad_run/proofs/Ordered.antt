-- Two lists in strictly rising order that have the same members are one list; the members of a mapped list.
use Rattle.std.proofs.Common.{◌≡◌, ◌≢◌, inl, inr, ℕ, suc, ◌+◌, ◌<◌, ◌≤◌, Bool, cond, eqb, List, [], ◌∷◌, map, refl, sym, ap, subst, ◌∙◌, eq-eqb, ne_eqb, arith}
use Rattle.std.specs.List.{All, AllPairs, Contains, sum_by}
use Rattle.std.specs.List.Sorted.{IsNonDecreasingBy}
use Rattle.std.proofs.lemmas.List.Elements.{All-contains, All-head, All-tail}
use Rattle.std.proofs.lemmas.List.Sums.{sum_by-cons}
use Rattle.ad_lines.proofs.Elements.{pairs-head, pairs-tail}
use Rattle.ad_lines.proofs.ListReads.{Each, each-tail}
use Rattle.ad_maps.proofs.Elements.{cons-cases, cons-here, cons-later, none-in}

module _ {X : Type 0} (n : X → ℕ) where
  -- the numbers rise
  abbrev pub Rises : List X → Type 0
  Rises xs = AllPairs (λ (x y : X). n x < n y) xs

  above : (x : X) (xs : List X) → Rises (x ∷ xs) → (y : X) → Contains xs y → n x < n y
  above x xs rise y c = All-contains (λ z. n x < n z) xs y (pairs-head (λ (a b : X). n a < n b) x xs rise) c

  first-same : (x : X) (xs : List X) (y : X) (ys : List X) → Rises (x ∷ xs) → Rises (y ∷ ys) → Contains (y ∷ ys) x → Contains (x ∷ xs) y → x ≡ y
  first-same x xs y ys rise rises there back =
      elim (cons-cases y ys x there) [
        | inl same ↦ sym same
        | inr behind ↦ elim (cons-cases x xs y back) [
          | inl same ↦ same
          | inr other ↦ absurd (omega (arith, above x xs rise y other, above y ys rises x behind))
        ]
      ]

  rest-within : (x : X) (xs : List X) (y : X) (ys : List X) → x ≡ y → Rises (x ∷ xs) → ((z : X) → Contains (x ∷ xs) z → Contains (y ∷ ys) z) → (z : X) → Contains xs z → Contains ys z
  rest-within x xs y ys same rise to z c =
      elim (cons-cases y ys z (to z (cons-later x xs z c))) [
        | inl is ↦ let less = above x xs rise z c in let number : n x ≡ n z = ap n (same ∙ is) in absurd (omega (arith, less, number))
        | inr there ↦ there
      ]

  pub same-list : (xs ys : List X) → Rises xs → Rises ys → ((z : X) → Contains xs z → Contains ys z) → ((z : X) → Contains ys z → Contains xs z) → xs ≡ ys
  same-list [] [] rise rises to from = refl
  same-list [] (y ∷ ys) rise rises to from = absurd (none-in y (from y (cons-here y ys y refl)))
  same-list (x ∷ xs) [] rise rises to from = absurd (none-in x (to x (cons-here x xs x refl)))
  same-list (x ∷ xs) (y ∷ ys) rise rises to from =
      let same = first-same x xs y ys rise rises (to x (cons-here x xs x refl)) (from y (cons-here y ys y refl)) in
      let rest = same-list xs ys (pairs-tail (λ (a b : X). n a < n b) x xs rise) (pairs-tail (λ (a b : X). n a < n b) y ys rises)
      (rest-within x xs y ys same rise to) (rest-within y ys x xs (sym same) rises from) in
      λ j. same j ∷ rest j

module _ {X Y : Type 0} (f : X → Y) where
  -- a member of a mapped list is made of one of the list
  pub map-from : (xs : List X) (y : Y) → Contains (map f xs) y → (x : X) × Contains xs x × (f x ≡ y)
  map-from [] y c = absurd (none-in y c)
  map-from (x ∷ xs) y c =
      elim (cons-cases (f x) (map f xs) y c) [
        | inl same ↦ (x, cons-here x xs x refl, same)
        | inr there ↦ let z = map-from xs y there in (z.0, cons-later x xs z.0 z.1, z.2)
      ]

  pub map-to : (xs : List X) (x : X) → Contains xs x → Contains (map f xs) (f x)
  map-to [] x c = absurd (none-in x c)
  map-to (z ∷ xs) x c =
      elim (cons-cases z xs x c) [
        | inl same ↦ cons-here (f z) (map f xs) (f x) (ap f same)
        | inr there ↦ cons-later (f z) (map f xs) (f x) (map-to xs x there)
      ]

-- a function that leaves each item leaves the list
pub map-kept : {X : Type 0} (f : X → X) (xs : List X) → Each (λ x. f x ≡ x) xs → map f xs ≡ xs
map-kept f [] h = refl
map-kept f (x ∷ xs) h = λ j. h 0 x refl j ∷ map-kept f xs (each-tail (λ y. f y ≡ y) x xs h) j

-- what holds of each holds of a member
pub each-member : {X : Type 0} (P : X → Type 0) (xs : List X) (x : X) → Each P xs → Contains xs x → P x
each-member P [] x h c = absurd (none-in x c)
each-member P (y ∷ ys) x h c = elim (cons-cases y ys x c) [
  | inl same ↦ subst P same (h 0 y refl)
  | inr there ↦ each-member P ys x (each-tail P y ys h) there
]

-- ---- lists that don't fall, with the same members as often

module _ {X : Type 0} (n : X → ℕ) where
  -- how many have a number
  abbrev pub times : ℕ → List X → ℕ
  times k xs = sum_by (λ (x : X). cond (eqb (n x) k) 1 0) xs

  times-cons : (k : ℕ) (x : X) (xs : List X) → times k (x ∷ xs) ≡ cond (eqb (n x) k) 1 0 + times k xs
  times-cons k x xs = sum_by-cons (λ (y : X). cond (eqb (n y) k) 1 0) x xs

  times-here : (k : ℕ) (x : X) (xs : List X) → n x ≡ k → times k (x ∷ xs) ≡ 1 + times k xs
  times-here k x xs is = times-cons k x xs ∙ ap (λ (b : Bool). cond b 1 0 + times k xs) (eq-eqb (n x) k is)

  times-else : (k : ℕ) (x : X) (xs : List X) → n x ≢ k → times k (x ∷ xs) ≡ times k xs
  times-else k x xs other = times-cons k x xs ∙ ap (λ (b : Bool). cond b 1 0 + times k xs) (ne_eqb (n x) k other) ∙ omega arith

  times-some : (k : ℕ) (xs : List X) (z : X) → Contains xs z → n z ≡ k → 1 ≤ times k xs
  times-some k [] z c is = absurd (none-in z c)
  times-some k (x ∷ xs) z c is = elim (cons-cases x xs z c) [
    | inl same ↦ let here = times-here k x xs (ap n same ∙ is) in omega (arith, here)
    | inr there ↦ let rest = times-some k xs z there is in let first = times-cons k x xs in omega (arith, rest, first)
  ]

  times-none : (k : ℕ) (xs : List X) → All (λ (x : X). k < n x) xs → times k xs ≡ 0
  times-none k [] h = refl
  times-none k (x ∷ xs) h =
      let first = All-head (λ (y : X). k < n y) x xs h in
      times-else k x xs (λ e. absurd (omega (arith, first, e))) ∙ times-none k xs (All-tail (λ (y : X). k < n y) x xs h)

  not-below : (x : X) (xs : List X) → IsNonDecreasingBy n (x ∷ xs) → (y : X) → Contains xs y → n x ≤ n y
  not-below x xs rise y c = let low = rise 0 (suc c.0) y (omega arith) (omega (arith, c.1)) in subst (λ z. n x ≤ n z) c.2 low

  falls-tail : (x : X) (xs : List X) → IsNonDecreasingBy n (x ∷ xs) → IsNonDecreasingBy n xs
  falls-tail x xs h i j d le within = h (suc i) (suc j) d (omega arith) (omega arith)

  head-same : (x : X) (xs : List X) (y : X) (ys : List X) → IsNonDecreasingBy n (x ∷ xs) → Rises n (y ∷ ys) → Contains (y ∷ ys) x → Contains (x ∷ xs) y → x ≡ y
  head-same x xs y ys rise rises there back =
      elim (cons-cases y ys x there) [
        | inl same ↦ sym same
        | inr behind ↦ elim (cons-cases x xs y back) [
          | inl same ↦ same
          | inr other ↦ absurd (omega (arith, not-below x xs rise y other, above n y ys rises x behind))
        ]
      ]

  -- where one of them rises they are one list
  pub sorted-same : (xs ys : List X) → IsNonDecreasingBy n xs → Rises n ys → ((k : ℕ) → times k xs ≡ times k ys)
      → ((z : X) → Contains xs z → Contains ys z) → ((z : X) → Contains ys z → Contains xs z) → xs ≡ ys
  sorted-same [] [] rise rises counts to from = refl
  sorted-same [] (y ∷ ys) rise rises counts to from = absurd (none-in y (from y (cons-here y ys y refl)))
  sorted-same (x ∷ xs) [] rise rises counts to from = absurd (none-in x (to x (cons-here x xs x refl)))
  sorted-same (x ∷ xs) (y ∷ ys) rise rises counts to from =
      let same = head-same x xs y ys rise rises (to x (cons-here x xs x refl)) (from y (cons-here y ys y refl)) in
      let rest_counts : (k : ℕ) → times k xs ≡ times k ys = λ k.
      let first : cond {A = ℕ} (eqb (n x) k) 1 0 ≡ cond {A = ℕ} (eqb (n y) k) 1 0 = ap (λ z. cond {A = ℕ} (eqb (n z) k) 1 0) same in
      omega (arith, counts k, times-cons k x xs, times-cons k y ys, first) in
      let none = times-none (n y) ys (pairs-head (λ (a b : X). n a < n b) y ys rises) in
      let rest = sorted-same xs ys (falls-tail x xs rise) (pairs-tail (λ (a b : X). n a < n b) y ys rises) rest_counts
      (λ z c. elim (cons-cases y ys z (to z (cons-later x xs z c))) [
        | inl is ↦ absurd (omega (arith, times-some (n y) xs z c (ap n (sym is)), rest_counts (n y), none))
        | inr there ↦ there
      ])
      (rest-within n y ys x xs (sym same) rises from) in
      λ j. same j ∷ rest j
