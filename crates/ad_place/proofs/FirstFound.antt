-- The first element that passes a test, in a list made from a function of the index.
use Rattle.std.proofs.Common.{◌≡◌, ◌≢◌, ℕ, ◌<◌, ◌≤◌, inl, inr, Bool, true, false, List, length, map, get_or, eqb, eqb-true, sym, ◌∙◌, ap, Some, None, zero-add, arith}
use Rattle.std.specs.List.{find, position_or_len, range_with_len, slice_get, AllPairs}
use Rattle.std.specs.Cmp.{unsigned_Decides}
use Rattle.std.specs.Set.{is_member}
use Rattle.std.proofs.lemmas.Bool.{cases_lt}
use Rattle.std.proofs.lemmas.Cmp.{nat_eq_equiv}
use Rattle.std.proofs.lemmas.List.Folds.{find_at, Any-from_list_any}
use Rattle.std.proofs.lemmas.List.FromFn.{length-map-range_with_len, get_or-map-range_with_len}
use Rattle.std.proofs.lemmas.List.Sums.{position_or_len_is, fails_before_first, passes_at_first}
use Rattle.std.proofs.lemmas.Map.Made.{length-le_from_is_member, IsDistinct-from_AllPairs}
use Rattle.std.proofs.lemmas.Option.{slice_get-get_or, slice_get_past}

module _ (f : ℕ → ℕ) (n : ℕ) where
  length_items : length (map f (range_with_len 0 n)) ≡ n
  length_items = length-map-range_with_len f 0 n

  item : (i d : ℕ) → i < n → get_or (map f (range_with_len 0 n)) i d ≡ f i
  item i d inside = get_or-map-range_with_len f 0 n i i d inside (zero-add i)

module _ (f : ℕ → ℕ) (n : ℕ) (p : ℕ → Bool) where
  -- the first that passes is f i
  pub find_is : (i : ℕ) → i < n → ((j : ℕ) → j < i → p (f j) ≡ false) → p (f i) ≡ true → find p (map f (range_with_len 0 n)) ≡ Some (f i)
  find_is i inside before here =
      let xs = map f (range_with_len 0 n) in
      let many : length xs ≡ n = length_items f n in
      let fails = λ (j : ℕ) (low : j < i). ap p (item f n j 0 (omega arith)) ∙ before j low in
      let passes = λ (low : i < length xs). ap p (item f n i 0 inside) ∙ here in
      let place = position_or_len_is p xs i 0 (omega arith) fails passes in
      find_at p xs ∙ ap (slice_get xs) place ∙ slice_get-get_or xs i 0 (omega arith) ∙ ap Some (item f n i 0 inside)

  -- none passes
  pub find_none : ((j : ℕ) → j < n → p (f j) ≡ false) → find p (map f (range_with_len 0 n)) ≡ None
  find_none all_fail =
      let xs = map f (range_with_len 0 n) in
      let many : length xs ≡ n = length_items f n in
      let fails = λ (j : ℕ) (low : j < n). ap p (item f n j 0 low) ∙ all_fail j low in
      let place = position_or_len_is p xs n 0 (omega arith) fails (λ low. absurd (omega arith)) in
      find_at p xs ∙ ap (slice_get xs) place ∙ slice_get_past xs n (omega arith)

  -- where not all fail, there is a first that passes
  pub find_first : ¬ ((j : ℕ) → j < n → p (f j) ≡ false)
      → (i : ℕ) × (i < n) × (p (f i) ≡ true) × ((j : ℕ) → j < i → p (f j) ≡ false)
  find_first some =
      let xs = map f (range_with_len 0 n) in
      let i = position_or_len p xs in
      let many : length xs ≡ n = length_items f n in
      let fails = λ (j : ℕ) (low : j < i) (inside : j < n). sym (ap p (item f n j 0 inside)) ∙ fails_before_first p xs j 0 low in
      elim (cases_lt i n) [
        | inl inside ↦ (i, inside, sym (ap p (item f n i 0 inside)) ∙ passes_at_first p xs 0 (omega arith), λ j low. fails j low (omega arith))
        | inr past ↦ absurd (some (λ j inside. fails j (omega arith) inside))
      ]

-- values that differ, each of them a member of xs, are at most as many as xs
pub length-le_from_injective : (f : ℕ → ℕ) (n : ℕ) (xs : List ℕ) → ((i j : ℕ) → i < j → j < n → f i ≢ f j) → ((i : ℕ) → i < n → is_member eqb xs (f i) ≡ true) → n ≤ length xs
length-le_from_injective f n xs apart members =
    let ys = map f (range_with_len 0 n) in
    let many : length ys ≡ n = length_items f n in
    let pairs : AllPairs (λ x y. x ≢ y) ys = λ i j d low inside. rw (item f n i d (omega arith), item f n j d (omega arith)) (apart i j low (omega arith)) in
    let differ = IsDistinct-from_AllPairs unsigned_Decides ys pairs in
    let fewer = length-le_from_is_member nat_eq_equiv ys xs differ (λ q h.
    let here = Any-from_list_any (eqb q) ys h in
    let same : q ≡ f here.0 = eqb-true q here.1 here.4 ∙ sym here.3 ∙ item f n here.0 here.1 (omega (arith, here.2)) in
    rw same (members here.0 (omega (arith, here.2)))) in
    omega arith
