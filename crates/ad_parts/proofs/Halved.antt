-- The spot that is found by halving is the first one of its section.
use Rattle.std.proofs.Common.{◌≡◌, ◌⊎◌, inl, inr, ℕ, zero, suc, ◌<◌, ◌≤◌, ◌==◌, Bool, true, false, List, [], ◌∷◌, find, get_or, length, Some, None, Less, Equal, Greater, refl, sym, arith}
use Rattle.std.specs.List.{AllPairs, HoldsAt}
use Rattle.std.specs.List.Sorted.{IsNonDecreasingBy, IsPartitionPoint}
use Rattle.std.specs.Ordering.{nat_cmp, ordering_index}
use Rattle.std.proofs.lemmas.Bool.{cases_lt, eq-eqb, ne_eqb}
use Rattle.std.proofs.Math.Nat.{eq-or-lt_of_le}
use Rattle.std.proofs.lemmas.Cmp.{ranked}
use Rattle.ad_parts.specs.declared.layout.Spot.{Spot}

pub find_at : {X : Type 0} (p : X → Bool) (xs : List X) (k : ℕ) (d : X) → k < length xs → p (get_or xs k d) ≡ true → ((j : ℕ) → j < k → p (get_or xs j d) ≡ false) → find p xs ≡ Some (get_or xs k d)
find_at p [] k d below here earlier = absurd (omega arith)
find_at p (x ∷ xs) zero d below here earlier = rw here refl
find_at p (x ∷ xs) (suc k) d below here earlier =
    let first : p x ≡ false = earlier 0 (omega arith) in
    rw first (find_at p xs k d (omega arith) here (λ j less. earlier (suc j) (omega arith)))

pub find_nowhere : {X : Type 0} (p : X → Bool) (xs : List X) → ((j : ℕ) (d : X) → j < length xs → p (get_or xs j d) ≡ false) → find p xs ≡ None
find_nowhere p [] none = refl
find_nowhere p (x ∷ xs) none =
    let first : p x ≡ false = none 0 x (omega arith) in
    rw first (find_nowhere p xs (λ j d less. none (suc j) d (omega arith)))

pub same_number : (m n : ℕ) → nat_cmp m n ≡ Equal → m ≡ n
same_number m n e = ranked m n Equal (sym e)

other_number : (m n : ℕ) → m < n → (m == n) ≡ false
other_number m n less = ne_eqb m n (omega arith)

pub found_by_halving : (ts : List Spot) (n k : ℕ) (d : Spot) → AllPairs (λ (t u : Spot). t.section < u.section) ts → k < length ts → HoldsAt (λ (t : Spot). nat_cmp t.section n ≡ Equal) ts k
    → Some (get_or ts k d) ≡ find (λ (t : Spot). t.section == n) ts
found_by_halving ts n k d rise below here =
    let same = same_number (get_or ts k d).section n (here d) in
    sym (find_at (λ (t : Spot). t.section == n) ts k d below (eq-eqb (get_or ts k d).section n same) (λ j less. other_number (get_or ts j d).section n (omega (arith, rise j k d less below, same))))

-- the answers rise with the numbers
index_rises : (m n o : ℕ) → m ≤ n → ordering_index (nat_cmp m o) ≤ ordering_index (nat_cmp n o)
index_rises m n o upto = grind arith

rise_or_same : (ts : List Spot) (i j : ℕ) (d : Spot) → AllPairs (λ (t u : Spot). t.section < u.section) ts → i ≤ j → j < length ts → (get_or ts i d).section ≤ (get_or ts j d).section
rise_or_same ts i j d rise upto below =
    elim (eq-or-lt_of_le upto) [
      | inl same ↦ (rw same (omega arith))
      | inr less ↦ omega (arith, rise i j d less below)
    ]

apart : (m n : ℕ) → (nat_cmp m n ≡ Less) ⊎ (nat_cmp m n ≡ Greater) → (m == n) ≡ false
apart m n (inl less) = ne_eqb m n (let h : m < n = ranked m n Less (sym less) in omega (arith, h))
apart m n (inr more) = ne_eqb m n (let h : n < m = ranked m n Greater (sym more) in omega (arith, h))

pub not_found_by_halving : (ts : List Spot) (n k : ℕ) → AllPairs (λ (t u : Spot). t.section < u.section) ts
    → (IsNonDecreasingBy (λ (t : Spot). ordering_index (nat_cmp t.section n)) ts → IsPartitionPoint (λ (t : Spot). nat_cmp t.section n ≡ Less) (λ (t : Spot). nat_cmp t.section n ≡ Greater) ts k)
    → None ≡ find (λ (t : Spot). t.section == n) ts
not_found_by_halving ts n k rise parts =
    let halves = parts (λ i j d upto below. index_rises (get_or ts i d).section (get_or ts j d).section n (rise_or_same ts i j d rise upto below)) in
    sym (find_nowhere (λ (t : Spot). t.section == n) ts (λ j d less.
    apart (get_or ts j d).section n (elim (cases_lt j k) [
      | inl before ↦ inl (halves.0 j d (omega arith) before)
      | inr behind ↦ inr (halves.1 j d behind less)
    ])))
