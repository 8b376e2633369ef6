-- Rows whose numbers rise are in order of number as they stand.
use Rattle.std.proofs.Common.{◌≡◌, ℕ, zero, suc, Bool, cond, eqb, eq-eqb, ne_eqb, ◌<◌, ◌≤◌, List, [], ◌∷◌, ◌++◌, length, get_or, sym, refl, ap, ◌∙◌, subst, arith}
use mathlib.Core.Logic.{dite}
use native.Mathlib.Decide.{dec_lt, ℕ_discrete}
use Rattle.std.specs.List.{filter, All, AllPairs}
use Rattle.ad_base.specs.declared.ledger.Row.{Row}
use Rattle.ad_base.specs.Ledger.{IsLedger, Mapping}
use Rattle.ad_stacks.specs.Ledger.{by_number}

abbrev has : ℕ → Row → Bool
has m r = eqb r.mapping m

-- the numbers of all rows are above m
abbrev AreAbove : ℕ → List Row → Type 0
AreAbove m [] = Unit {0}
AreAbove m (r ∷ rs) = (m < r.mapping) × AreAbove m rs

-- each number is above those before it
abbrev Rise : List Row → Type 0
Rise [] = Unit {0}
Rise (r ∷ rs) = AreAbove r.mapping rs × Rise rs

-- a row and those behind it, or none
abbrev front : {P : Type 0} → Dec P → Row → List Row → List Row
front (yes p) r rs = r ∷ rs
front (no f) r rs = []

-- the rows of the numbers below n: those at the front
below : ℕ → List Row → List Row
below n [] = []
below n (r ∷ rs) = front (dec_lt r.mapping n) r (below n rs)

module _ (m : ℕ) where
  none_at : (rs : List Row) → AreAbove m rs → filter (has m) rs ≡ []
  none_at [] h = refl
  none_at (r ∷ rs) h = ap (λ (b : Bool). cond {A = List Row} b (r ∷ filter (has m) rs) (filter (has m) rs)) (ne_eqb r.mapping m (λ e. let l = h.0 in omega arith)) ∙ none_at rs h.1

above_more : (m n : ℕ) → m ≤ n → (rs : List Row) → AreAbove n rs → AreAbove m rs
above_more m n le [] h = tt
above_more m n le (r ∷ rs) h = (let l = h.0 in omega arith, above_more m n le rs h.1)

below_none : (n : ℕ) (rs : List Row) → AreAbove n rs → below (suc n) rs ≡ []
unfolding below
below_none n [] h = refl
below_none n (r ∷ rs) h = elim (dec_lt r.mapping (suc n)) as (λ d. front d r (below (suc n) rs) ≡ []) [ yes l ↦ absurd (let a = h.0 in omega arith) | no _ ↦ refl ]

below_zero : (rs : List Row) → below 0 rs ≡ []
unfolding below
below_zero [] = refl
below_zero (r ∷ rs) = elim (dec_lt r.mapping 0) as (λ d. front d r (below 0 rs) ≡ []) [ yes l ↦ absurd (omega arith) | no _ ↦ refl ]

one_more : (n : ℕ) (rs : List Row) → Rise rs → below n rs ++ filter (has n) rs ≡ below (suc n) rs
unfolding below
one_more n [] h = refl
one_more n (r ∷ rs) h = elim (dec_lt r.mapping n) as (λ d. front d r (below n rs) ++ filter (has n) (r ∷ rs) ≡ front (dec_lt r.mapping (suc n)) r (below (suc n) rs)) [
  | yes l ↦
      ap (λ (b : Bool). (r ∷ below n rs) ++ cond {A = List Row} b (r ∷ filter (has n) rs) (filter (has n) rs)) (ne_eqb r.mapping n (λ e. omega arith))
      ∙ (ap (λ (xs : List Row). r ∷ xs) (one_more n rs h.1)
      ∙ elim (dec_lt r.mapping (suc n)) as (λ d. r ∷ below (suc n) rs ≡ front d r (below (suc n) rs)) [ yes _ ↦ refl | no f ↦ absurd (f (omega arith)) ])
  | no f ↦ dite (ℕ_discrete r.mapping n)
      (λ e.
      ap (λ (b : Bool). cond {A = List Row} b (r ∷ filter (has n) rs) (filter (has n) rs)) (eq-eqb r.mapping n e)
      ∙ (ap (λ (xs : List Row). r ∷ xs) (none_at n rs (subst (λ (k : ℕ). AreAbove k rs) e h.0))
      ∙ (ap (λ (xs : List Row). r ∷ xs) (sym (below_none n rs (subst (λ (k : ℕ). AreAbove k rs) e h.0)))
      ∙ elim (dec_lt r.mapping (suc n)) as (λ d. r ∷ below (suc n) rs ≡ front d r (below (suc n) rs)) [ yes _ ↦ refl | no g ↦ absurd (g (omega arith)) ])))
      (λ ne.
      ap (λ (b : Bool). cond {A = List Row} b (r ∷ filter (has n) rs) (filter (has n) rs)) (ne_eqb r.mapping n ne)
      ∙ (none_at n rs (above_more n r.mapping (omega arith) rs h.0)
      ∙ elim (dec_lt r.mapping (suc n)) as (λ d. [] ≡ front d r (below (suc n) rs)) [ yes l ↦ absurd (omega arith) | no _ ↦ refl ]))
]

numbered : (rs : List Row) → Rise rs → (n : ℕ) → by_number rs n ≡ below n rs
unfolding by_number
numbered rs h zero = sym (below_zero rs)
numbered rs h (suc n) = ap (λ (xs : List Row). xs ++ filter (has n) rs) (numbered rs h n) ∙ one_more n rs h

-- all numbers are below n
abbrev AllBelow : ℕ → List Row → Type 0
AllBelow n [] = Unit {0}
AllBelow n (r ∷ rs) = (r.mapping < n) × AllBelow n rs

below_all : (n : ℕ) (rs : List Row) → AllBelow n rs → below n rs ≡ rs
unfolding below
below_all n [] h = refl
below_all n (r ∷ rs) h = elim (dec_lt r.mapping n) as (λ d. front d r (below n rs) ≡ r ∷ rs) [ yes _ ↦ ap (λ (xs : List Row). r ∷ xs) (below_all n rs h.1) | no f ↦ absurd (f h.0) ]

-- the rows of mappings whose numbers rise
rows_above : (n : ℕ) (ms : List Mapping) (rs : List Row) → IsLedger ms rs → ((k : ℕ) (d : Mapping) → k < length ms → n < (get_or ms k d).place.mapping) → AreAbove n rs
rows_above n [] rs are h = subst (AreAbove n) (sym are) tt
rows_above n (m ∷ ms) [] are h = absurd are
rows_above n (m ∷ ms) (r ∷ rs) are h = (let e = are.0.number in let l = h 0 m (omega arith) in omega arith, rows_above n ms rs are.1 (λ k d l. h (suc k) d (omega arith)))

rows_rise : (ms : List Mapping) (rs : List Row) → IsLedger ms rs → AllPairs (λ (m k : Mapping). m.place.mapping < k.place.mapping) ms → Rise rs
rows_rise [] rs are h = subst Rise (sym are) tt
rows_rise (m ∷ ms) [] are h = absurd are
rows_rise (m ∷ ms) (r ∷ rs) are h = (
  rows_above r.mapping ms rs are.1 (λ k d l. let e = are.0.number in let a = h 0 (suc k) d (omega arith) (omega arith) in omega arith),
  rows_rise ms rs are.1 (λ i j d low l. h (suc i) (suc j) d (omega arith) (omega arith)),
)

rows_below : (n : ℕ) (ms : List Mapping) (rs : List Row) → IsLedger ms rs → All (λ (m : Mapping). m.place.mapping < n) ms → AllBelow n rs
rows_below n [] rs are h = subst (AllBelow n) (sym are) tt
rows_below n (m ∷ ms) [] are h = absurd are
rows_below n (m ∷ ms) (r ∷ rs) are h = (let e = are.0.number in let l = h 0 m (omega arith) in omega arith, rows_below n ms rs are.1 (λ k d l. h (suc k) d (omega arith)))

pub in_order : (ms : List Mapping) (rs : List Row) (n : ℕ) → IsLedger ms rs → AllPairs (λ (m k : Mapping). m.place.mapping < k.place.mapping) ms → All (λ (m : Mapping). m.place.mapping < n) ms → by_number rs n ≡ rs
in_order ms rs n are rise low = numbered rs (rows_rise ms rs are rise) n ∙ below_all n rs (rows_below n ms rs are low)
