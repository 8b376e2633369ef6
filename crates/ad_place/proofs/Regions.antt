-- The candidates for a region.
use Rattle.std.proofs.Common.{◌≡◌, ◌≢◌, ℕ, ◌+◌, ◌-◌, ◌%◌, ◌<◌, ◌≤◌, ◌⊎◌, inl, inr, Bool, true, false, eqb, not, ◌||◌, List, [], ◌∷◌, length, map, Some, None, ap, refl, arith, ◌∙◌, mod-eq_of_lt}
use Rattle.std.proofs.Math.Nat.{mod-lt}
use native.Mathlib.Nat.{mod-eq-sub-mod, mod-add-mod}
use Rattle.std.proofs.lemmas.Bool.{cases_lt, not-true, not-false}
use Rattle.std.proofs.lemmas.List.{length-map}
use Rattle.std.specs.Set.{is_member}
use Rattle.ad_base.specs.declared.layout.TheConstants.{MAPPINGS, MODULE_REGION, REGIONS}
use Rattle.ad_base.specs.declared.ledger.Kind.{Kind}
use Rattle.ad_base.specs.declared.ledger.Kind.TheVariants.{Code, Fixed, Stack}
use Rattle.ad_base.specs.declared.place.Place.{Place}
use Rattle.ad_place.specs.Choice.{candidate, first_region, first_unused, has_region, region_count, regions_from}
use Rattle.ad_place.proofs.FirstFound.{find_is, find_none, find_first, length-le_from_injective}

-- an index below 2 n wraps once at most
mod_wraps_once : (n j : ℕ) → j < n + n → ((j < n) × (j % n ≡ j)) ⊎ ((n ≤ j) × (j % n ≡ j - n))
mod_wraps_once n j below = elim (cases_lt j n) [
  | inl low ↦ inl (low, mod-eq_of_lt low)
  | inr high ↦ inr (high, mod-eq-sub-mod high ∙ mod-eq_of_lt (omega arith))
]

-- n numbers in turn differ modulo n
mods_differ : (n a i j : ℕ) → i < j → j < n → (a + i) % n ≢ (a + j) % n
mods_differ n a i j low inside same =
    let rest : a % n < n = mod-lt a (omega arith) in
    let first = mod-add-mod a n i in
    let second = mod-add-mod a n j in
    let wrap_i = mod_wraps_once n (a % n + i) (omega arith) in
    let wrap_j = mod_wraps_once n (a % n + j) (omega arith) in
    omega arith

-- a candidate is one of the kind's regions
pub candidate_from : (kind : Kind) (word i : ℕ) → first_region kind ≤ candidate kind word i
candidate_from kind word i = omega arith

pub candidate_to : (kind : Kind) (word i : ℕ) → candidate kind word i < first_region kind + region_count kind
candidate_to Code word i = omega arith
candidate_to Fixed word i = omega arith
candidate_to Stack word i = omega arith

-- and is below the number of all regions
pub regions_fit : (kind : Kind) → first_region kind + region_count kind ≤ REGIONS
regions_fit Code = omega arith
regions_fit Fixed = omega arith
regions_fit Stack = omega arith

-- and none of the regions that no mapping has
pub regions_from_two : (kind : Kind) → MODULE_REGION ≤ first_region kind
regions_from_two Code = omega arith
regions_from_two Fixed = omega arith
regions_from_two Stack = omega arith

-- candidates differ
candidates_differ : (kind : Kind) (word i j : ℕ) → i < j → j < region_count kind → candidate kind word i ≢ candidate kind word j
candidates_differ kind word i j low inside same = mods_differ (region_count kind) word i j low inside (omega arith)

-- more regions than mappings
many_regions : (kind : Kind) → MAPPINGS ≤ region_count kind
many_regions Code = omega arith
many_regions Fixed = omega arith
many_regions Stack = omega arith

-- the first candidate that isn't used
pub first_unused_is : (used : ℕ → Bool) (kind : Kind) (word i : ℕ) → i < region_count kind → ((j : ℕ) → j < i → used (candidate kind word j) ≡ true) → used (candidate kind word i) ≡ false
    → first_unused used kind word ≡ Some (candidate kind word i)
unfolding regions_from
first_unused_is used kind word i inside before here =
    find_is (candidate kind word) (region_count kind) (λ region. not (used region)) i inside (λ j low. ap not (before j low)) (ap not here)

-- all are used
pub first_unused_none : (used : ℕ → Bool) (kind : Kind) (word : ℕ) → ((j : ℕ) → j < region_count kind → used (candidate kind word j) ≡ true) → first_unused used kind word ≡ None
unfolding regions_from
first_unused_none used kind word all_used =
    find_none (candidate kind word) (region_count kind) (λ region. not (used region)) (λ j low. ap not (all_used j low))

-- a region that a place has is a member of the places' regions
is_member-regions : (places : List Place) (region : ℕ) → is_member eqb (map (λ p. p.region) places) region ≡ has_region places region
is_member-regions [] region = refl
is_member-regions (p ∷ places) region = ap (λ b. eqb region p.region || b) (is_member-regions places region)

-- with a mapping left there is a candidate that no place has, and so a first one
pub unused_exists : (places : List Place) (kind : Kind) (word : ℕ) → length places < MAPPINGS
    → (i : ℕ) × (i < region_count kind) × (has_region places (candidate kind word i) ≡ false) × ((j : ℕ) → j < i → has_region places (candidate kind word j) ≡ true)
unused_exists places kind word few =
    let first = find_first (candidate kind word) (region_count kind) (λ region. not (has_region places region)) (λ fails.
    let used = λ (i : ℕ) (inside : i < region_count kind). is_member-regions places (candidate kind word i) ∙ not-false _ (fails i inside) in
    let most = length-le_from_injective (candidate kind word) (region_count kind) (map (λ p. p.region) places) (candidates_differ kind word) used in
    omega (arith, many_regions kind, length-map places (λ (p : Place). p.region))) in
    (first.0, first.1, not-true _ first.2, λ j low. not-false _ (first.3 j low))
