-- Comparisons of addresses, wherever their parts lie.
use Rattle.std.proofs.Common.{◌≡◌, ◌≢◌, ◌⊎◌, ℕ, suc, ◌+◌, ◌-◌, ◌*◌, ◌%◌, ◌^◌, ◌<◌, ◌≤◌, ◌&&◌, Bool, true, false, not, Ok, refl, sym, ap, subst, ◌∙◌, inl, inr, arith}
use Rattle.std.specs.Prelude.{◌==◌, nat_lt, int_lt, negsuc, if◌then◌else◌}
use Rattle.std.proofs.lemmas.Bool.{cases_lt, cond_both, leb-true}
use Rattle.std.proofs.lemmas.Bool.Decides.{nat_tests}
use Rattle.std.proofs.lemmas.Int.{ints}
use Rattle.std.specs.Int.{w64}
use mir.ValLaws.{to_z-neg}
use Rattle.ad_base.specs.declared.image.Image.{Image}
use Rattle.ad_base.specs.declared.layout.TheConstants.{MODULE_REGION, PAGE_BYTES, REGION_BYTES, REGIONS}
use Rattle.ad_base.specs.declared.place.Place.{Place}
use Rattle.ad_base.specs.Place.{IsPlace, base_of}
use Rattle.ad_isa.specs.declared.instr.Test.{Test}
use Rattle.ad_isa.specs.declared.instr.Test.TheVariants.{Eq, Ne, Lt, Ge, Ltu, Geu}
use Rattle.ad_isa.specs.Numbers.{signed, test_of}
use Rattle.ad_symbolic.specs.AddressSpace.{part_bytes}
use Rattle.ad_symbolic.specs.Value.{across_parts, holds_of, in_bounds, is_outside, is_same_part}
use Rattle.ad_symbolic.specs.declared.value.Value.TheVariants.{At, Num}
use Rattle.ad_symbolic.specs.declared.value.Part.TheVariants.{Movable, Stack}
use Rattle.ad_symbolic.specs.declared.value.Part.{Part}
use Rattle.ad_symbolic.specs.declared.value.Value.{Value}
use Rattle.ad_relate.specs.Stands.{IsApart, Places, number_at}
use Rattle.ad_relate.proofs.Apart.{IsIn}
use Rattle.ad_relate.proofs.Values.{Follows, followed}

-- two answers that agree
same : (a b : Bool) → (a ≡ true → b ≡ false → ⊥) → (a ≡ false → b ≡ true → ⊥) → a ≡ b
same true true h k = refl
same false false h k = refl
same true false h k = absurd (h refl refl)
same false true h k = absurd (k refl refl)

-- numbers below 2^63 have no sign
signed-lt : (base o u : ℕ) → base + o < 2 ^ 63 → base + u < 2 ^ 63 → int_lt (signed (base + o)) (signed (base + u)) ≡ int_lt (signed o) (signed u)
signed-lt base o u h k = same (int_lt (signed (base + o)) (signed (base + u))) (int_lt (signed o) (signed u)) (λ e f. omega (arith, ints)) (λ e f. omega (arith, ints))

unsigned-lt : (base o u : ℕ) → nat_lt (base + o) (base + u) ≡ nat_lt o u
unsigned-lt base o u = same (nat_lt (base + o) (base + u)) (nat_lt o u) (λ e f. grind (arith, nat_tests)) (λ e f. grind (arith, nat_tests))

equal : (base o u : ℕ) → (base + o == base + u) ≡ (o == u)
equal base o u = same (base + o == base + u) (o == u) (λ e f. grind (arith, nat_tests)) (λ e f. grind (arith, nat_tests))

-- two addresses of one part compare as their offsets
pub test-in-part : (t : Test) (base o u : ℕ) → base + o < 2 ^ 63 → base + u < 2 ^ 63 → test_of t (base + o) (base + u) ≡ test_of t o u
test-in-part Eq base o u h k = equal base o u
test-in-part Ne base o u h k = ap not (equal base o u)
test-in-part Lt base o u h k = signed-lt base o u h k
test-in-part Ge base o u h k = ap not (signed-lt base o u h k)
test-in-part Ltu base o u h k = unsigned-lt base o u
test-in-part Geu base o u h k = ap not (unsigned-lt base o u)

-- a number that no place has
Outside : ℕ → Type 0
Outside n = (n < MODULE_REGION * REGION_BYTES) ⊎ ((REGIONS * REGION_BYTES ≤ n) × (n < 2 ^ 64))

outside : (n : ℕ) → is_outside n ≡ true → Outside n
unfolding Outside
outside n out = elim (cases_lt n (MODULE_REGION * REGION_BYTES)) [
  | inl before ↦ inl before
  | inr from ↦ inr (grind (arith, nat_tests), grind (arith, nat_tests))
]

-- a number of 64 bits with the highest bit set is negative
negative-of : (n : ℕ) → 2 ^ 63 ≤ n → n < 2 ^ 64 → signed n ≡ negsuc (2 ^ 64 - 1 - n)
negative-of n high fits =
    let back : 2 ^ 64 - suc (2 ^ 64 - 1 - n) ≡ n = omega arith in
    ap signed (sym back) ∙ to_z-neg w64 (2 ^ 64 - 1 - n) (omega arith)

-- an address where places may lie compares with such a number as the first address there
module _ (a n : ℕ) (from : MODULE_REGION * REGION_BYTES ≤ a) (to : a < REGIONS * REGION_BYTES) where
  abbrev first : ℕ
  first = MODULE_REGION * REGION_BYTES

  differs : Outside n → (a == n) ≡ (first == n)
  unfolding Outside
  differs (inl before) = same (a == n) (first == n) (λ e f. grind (arith, nat_tests)) (λ e f. grind (arith, nat_tests))
  differs (inr behind) = same (a == n) (first == n) (λ e f. grind (arith, nat_tests, behind)) (λ e f. grind (arith, nat_tests, behind))

  unsigned-to : Outside n → nat_lt a n ≡ nat_lt first n
  unfolding Outside
  unsigned-to (inl before) = same (nat_lt a n) (nat_lt first n) (λ e f. grind (arith, nat_tests)) (λ e f. grind (arith, nat_tests))
  unsigned-to (inr behind) = same (nat_lt a n) (nat_lt first n) (λ e f. grind (arith, nat_tests, behind)) (λ e f. grind (arith, nat_tests, behind))

  unsigned-from : Outside n → nat_lt n a ≡ nat_lt n first
  unfolding Outside
  unsigned-from (inl before) = same (nat_lt n a) (nat_lt n first) (λ e f. grind (arith, nat_tests)) (λ e f. grind (arith, nat_tests))
  unsigned-from (inr behind) = same (nat_lt n a) (nat_lt n first) (λ e f. grind (arith, nat_tests, behind)) (λ e f. grind (arith, nat_tests, behind))

  signed-to : Outside n → int_lt (signed a) (signed n) ≡ int_lt (signed first) (signed n)
  unfolding Outside
  signed-to (inl before) = same (int_lt (signed a) (signed n)) (int_lt (signed first) (signed n)) (λ e f. omega (arith, ints)) (λ e f. omega (arith, ints))
  signed-to (inr behind) = elim (cases_lt n (2 ^ 63)) [
    | inl positive ↦ same (int_lt (signed a) (signed n)) (int_lt (signed first) (signed n)) (λ e f. omega (arith, ints, behind, positive)) (λ e f. omega (arith, ints, behind, positive))
    | inr negative ↦ same (int_lt (signed a) (signed n)) (int_lt (signed first) (signed n)) (λ e f. omega (arith, ints, behind, negative-of n negative behind.1)) (λ e f. omega (arith, ints, behind, negative-of n negative behind.1))
  ]

  signed-from : Outside n → int_lt (signed n) (signed a) ≡ int_lt (signed n) (signed first)
  unfolding Outside
  signed-from (inl before) = same (int_lt (signed n) (signed a)) (int_lt (signed n) (signed first)) (λ e f. omega (arith, ints)) (λ e f. omega (arith, ints))
  signed-from (inr behind) = elim (cases_lt n (2 ^ 63)) [
    | inl positive ↦ same (int_lt (signed n) (signed a)) (int_lt (signed n) (signed first)) (λ e f. omega (arith, ints, behind, positive)) (λ e f. omega (arith, ints, behind, positive))
    | inr negative ↦ same (int_lt (signed n) (signed a)) (int_lt (signed n) (signed first)) (λ e f. omega (arith, ints, behind, negative-of n negative behind.1)) (λ e f. omega (arith, ints, behind, negative-of n negative behind.1))
  ]

  differs-from : Outside n → (n == a) ≡ (n == first)
  unfolding Outside
  differs-from (inl before) = same (n == a) (n == first) (λ e f. grind (arith, nat_tests)) (λ e f. grind (arith, nat_tests))
  differs-from (inr behind) = same (n == a) (n == first) (λ e f. grind (arith, nat_tests, behind)) (λ e f. grind (arith, nat_tests, behind))

  test-to : (t : Test) → Outside n → test_of t a n ≡ test_of t first n
  test-to Eq out = differs out
  test-to Ne out = ap not (differs out)
  test-to Lt out = signed-to out
  test-to Ge out = ap not (signed-to out)
  test-to Ltu out = unsigned-to out
  test-to Geu out = ap not (unsigned-to out)

  test-from : (t : Test) → Outside n → test_of t n a ≡ test_of t n first
  test-from Eq out = differs-from out
  test-from Ne out = ap not (differs-from out)
  test-from Lt out = signed-from out
  test-from Ge out = ap not (signed-from out)
  test-from Ltu out = unsigned-from out
  test-from Geu out = ap not (unsigned-from out)

-- addresses that differ, which is all that is clear of two parts
across-stands : (t : Test) (a b : ℕ) → a ≢ b → Follows {S = ⊥} (λ (c : Bool). c) (across_parts t) (Ok (test_of t a b))
across-stands Eq a b apart = ap Ok (same (a == b) false (λ e f. apart (grind (arith, nat_tests))) (λ e f. absurd cc))
across-stands Ne a b apart = ap Ok (ap not (same (a == b) false (λ e f. apart (grind (arith, nat_tests))) (λ e f. absurd cc)))
across-stands Lt a b apart = tt
across-stands Ge a b apart = tt
across-stands Ltu a b apart = tt
across-stands Geu a b apart = tt

both-true : (a b : Bool) → a && b ≡ true → (a ≡ true) × (b ≡ true)
both-true true b h = (refl, h)
both-true false b h = absurd cc

-- an address in bounds of a part is the base and the offset, and no place of another region has it
record IsLocated (place : Place) (o at : ℕ) : Type 0 where
  at_is : at ≡ base_of place + o
  here : IsIn place.region (base_of place + o)
  from : MODULE_REGION * REGION_BYTES ≤ base_of place + o
  to : base_of place + o < REGIONS * REGION_BYTES

located : (place : Place) (o : ℕ) → IsPlace place → o ≤ place.pages * PAGE_BYTES → IsLocated place o ((base_of place + o) % 2 ^ 64)
located place o is inside = record {
  at_is = omega (arith, is.region_to, is.page_behind);
  here = record { from = omega arith; to = omega (arith, is.page_behind) };
  from = omega (arith, is.region_from);
  to = omega (arith, is.region_to, is.page_behind);
}

module _ (i : Image) (ps : Places) (apart : IsApart i ps) where
  abbrev place_at : Part → Place
  place_at Movable = ps.movable
  place_at Stack = ps.stack

  in-part : (p : Part) (o : ℕ) → in_bounds (part_bytes i) p o ≡ true → IsLocated (place_at p) o (number_at ps (At p o))
  in-part Movable o inside = located ps.movable o apart.movable.place (omega (arith, leb-true o (part_bytes i Movable) inside, apart.movable_size))
  in-part Stack o inside = located ps.stack o apart.stack (omega (arith, leb-true o (part_bytes i Stack) inside, apart.stack_size))

  -- a comparison of addresses in bounds
  parts-stand : (t : Test) (p q : Part) (o u : ℕ) → IsLocated (place_at p) o (number_at ps (At p o)) → IsLocated (place_at q) u (number_at ps (At q u))
      → Follows {S = ⊥} (λ (c : Bool). c) (if is_same_part p q then Ok (test_of t o u) else across_parts t) (Ok (test_of t (number_at ps (At p o)) (number_at ps (At q u))))
  parts-stand t Movable Movable o u a b = ap Ok ((λ j. test_of t (a.at_is j) (b.at_is j)) ∙ test-in-part t (base_of ps.movable) o u (omega (arith, a.to)) (omega (arith, b.to)))
  parts-stand t Stack Stack o u a b = ap Ok ((λ j. test_of t (a.at_is j) (b.at_is j)) ∙ test-in-part t (base_of ps.stack) o u (omega (arith, a.to)) (omega (arith, b.to)))
  parts-stand t Movable Stack o u a b = across-stands t (number_at ps (At Movable o)) (number_at ps (At Stack u)) (λ e. apart.movable_stack (omega (arith, e, a.at_is, b.at_is, a.here.from, a.here.to, b.here.from, b.here.to)))
  parts-stand t Stack Movable o u a b = across-stands t (number_at ps (At Stack o)) (number_at ps (At Movable u)) (λ e. apart.movable_stack (omega (arith, e, a.at_is, b.at_is, a.here.from, a.here.to, b.here.from, b.here.to)))

  -- a comparison stands for that of the numbers
  pub holds-follows : (t : Test) (a b : Value) (x y : ℕ) → x ≡ number_at ps a → y ≡ number_at ps b
      → Follows {S = ⊥} (λ (c : Bool). c) (holds_of (part_bytes i) t a b) (Ok (test_of t x y))
  holds-follows t (Num a) (Num b) x y e h = λ j. Ok (test_of t (e j) (h j))
  holds-follows t (At p o) (At q u) x y e h =
      cond_both (in_bounds (part_bytes i) p o && in_bounds (part_bytes i) q u) _ _ (λ r. Follows {S = ⊥} (λ (c : Bool). c) r (Ok (test_of t x y)))
      (λ inside. let both = both-true (in_bounds (part_bytes i) p o) (in_bounds (part_bytes i) q u) inside in
      subst (λ z. Follows {S = ⊥} (λ (c : Bool). c) (if is_same_part p q then Ok (test_of t o u) else across_parts t) (Ok z)) (λ j. test_of t (sym e j) (sym h j))
      (parts-stand t p q o u (in-part p o both.0) (in-part q u both.1)))
      (λ beside. tt)
  holds-follows t (At p o) (Num n) x y e h =
      cond_both (in_bounds (part_bytes i) p o && is_outside n) _ _ (λ r. Follows {S = ⊥} (λ (c : Bool). c) r (Ok (test_of t x y)))
      (λ clear. let both = both-true (in_bounds (part_bytes i) p o) (is_outside n) clear in
      let is = in-part p o both.0 in
      ap Ok ((λ j. test_of t ((e ∙ is.at_is) j) (h j)) ∙ test-to (base_of (place_at p) + o) n is.from is.to t (outside n both.1)))
      (λ unclear. tt)
  holds-follows t (Num n) (At p o) x y e h =
      cond_both (in_bounds (part_bytes i) p o && is_outside n) _ _ (λ r. Follows {S = ⊥} (λ (c : Bool). c) r (Ok (test_of t x y)))
      (λ clear. let both = both-true (in_bounds (part_bytes i) p o) (is_outside n) clear in
      let is = in-part p o both.0 in
      ap Ok ((λ j. test_of t (e j) ((h ∙ is.at_is) j)) ∙ test-from (base_of (place_at p) + o) n is.from is.to t (outside n both.1)))
      (λ unclear. tt)

  pub holds-stand : (t : Test) (a b : Value) (holds : Bool) → holds_of (part_bytes i) t a b ≡ Ok holds → holds ≡ test_of t (number_at ps a) (number_at ps b)
  holds-stand t a b holds e =
      let is = followed (λ (c : Bool). c) (holds_of (part_bytes i) t a b) holds (holds-follows t a b (number_at ps a) (number_at ps b) refl refl) e in
      cc is
