-- What the symbolic machine reaches is what the plain machine reaches at the address, and what it finds where it fetches
-- is what is found there.
use Rattle.std.proofs.Common.{◌≡◌, ℕ, ◌+◌, ◌-◌, ◌*◌, ◌%◌, ◌^◌, ◌<◌, ◌≤◌, ◌==◌, ◌&&◌, nat_lt, nat_le, Bool, true, false, if◌then◌else◌, List, [], ◌∷◌, map, take, drop, Option, None, Some, Result, Ok, Err, IfOk, subst, mod-eq_of_lt, inl, inr, refl, sym, ap, ◌∙◌, arith}
use Rattle.std.proofs.lemmas.Bool.{cases_lt, cond_both, eq-eqb, eqb-true, ltb-false, ltb-true}
use Rattle.std.proofs.lemmas.Bool.Decides.{nat_tests}
use Rattle.std.proofs.lemmas.List.{drop-map, length-map, take-map}
use Rattle.byteorder.specs.Endian.{little_number}
use Rattle.byteorder.specs.Numbers.{little_from-take}
use Rattle.ad_base.specs.declared.end.End.{End}
use Rattle.ad_base.specs.declared.end.End.TheVariants as ends
use Rattle.ad_base.specs.declared.layout.TheConstants.{FETCH_BYTES, GATE, MODULE_REGION, PAGE_BYTES, REGION_BYTES}
use Rattle.ad_base.specs.declared.place.Place.{Place}
use Rattle.ad_base.specs.Place.{base_of}
use Rattle.ad_base.specs.Segments.{Fetch, Segment, Use, allows, bytes_from, holding, holds, in_region_1, reach, service_number, with_right}
use Rattle.ad_isa.specs.Domain.{◌>>=◌}
use Rattle.ad_isa.specs.Step.{Found, Word}
use Rattle.ad_core.specs.declared.bus.Fetched.TheVariants as fetch
use Rattle.ad_core.specs.Memory.{fetched, number_in, service_or, word_of}
use Rattle.ad_core.specs.Plain.{found_or_end}
use Rattle.ad_symbolic.specs.Value.{is_outside, offset_of}
use Rattle.ad_symbolic.specs.declared.byte.Byte.{Byte}
use Rattle.ad_symbolic.specs.declared.byte.Byte.TheVariants.{Number, OfAddress}
use Rattle.ad_symbolic.specs.declared.value.Reason.TheVariants.{Address}
use Rattle.ad_symbolic.specs.declared.value.Value.TheVariants.{At, Num}
use Rattle.ad_symbolic.specs.declared.value.Part.TheVariants.{Movable, Stack}
use Rattle.ad_symbolic.specs.declared.value.Part.{Part}
use Rattle.ad_symbolic.specs.declared.value.Reason.{Reason}
use Rattle.ad_symbolic.specs.declared.value.Value.{Value}
use Rattle.ad_symbolic.specs.AddressSpace.{AddressSpace, all_numbers, fetched_value, is_beside, part_bytes, reached_then, segments_in, word_from}
use Rattle.ad_symbolic.specs.AddressSpace as symbolic
use Rattle.ad_relate.specs.Stands.{Fits, IsApart, Places, base_at, byte_at, number_at, segment_at, segments_at}
use Rattle.ad_relate.proofs.Apart.{IsAlone, IsIn, Misses, fixed-alone, holding-missed, holding-none, movable-alone, part_at, stack-alone}
use Rattle.ad_relate.proofs.Values.{alignment, if-apart, if-each}

-- the region of a part
abbrev pub region_at : Places → Part → ℕ
region_at ps Movable = ps.movable.region
region_at ps Stack = ps.stack.region

-- the segment that is reached, so many bytes further on, or the same end
abbrev pub reached_at : Places → ℕ → Result (Segment Byte) End → Result (Segment ℕ) End
reached_at ps shift (Ok s) = Ok (segment_at ps shift s)
reached_at ps shift (Err end) = Err end

-- what an access reaches that is aligned
abbrev pub aligned_reach : Use → List (Segment ℕ) → ℕ → Result (Segment ℕ) End
aligned_reach wanted segments at = if in_region_1 at then Err ends.Fault else with_right wanted (holding segments at)

-- the same of an offset of a part of so many bytes
abbrev pub offset_reach : Use → ℕ → List (Segment Byte) → ℕ → Result (Result (Segment Byte) End) Reason
offset_reach wanted size part o = if nat_lt o size then Ok (with_right wanted (holding part o)) else (if is_beside size o then Ok (Err ends.Fault) else Err Address)

-- and of a number
abbrev pub number_reach : Use → AddressSpace → ℕ → Result (Result (Segment Byte) End) Reason
number_reach wanted s n =
    if is_outside n then Ok (Err ends.Fault)
    else (if nat_le (base_of s.image.fixed) n && nat_lt n (base_of s.image.fixed + s.image.fixed.pages * PAGE_BYTES) then Ok (with_right wanted (holding s.fixed n))
    else Err Address)

-- What is reached from an offset or number is what is reached at the address, which lies so many bytes further on, in this
-- region, if there is a segment.
pub record IsReached (ps : Places) (wanted : Use) (segments : List (Segment ℕ)) (region shift o at : ℕ) (r : Result (Segment Byte) End) : Type 0 where
  pub same : aligned_reach wanted segments at ≡ reached_at ps shift r
  pub further : IfOk r (λ s. (at ≡ shift + o) × IsIn region at)

-- behind region 1 the segment that holds the address counts
reach-behind : (wanted : Use) (segments : List (Segment ℕ)) (at : ℕ) → MODULE_REGION * REGION_BYTES ≤ at → aligned_reach wanted segments at ≡ with_right wanted (holding segments at)
reach-behind wanted segments at from =
    let no : in_region_1 at ≡ false = grind (arith, nat_tests) in
    ap (λ (b : Bool). if b then Err ends.Fault else with_right wanted (holding segments at)) no

either-way : {A : Type 0} (b : Bool) (x : A) → (if b then x else x) ≡ x
either-way true x = refl
either-way false x = refl

-- an address that no segment holds is a fault
reach-none : (wanted : Use) (segments : List (Segment ℕ)) (at : ℕ) → holding segments at ≡ None → aligned_reach wanted segments at ≡ Err ends.Fault
reach-none wanted segments at none = ap (λ x. if in_region_1 at then Err ends.Fault else with_right wanted x) none ∙ either-way (in_region_1 at) (Err ends.Fault)

module _ (ps : Places) (wanted : Use) where
  -- the segment that holds an address has the right where the one that it stands for has
  right-by : (shift : ℕ) (a b : Bool) (s : Segment Byte) (x : Option (Segment ℕ)) (y : Option (Segment Byte)) → a ≡ b → with_right wanted x ≡ reached_at ps shift (with_right wanted y)
      → with_right wanted (if a then Some (segment_at ps shift s) else x) ≡ reached_at ps shift (with_right wanted (if b then Some s else y))
  right-by shift true true s x y e rest = sym (if-apart (reached_at ps shift) (allows wanted s.rights) (Ok s) (Err ends.Denied))
  right-by shift false false s x y e rest = rest
  right-by shift true false s x y e rest = absurd cc
  right-by shift false true s x y e rest = absurd cc

  right-at : (shift o : ℕ) (part : List (Segment Byte)) → with_right wanted (holding (part_at ps shift part) (shift + o)) ≡ reached_at ps shift (with_right wanted (holding part o))
  right-at shift o [] = refl
  right-at shift o (s ∷ part) =
      let long = length-map s.bytes (byte_at ps) in
      right-by shift (holds (shift + o) (segment_at ps shift s)) (holds o s) s (holding (part_at ps shift part) (shift + o)) (holding part o) (grind (arith, nat_tests, long)) (right-at shift o part)

  module _ (segments : List (Segment ℕ)) (q : Place) (shift : ℕ) (part : List (Segment Byte)) (only : IsAlone segments (part_at ps shift part) q) where
    -- the region of a part lies behind region 1
    behind : (at : ℕ) → IsIn q.region at → MODULE_REGION * REGION_BYTES ≤ at
    behind at here = omega (arith, only.fills.place.region_from, here.from)

    -- an address in the region of a part reaches what its offset reaches
    reaches-alone : (o at : ℕ) → at ≡ shift + o → IsIn q.region at → IsReached ps wanted segments q.region shift o at (with_right wanted (holding part o))
    reaches-alone o at e here = record {
      same = reach-behind wanted segments at (behind at here) ∙ ap (with_right wanted) (only.alone at here) ∙ ap (λ n. with_right wanted (holding (part_at ps shift part) n)) e ∙ right-at shift o part;
      further = further (with_right wanted (holding part o));
    }
      where
        further : (r : Result (Segment Byte) End) → IfOk r (λ s. (at ≡ shift + o) × IsIn q.region at)
        further (Ok s) = (e, here)
        further (Err end) = tt

    -- one that is beside the part is a fault
    fault-beside : (o at : ℕ) → IsIn q.region at → Misses q at → IsReached ps wanted segments q.region shift o at (Err ends.Fault)
    fault-beside o at here beside = record { same = reach-none wanted segments at (only.alone at here ∙ holding-missed q (part_at ps shift part) at only.fills beside); further = tt }

  module _ (segments : List (Segment ℕ)) (q : Place) (part : List (Segment Byte)) (only : IsAlone segments (part_at ps (base_of q) part) q) where
    -- what an offset of the part reaches is reached at its address, which lies behind region 1
    abbrev OffsetReached : ℕ → Result (Segment Byte) End → Type 0
    OffsetReached o r = IsReached ps wanted segments q.region (base_of q) o ((base_of q + o) % 2 ^ 64) r × (MODULE_REGION * REGION_BYTES ≤ (base_of q + o) % 2 ^ 64)

    -- an offset inside the part, or less than a page behind it
    whole : (o : ℕ) → o < q.pages * PAGE_BYTES + PAGE_BYTES → (base_of q + o) % 2 ^ 64 ≡ base_of q + o
    whole o below = let place = only.fills.place in mod-eq_of_lt (omega (arith, place.region_to, place.page_behind))

    reaches-inside : (o : ℕ) → o < q.pages * PAGE_BYTES → OffsetReached o (with_right wanted (holding part o))
    reaches-inside o inside =
        let place = only.fills.place in
        let there = whole o (omega (arith, inside)) in
        let here : IsIn q.region ((base_of q + o) % 2 ^ 64) = record { from = omega (arith, there); to = omega (arith, there, place.page_behind) } in
        (reaches-alone segments q (base_of q) part only o ((base_of q + o) % 2 ^ 64) there here, behind segments q (base_of q) part only ((base_of q + o) % 2 ^ 64) here)

    missed : (o : ℕ) → IsIn q.region ((base_of q + o) % 2 ^ 64) → Misses q ((base_of q + o) % 2 ^ 64) → OffsetReached o (Err ends.Fault)
    missed o here beside = (fault-beside segments q (base_of q) part only o ((base_of q + o) % 2 ^ 64) here beside, behind segments q (base_of q) part only ((base_of q + o) % 2 ^ 64) here)

    -- an offset at most a page before the part
    fault-before : (o : ℕ) → 2 ^ 64 - PAGE_BYTES ≤ o → o < 2 ^ 64 → OffsetReached o (Err ends.Fault)
    fault-before o near below =
        let place = only.fills.place in
        let back : (base_of q + o) % 2 ^ 64 + 2 ^ 64 ≡ base_of q + o = omega (arith, place.region_to, place.page_before, place.page_behind) in
        missed o (record { from = omega (arith, back, place.page_before); to = omega (arith, back, place.page_behind) }) (inl (omega (arith, back)))

    -- an offset less than a page behind the part
    fault-behind : (o : ℕ) → q.pages * PAGE_BYTES ≤ o → o < q.pages * PAGE_BYTES + PAGE_BYTES → OffsetReached o (Err ends.Fault)
    fault-behind o past near =
        let place = only.fills.place in
        let there = whole o near in
        missed o (record { from = omega (arith, there); to = omega (arith, there, place.page_behind) }) (inr (omega (arith, there)))

    -- either of these
    fault-there : (o : ℕ) → o < 2 ^ 64 → q.pages * PAGE_BYTES ≤ o → is_beside (q.pages * PAGE_BYTES) o ≡ true → OffsetReached o (Err ends.Fault)
    fault-there o below past beside = elim (cases_lt o (2 ^ 64 - PAGE_BYTES)) [
      | inl low ↦ fault-behind o past (grind (arith, nat_tests))
      | inr near ↦ fault-before o near below
    ]

    reaches-offset : (o : ℕ) → o < 2 ^ 64 → IfOk (offset_reach wanted (q.pages * PAGE_BYTES) part o) (OffsetReached o)
    reaches-offset o below =
        let P : Result (Result (Segment Byte) End) Reason → Type 0 = λ x. IfOk x (OffsetReached o) in
        cond_both (nat_lt o (q.pages * PAGE_BYTES)) _ _ P
        (λ inside. reaches-inside o (ltb-true o (q.pages * PAGE_BYTES) inside))
        (λ outside. cond_both (is_beside (q.pages * PAGE_BYTES) o) _ _ P
        (λ beside. fault-there o below (ltb-false o (q.pages * PAGE_BYTES) outside) beside)
        (λ far. tt))

module _ (space : AddressSpace) (ps : Places) (apart : IsApart space.image ps) (fits : Fits space) (wanted : Use) where
  -- what an offset of a part reaches
  pub reaches-part : (p : Part) (o : ℕ) → o < 2 ^ 64 → IfOk (offset_reach wanted (part_bytes space.image p) (segments_in space p) o)
      (λ r. IsReached ps wanted (segments_at ps space) (region_at ps p) (base_at ps p) o (number_at ps (At p o)) r × (MODULE_REGION * REGION_BYTES ≤ number_at ps (At p o)))
  reaches-part Movable o below =
      subst (λ pages. IfOk (offset_reach wanted (pages * PAGE_BYTES) space.movable o) (OffsetReached ps wanted (segments_at ps space) ps.movable space.movable (movable-alone space ps apart fits) o)) apart.movable_size
      (reaches-offset ps wanted (segments_at ps space) ps.movable space.movable (movable-alone space ps apart fits) o below)
  reaches-part Stack o below =
      subst (λ pages. IfOk (offset_reach wanted (pages * PAGE_BYTES) space.stack o) (OffsetReached ps wanted (segments_at ps space) ps.stack space.stack (stack-alone space ps apart fits) o)) apart.stack_size
      (reaches-offset ps wanted (segments_at ps space) ps.stack space.stack (stack-alone space ps apart fits) o below)

  -- a number in the immovable part is in its region
  inside-fixed : (n : ℕ) → (nat_le (base_of space.image.fixed) n && nat_lt n (base_of space.image.fixed + space.image.fixed.pages * PAGE_BYTES)) ≡ true → IsIn space.image.fixed.region n
  inside-fixed n inside =
      let place = apart.whole.fixed_place.place in
      let low : base_of space.image.fixed ≤ n = grind (arith, nat_tests) in
      let high : n < base_of space.image.fixed + space.image.fixed.pages * PAGE_BYTES = grind (arith, nat_tests) in
      record { from = omega (arith, low); to = omega (arith, high, place.page_behind) }

  -- what a number reaches
  pub reaches-number : (n : ℕ) → IfOk (number_reach wanted space n) (IsReached ps wanted (segments_at ps space) space.image.fixed.region 0 n n)
  reaches-number n =
      let q = space.image.fixed in
      let P : Result (Result (Segment Byte) End) Reason → Type 0 = λ x. IfOk x (IsReached ps wanted (segments_at ps space) space.image.fixed.region 0 n n) in
      cond_both (is_outside n) _ _ P
      (λ out. record { same = reach-none wanted (segments_at ps space) n (holding-none space ps apart fits n (grind (arith, nat_tests))); further = tt })
      (λ in_regions. cond_both (nat_le (base_of q) n && nat_lt n (base_of q + q.pages * PAGE_BYTES)) _ _ P
      (λ inside. reaches-alone ps wanted (segments_at ps space) q 0 space.fixed (fixed-alone space ps apart fits) n n (omega arith) (inside-fixed n inside))
      (λ beside. tt))

-- bytes that are numbers stand for these
more-numbers : (n : ℕ) (x : Result (List ℕ) Reason) (ys : List ℕ) → IfOk x (λ ns. ys ≡ ns) → IfOk (x >>= λ ns. Ok (n ∷ ns)) (λ ns. n ∷ ys ≡ ns)
more-numbers n (Ok ns) ys h = ap (λ ms. n ∷ ms) h
more-numbers n (Err reason) ys h = tt

pub numbers : (ps : Places) (bs : List Byte) → IfOk (all_numbers bs) (λ ns. map (byte_at ps) bs ≡ ns)
numbers ps [] = refl
numbers ps (Number n ∷ bs) = more-numbers n (all_numbers bs) (map (byte_at ps) bs) (numbers ps bs)
numbers ps (OfAddress i p o ∷ bs) = tt

-- where it is clear what is found, it is this
abbrev Finds : Result (Result Found End) Reason → Result Found End → Type 0
Finds x found = IfOk x (λ clear. found ≡ clear)

-- a word is the number in its bytes
word : (n : ℕ) (x : Result (List ℕ) Reason) (ys : List ℕ) → IfOk x (λ ns. take n ys ≡ ns) → Finds (x >>= λ ns. Ok (Ok (Word (little_number n ns)))) (Ok (Word (little_number n ys)))
word n (Ok ns) ys h = let same = sym (little_from-take 0 n n ys (omega arith)) ∙ ap (little_number n) h in λ j. Ok (Word (same j))
word n (Err reason) ys h = tt

-- two segments of the same bytes have the same word at the same place
word-at : (ps : Places) (shift o at : ℕ) (s : Segment Byte) → at ≡ shift + o → Finds (word_from o s) (Ok (Word (number_in FETCH_BYTES at (segment_at ps shift s))))
word-at ps shift o at s e =
    let k = o - s.base in
    let place : at - (shift + s.base) ≡ k = omega (arith, e) in
    let bytes : map (byte_at ps) (take FETCH_BYTES (drop k s.bytes)) ≡ take FETCH_BYTES (bytes_from at (segment_at ps shift s)) =
    sym (take-map (byte_at ps) FETCH_BYTES (drop k s.bytes)) ∙ ap (take FETCH_BYTES) (sym (drop-map (byte_at ps) k s.bytes)) ∙ ap (λ n. take FETCH_BYTES (drop n (map (byte_at ps) s.bytes))) (sym place) in
    word FETCH_BYTES (all_numbers (take FETCH_BYTES (drop k s.bytes))) (bytes_from at (segment_at ps shift s)) (subst (λ ys. IfOk (all_numbers (take FETCH_BYTES (drop k s.bytes))) (λ ns. ys ≡ ns)) bytes (numbers ps (take FETCH_BYTES (drop k s.bytes))))

-- the word of the segment that is reached, or the same end
abbrev word_or_end : ℕ → Result (Segment ℕ) End → Result Found End
word_or_end at (Ok s) = Ok (Word (number_in FETCH_BYTES at s))
word_or_end at (Err end) = Err end

-- a fetch that is aligned ends with a fault, or for want of the right
found-reached : (at : ℕ) (first : Bool) (x : Option (Segment ℕ)) → found_or_end (word_of at (if first then Err ends.Fault else with_right Fetch x)) ≡ word_or_end at (if first then Err ends.Fault else with_right Fetch x)
found-reached at true x = refl
found-reached at false None = refl
found-reached at false (Some s) = by s.rights.fetch
  where
    by : (b : Bool) → found_or_end (word_of at (if b then Ok s else Err ends.Denied)) ≡ word_or_end at (if b then Ok s else Err ends.Denied)
    by true = refl
    by false = refl

reach-aligned : (segments : List (Segment ℕ)) (at : ℕ) → at % FETCH_BYTES ≡ 0 → reach Fetch FETCH_BYTES segments at ≡ aligned_reach Fetch segments at
reach-aligned segments at aligned = ap (λ (b : Bool). if b then aligned_reach Fetch segments at else Err ends.Misaligned) (eq-eqb (at % FETCH_BYTES) 0 aligned)

found-aligned : (segments : List (Segment ℕ)) (at : ℕ) → at % FETCH_BYTES ≡ 0 → found_or_end (word_of at (reach Fetch FETCH_BYTES segments at)) ≡ word_or_end at (aligned_reach Fetch segments at)
found-aligned segments at aligned = ap (λ r. found_or_end (word_of at r)) (reach-aligned segments at aligned) ∙ found-reached at (in_region_1 at) (holding segments at)

-- behind region 1 there is no gate and no service
fetched-behind : (segments : List (Segment ℕ)) (at : ℕ) → MODULE_REGION * REGION_BYTES ≤ at → at % FETCH_BYTES ≡ 0 → found_or_end (fetched segments at) ≡ word_or_end at (aligned_reach Fetch segments at)
unfolding fetched
fetched-behind segments at from aligned =
    let gate : (at == GATE) ≡ false = grind (arith, nat_tests) in
    let service : service_number at ≡ None = grind (arith, nat_tests) in
    ap (λ (b : Bool). found_or_end (if b then fetch.Gate else service_or (service_number at) (word_of at (reach Fetch FETCH_BYTES segments at)))) gate
    ∙ ap (λ x. found_or_end (service_or x (word_of at (reach Fetch FETCH_BYTES segments at)))) service
    ∙ found-aligned segments at aligned

-- what is found where this is reached
finds-reached : (ps : Places) (segments : List (Segment ℕ)) (region shift o at : ℕ) (r : Result (Segment Byte) End) → IsReached ps Fetch segments region shift o at r → Finds (reached_then (Ok r) (word_from o)) (word_or_end at (aligned_reach Fetch segments at))
finds-reached ps segments region shift o at (Ok s) is =
    subst (λ x. Finds (word_from o s) (word_or_end at x)) (sym is.same) (word-at ps shift o at s is.further.0)
finds-reached ps segments region shift o at (Err end) is = ap (word_or_end at) is.same

module _ (space : AddressSpace) (ps : Places) (apart : IsApart space.image ps) (fits : Fits space) where
  -- what is found where the plain machine fetches
  abbrev there : ℕ → Result Found End
  there at = found_or_end (fetched (segments_at ps space) at)

  finds-offset : (p : Part) (o : ℕ) (r : Result (Result (Segment Byte) End) Reason) → number_at ps (At p o) % FETCH_BYTES ≡ 0
      → IfOk r (λ r. IsReached ps Fetch (segments_at ps space) (region_at ps p) (base_at ps p) o (number_at ps (At p o)) r × (MODULE_REGION * REGION_BYTES ≤ number_at ps (At p o)))
      → Finds (reached_then r (word_from o)) (there (number_at ps (At p o)))
  finds-offset p o (Ok r) aligned is =
      let at = number_at ps (At p o) in
      subst (λ x. Finds (reached_then (Ok r) (word_from o)) x) (sym (fetched-behind (segments_at ps space) at is.1 aligned)) (finds-reached ps (segments_at ps space) (region_at ps p) (base_at ps p) o at r is.0)
  finds-offset p o (Err reason) aligned is = tt

  finds-number : (n : ℕ) (r : Result (Result (Segment Byte) End) Reason) (service : Option ℕ) → n % FETCH_BYTES ≡ 0 → IfOk r (IsReached ps Fetch (segments_at ps space) space.image.fixed.region 0 n n)
      → Finds (symbolic.service_or service (reached_then r (word_from n))) (found_or_end (service_or service (word_of n (reach Fetch FETCH_BYTES (segments_at ps space) n))))
  finds-number n r (Some number) aligned is = refl
  finds-number n (Ok r) None aligned is =
      subst (λ x. Finds (reached_then (Ok r) (word_from n)) x) (sym (found-aligned (segments_at ps space) n aligned)) (finds-reached ps (segments_at ps space) space.image.fixed.region 0 n n r is)
  finds-number n (Err reason) None aligned is = tt

  -- where the symbolic machine has a clear answer, the plain machine has the same
  finds : (v : Value) → offset_of v < 2 ^ 64 → offset_of v % FETCH_BYTES ≡ 0 → Finds (fetched_value space v) (there (number_at ps v))
  unfolding fetched_value fetched
  finds (Num n) below aligned =
      cond_both (n == GATE) fetch.Gate (service_or (service_number n) (word_of n (reach Fetch FETCH_BYTES (segments_at ps space) n))) (λ x. Finds (fetched_value space (Num n)) (found_or_end x))
      (λ gate. let same = eqb-true n GATE gate in subst (λ k. Finds (fetched_value space (Num k)) (Err ends.Fault)) (sym same) refl)
      (λ away. cond_both (n % FETCH_BYTES == 0) (number_reach Fetch space n) (Ok (Err ends.Misaligned))
      (λ x. Finds (symbolic.service_or (service_number n) (reached_then x (word_from n))) (found_or_end (service_or (service_number n) (word_of n (reach Fetch FETCH_BYTES (segments_at ps space) n)))))
      (λ e. finds-number n (number_reach Fetch space n) (service_number n) aligned (reaches-number space ps apart fits Fetch n)) (λ odd. absurd (grind (arith, nat_tests))))
  finds (At p o) below aligned =
      cond_both (o % FETCH_BYTES == 0) (offset_reach Fetch (part_bytes space.image p) (segments_in space p) o) (Ok (Err ends.Misaligned))
      (λ x. Finds (reached_then x (word_from o)) (there (number_at ps (At p o))))
      (λ e. finds-offset p o (offset_reach Fetch (part_bytes space.image p) (segments_in space p) o) (alignment ps (At p o) ∙ aligned) (reaches-part space ps apart fits Fetch p o below)) (λ odd. absurd (grind (arith, nat_tests)))

-- An address at an offset of 2^64 or more would stand for the number of a lower offset: those are left out.
pub fetch-stands : (space : AddressSpace) (ps : Places) → IsApart space.image ps → Fits space → (v : Value) (found : Result Found End) → offset_of v < 2 ^ 64 → offset_of v % FETCH_BYTES ≡ 0 → fetched_value space v ≡ Ok found → found_or_end (fetched (segments_at ps space) (number_at ps v)) ≡ found
fetch-stands space ps apart fits v found below aligned is = if-each (λ x. found_or_end (fetched (segments_at ps space) (number_at ps v)) ≡ x) (fetched_value space v) found (finds space ps apart fits v below aligned) is
