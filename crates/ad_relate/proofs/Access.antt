-- What the symbolic machine loads and stores is what the plain machine does at the address.
use Rattle.std.proofs.Common.{◌≡◌, ℕ, ◌+◌, ◌-◌, ◌%◌, ◌^◌, ◌<◌, ◌≤◌, ◌==◌, ◌&&◌, nat_le, Bool, true, false, if◌then◌else◌, List, [], ◌∷◌, ◌++◌, length, map, take, drop, None, Some, Result, Ok, Err, IfOk, subst, inl, inr, refl, sym, ap, ◌∙◌, append_assoc, arith}
use Rattle.std.specs.List.{range_with_len}
use Rattle.std.proofs.Math.Nat.{zero-add}
use Rattle.std.proofs.lemmas.Bool.{cond_both, eqb-true}
use Rattle.std.proofs.lemmas.Bool.Decides.{nat_tests}
use Rattle.std.proofs.lemmas.List.{drop-map, length-map, length-take, map-append, take-map}
use Rattle.byteorder.specs.Endian.{little_bytes, little_number}
use Rattle.byteorder.specs.Numbers.{little_from-take, little_number-reads_back}
use Rattle.ad_base.specs.declared.end.End.{End}
use Rattle.ad_base.specs.declared.end.End.TheVariants as ends
use Rattle.ad_base.specs.declared.layout.TheConstants.{WORD_BYTES}
use Rattle.ad_base.specs.Place.{base_of}
use Rattle.ad_base.specs.Segments.{Load, Segment, Store, Use, bytes_from, holding, holds, put_at, reach, with_bytes}
use Rattle.ad_base.proofs.Extents.{extents-put_at}
use Rattle.ad_core.specs.Memory.{loaded, number_in, number_of, put_by, stored}
use Rattle.ad_core.specs.Plain.{widened_or_end}
use Rattle.ad_isa.specs.Domain.{◌>>=◌}
use Rattle.ad_isa.specs.Numbers.{widened}
use Rattle.ad_isa.specs.Words.{IsSize}
use Rattle.ad_symbolic.specs.Value.{is_same_part, offset_of}
use Rattle.ad_symbolic.specs.declared.byte.Byte.{Byte}
use Rattle.ad_symbolic.specs.declared.byte.Byte.TheVariants.{Number, OfAddress}
use Rattle.ad_symbolic.specs.declared.value.Reason.{Reason}
use Rattle.ad_symbolic.specs.declared.value.Value.TheVariants.{At, Num}
use Rattle.ad_symbolic.specs.declared.value.Part.TheVariants.{Movable, Stack}
use Rattle.ad_symbolic.specs.declared.value.Part.{Part}
use Rattle.ad_symbolic.specs.declared.value.Value.{Value}
use Rattle.ad_symbolic.specs.AddressSpace.{AddressSpace, address_bytes, all_numbers, are_of_address, loaded_value, low_bytes, part_bytes, put_at_value, reach_value, reached_then, segments_in, stored_value, value_of_bytes}
use Rattle.ad_relate.specs.Machines.{found_at, left_at}
use Rattle.ad_relate.specs.Stands.{Fits, IsApart, Places, base_at, byte_at, number_at, segment_at, segments_at}
use Rattle.ad_relate.proofs.Apart.{IsIn, find-second, fixed_segments, fixed-misses, movable_segments, movable-misses, part_at, stack_segments, stack-misses}
use Rattle.ad_relate.proofs.Fetch.{IsReached, aligned_reach, number_reach, numbers, offset_reach, reached_at, reaches-number, reaches-part, region_at}
use Rattle.ad_relate.proofs.Parts.{bytes-at}
use Rattle.ad_relate.proofs.Values.{Follows, aligned, followed}

-- how far a value's part lies from where its segments say
abbrev shift_of : Places → Value → ℕ
shift_of ps (Num n) = 0
shift_of ps (At p o) = base_at ps p

-- the region in which the part of a value lies
abbrev region_of : AddressSpace → Places → Value → ℕ
region_of space ps (Num n) = space.image.fixed.region
region_of space ps (At p o) = region_at ps p

-- What is reached at a value is what is reached at its number, in the region of its part.
record IsFound (space : AddressSpace) (ps : Places) (wanted : Use) (size : ℕ) (v : Value) (r : Result (Segment Byte) End) : Type 0 where
  same : reach wanted size (segments_at ps space) (number_at ps v) ≡ reached_at ps (shift_of ps v) r
  further : IfOk r (λ s. (number_at ps v ≡ shift_of ps v + offset_of v) × IsIn (region_of space ps v) (number_at ps v))

module _ (space : AddressSpace) (ps : Places) (apart : IsApart space.image ps) (fits : Fits space) (wanted : Use) (size : ℕ) (is : IsSize size) where
  -- an access that is aligned reaches what one that needn't be does
  reach-is : (at : ℕ) → (at % size == 0) ≡ true → reach wanted size (segments_at ps space) at ≡ aligned_reach wanted (segments_at ps space) at
  reach-is at e = ap (λ (b : Bool). if b then aligned_reach wanted (segments_at ps space) at else Err ends.Misaligned) e

  misaligned-is : (v : Value) → (offset_of v % size == 0) ≡ false → IsFound space ps wanted size v (Err ends.Misaligned)
  misaligned-is v e = record {
    same = ap (λ n. if n == 0 then aligned_reach wanted (segments_at ps space) (number_at ps v) else Err ends.Misaligned) (aligned ps size v is)
        ∙ ap (λ (b : Bool). if b then aligned_reach wanted (segments_at ps space) (number_at ps v) else Err ends.Misaligned) e;
    further = tt;
  }

  -- what is reached without regard to the size is reached with it
  with-size : (v : Value) (r : Result (Result (Segment Byte) End) Reason) → (offset_of v % size == 0) ≡ true
      → IfOk r (IsReached ps wanted (segments_at ps space) (region_of space ps v) (shift_of ps v) (offset_of v) (number_at ps v)) → IfOk r (IsFound space ps wanted size v)
  with-size v (Ok r) e found = record { same = reach-is (number_at ps v) (ap (λ n. n == 0) (aligned ps size v is) ∙ e) ∙ found.same; further = found.further }
  with-size v (Err reason) e found = tt

  -- the address is behind region 1
  without : (v : Value) (r : Result (Result (Segment Byte) End) Reason) (P Q : Result (Segment Byte) End → Type 0) → IfOk r (λ x. P x × Q x) → IfOk r P
  without v (Ok r) P Q both = both.0
  without v (Err reason) P Q both = tt

  reach-stands : (v : Value) → offset_of v < 2 ^ 64 → IfOk (reach_value wanted size space v) (IsFound space ps wanted size v)
  reach-stands (Num n) below =
      cond_both (n % size == 0) (number_reach wanted space n) (Ok (Err ends.Misaligned)) (λ r. IfOk r (IsFound space ps wanted size (Num n)))
      (λ e. with-size (Num n) (number_reach wanted space n) e (reaches-number space ps apart fits wanted n))
      (λ e. misaligned-is (Num n) e)
  reach-stands (At p o) below =
      let r = offset_reach wanted (part_bytes space.image p) (segments_in space p) o in
      cond_both (o % size == 0) r (Ok (Err ends.Misaligned)) (λ r. IfOk r (IsFound space ps wanted size (At p o)))
      (λ e. with-size (At p o) r e (without (At p o) r _ _ (reaches-part space ps apart fits wanted p o below)))
      (λ e. misaligned-is (At p o) e)

-- bytes of one address are all of its bytes, from the first on
all-of : (p : Part) (o i : ℕ) (bs : List Byte) → are_of_address p o i bs ≡ true → (i + length bs ≡ WORD_BYTES) × (bs ≡ map (λ k. OfAddress k p o) (range_with_len i (length bs)))
all-of p o i [] e = (grind (arith, nat_tests), refl)
all-of p o i (Number n ∷ bs) e = absurd cc
all-of p o i (OfAddress j q u ∷ bs) e =
    let rest = and-right (i == j && is_same_part p q && o == u) (are_of_address p o (i + 1) bs) e in
    let first = and-left (i == j && is_same_part p q && o == u) (are_of_address p o (i + 1) bs) e in
    let number = and-right (i == j && is_same_part p q) (o == u) first in
    let part = and-left (i == j && is_same_part p q) (o == u) first in
    let more = all-of p o (i + 1) bs rest in
    (omega (arith, more.0), (λ k. OfAddress (sym (eqb-true i j (and-left (i == j) (is_same_part p q) part)) k) (sym (same-part p q (and-right (i == j) (is_same_part p q) part)) k) (sym (eqb-true o u number) k) ∷ more.1 k))
  where
    and-left : (a b : Bool) → a && b ≡ true → a ≡ true
    and-left true b h = refl
    and-left false b h = absurd cc

    and-right : (a b : Bool) → a && b ≡ true → b ≡ true
    and-right true b h = h
    and-right false b h = absurd cc

    same-part : (p q : Part) → is_same_part p q ≡ true → p ≡ q
    same-part Movable Movable h = refl
    same-part Stack Stack h = refl
    same-part Movable Stack h = absurd cc
    same-part Stack Movable h = absurd cc

-- a number of eight bytes has no sign to widen it by
widened-word : (signed : Bool) (n : ℕ) → widened WORD_BYTES signed n ≡ n
widened-word false n = refl
widened-word true n = cond_both (nat_le (2 ^ 63) n) (n + 0) n (λ m. m ≡ n) (λ e. omega arith) (λ e. refl)

-- the bytes of an address stand for its number
word-is : (ps : Places) (p : Part) (o : ℕ) (signed : Bool) → widened WORD_BYTES signed (little_number WORD_BYTES (map (byte_at ps) (address_bytes p o))) ≡ number_at ps (At p o)
word-is ps p o signed =
    widened-word signed (little_number WORD_BYTES (little_bytes WORD_BYTES (number_at ps (At p o))))
    ∙ little_number-reads_back WORD_BYTES (number_at ps (At p o)) [] (omega arith)

-- the value of bytes stands for their number
module _ (ps : Places) (size : ℕ) (signed : Bool) (is : IsSize size) where
  abbrev HasNumber : List Byte → Value → Type 0
  HasNumber bs v = widened size signed (little_number size (map (byte_at ps) bs)) ≡ number_at ps v

  numbers-stand : (bs : List Byte) (x : Result (List ℕ) Reason) → IfOk x (λ ns. map (byte_at ps) bs ≡ ns) → IfOk (x >>= λ ns. Ok (Num (widened size signed (little_number size ns)))) (HasNumber bs)
  numbers-stand bs (Ok ns) h = ap (λ ms. widened size signed (little_number size ms)) h
  numbers-stand bs (Err reason) h = tt

  address-stands : (p : Part) (o : ℕ) (bs : List Byte) → length bs ≤ size → are_of_address p o 0 bs ≡ true → HasNumber bs (At p o)
  address-stands p o bs short e =
      let all = all-of p o 0 bs e in
      let eight : length bs ≡ WORD_BYTES = omega (arith, all.0) in
      let whole : size ≡ WORD_BYTES = greatest size is (omega (arith, short, eight)) in
      let bytes : bs ≡ address_bytes p o = all.1 ∙ ap (λ n. map (λ k. OfAddress k p o) (range_with_len 0 n)) eight in
      (λ j. widened (whole j) signed (little_number (whole j) (map (byte_at ps) (bytes j)))) ∙ word-is ps p o signed
    where
      greatest : (n : ℕ) → IsSize n → WORD_BYTES ≤ n → n ≡ WORD_BYTES
      greatest n (inl one) h = omega (arith, one, h)
      greatest n (inr (inl two)) h = omega (arith, two, h)
      greatest n (inr (inr (inl four))) h = omega (arith, four, h)
      greatest n (inr (inr (inr eight))) h = eight

  value-stands : (bs : List Byte) → length bs ≤ size → IfOk (value_of_bytes size signed bs) (HasNumber bs)
  value-stands [] short = numbers-stand [] (Ok []) refl
  value-stands (Number n ∷ bs) short = numbers-stand (Number n ∷ bs) (all_numbers (Number n ∷ bs)) (numbers ps (Number n ∷ bs))
  value-stands (OfAddress i p o ∷ bs) short =
      cond_both (are_of_address p o 0 (OfAddress i p o ∷ bs)) _ _ (λ r. IfOk r (HasNumber (OfAddress i p o ∷ bs)))
      (λ e. address-stands p o (OfAddress i p o ∷ bs) short e) (λ e. tt)

-- the bytes of a segment from an address on, and those of the one that it stands for
bytes-further : (ps : Places) (shift o at : ℕ) (s : Segment Byte) → at ≡ shift + o → bytes_from at (segment_at ps shift s) ≡ map (byte_at ps) (bytes_from o s)
bytes-further ps shift o at s e =
    let place : at - (shift + s.base) ≡ o - s.base = omega (arith, e) in
    ap (λ n. drop n (map (byte_at ps) s.bytes)) place ∙ drop-map (byte_at ps) (o - s.base) s.bytes

module _ (space : AddressSpace) (ps : Places) (apart : IsApart space.image ps) (fits : Fits space) (size : ℕ) (is : IsSize size) where
  abbrev plain_segments : List (Segment ℕ)
  plain_segments = segments_at ps space

  -- the number of the segment that is reached
  number-stands : (signed : Bool) (v : Value) (s : Segment Byte) → number_at ps v ≡ shift_of ps v + offset_of v
      → IfOk (value_of_bytes size signed (take size (bytes_from (offset_of v) s))) (λ value. widened size signed (number_in size (number_at ps v) (segment_at ps (shift_of ps v) s)) ≡ number_at ps value)
  number-stands signed v s further =
      let bs = bytes_from (offset_of v) s in
      let bytes = bytes-further ps (shift_of ps v) (offset_of v) (number_at ps v) s further in
      let taken : little_number size (map (byte_at ps) (take size bs)) ≡ number_in size (number_at ps v) (segment_at ps (shift_of ps v) s) =
      ap (little_number size) (sym (take-map (byte_at ps) size bs)) ∙ little_from-take 0 size size (map (byte_at ps) bs) (omega arith) ∙ ap (little_number size) (sym bytes) in
      subst (λ n. IfOk (value_of_bytes size signed (take size bs)) (λ value. widened size signed n ≡ number_at ps value)) taken (value-stands ps size signed is (take size bs) (omega (arith, length-take size bs)))

  -- what a load comes to, once it is known what is reached
  load-by : (signed : Bool) (v : Value) (r : Result (Result (Segment Byte) End) Reason) → IfOk r (IsFound space ps Load size v)
      → Follows {S = ⊥} (found_at ps) (reached_then r (λ found. value_of_bytes size signed (take size (bytes_from (offset_of v) found)) >>= λ value. Ok (Ok value)))
      (Ok (widened_or_end size signed (number_of size (number_at ps v) (reach Load size plain_segments (number_at ps v)))))
  load-by signed v (Ok (Ok s)) found =
      subst (λ x. Follows {S = ⊥} (found_at ps) (value_of_bytes size signed (take size (bytes_from (offset_of v) s)) >>= λ value. Ok (Ok value)) (Ok (widened_or_end size signed (number_of size (number_at ps v) x)))) (sym found.same)
      (by (value_of_bytes size signed (take size (bytes_from (offset_of v) s))) (number-stands signed v s found.further.0))
    where
      by : (x : Result Value Reason) → IfOk x (λ value. widened size signed (number_in size (number_at ps v) (segment_at ps (shift_of ps v) s)) ≡ number_at ps value)
          → Follows {S = ⊥} (found_at ps) (x >>= λ value. Ok (Ok value)) (Ok (Ok (widened size signed (number_in size (number_at ps v) (segment_at ps (shift_of ps v) s)))))
      by (Ok value) h = ap (λ n. Ok (Ok n)) h
      by (Err reason) h = tt
  load-by signed v (Ok (Err end)) found = ap (λ x. Ok (widened_or_end size signed (number_of size (number_at ps v) x))) found.same
  load-by signed v (Err reason) found = tt

  pub load-follows : (signed : Bool) (v : Value) → offset_of v < 2 ^ 64
      → Follows {S = ⊥} (found_at ps) (loaded_value size signed space v) (Ok (widened_or_end size signed (loaded size plain_segments (number_at ps v))))
  unfolding loaded_value loaded
  load-follows signed v below = load-by signed v (reach_value Load size space v) (reach-stands space ps apart fits Load size is v below)

-- what is put behind segments that don't hold the address, and before such
put-behind : {B : Type 0} (at : ℕ) (more : List B) (xs ys : List (Segment B)) → holding xs at ≡ None → put_at at more (xs ++ ys) ≡ xs ++ put_at at more ys
put-behind at more [] ys none = refl
put-behind at more (s ∷ xs) ys none = by (holds at s) none (put-behind at more xs ys)
  where
    by : (b : Bool) → (if b then Some s else holding xs at) ≡ None → (holding xs at ≡ None → put_at at more (xs ++ ys) ≡ xs ++ put_at at more ys)
        → (if b then with_bytes at more s ∷ (xs ++ ys) else s ∷ put_at at more (xs ++ ys)) ≡ s ∷ (xs ++ put_at at more ys)
    by true none rest = absurd cc
    by false none rest = ap (λ zs. s ∷ zs) (rest none)

put-nowhere : {B : Type 0} (at : ℕ) (more : List B) (xs : List (Segment B)) → holding xs at ≡ None → put_at at more xs ≡ xs
put-nowhere at more [] none = refl
put-nowhere at more (s ∷ xs) none = by (holds at s) none (put-nowhere at more xs)
  where
    by : (b : Bool) → (if b then Some s else holding xs at) ≡ None → (holding xs at ≡ None → put_at at more xs ≡ xs) → (if b then with_bytes at more s ∷ xs else s ∷ put_at at more xs) ≡ s ∷ xs
    by true none rest = absurd cc
    by false none rest = ap (λ zs. s ∷ zs) (rest none)

put-before : {B : Type 0} (at : ℕ) (more : List B) (xs ys : List (Segment B)) → holding ys at ≡ None → put_at at more (xs ++ ys) ≡ put_at at more xs ++ ys
put-before at more [] ys none = put-nowhere at more ys none
put-before at more (s ∷ xs) ys none = by (holds at s) (put-before at more xs ys none)
  where
    by : (b : Bool) → put_at at more (xs ++ ys) ≡ put_at at more xs ++ ys
        → (if b then with_bytes at more s ∷ (xs ++ ys) else s ∷ put_at at more (xs ++ ys)) ≡ (if b then with_bytes at more s ∷ xs else s ∷ put_at at more xs) ++ ys
    by true rest = refl
    by false rest = ap (λ zs. s ∷ zs) rest

-- bytes put into a segment, so many bytes further on
with-bytes-at : (ps : Places) (shift o : ℕ) (more : List Byte) (s : Segment Byte) → with_bytes (shift + o) (map (byte_at ps) more) (segment_at ps shift s) ≡ segment_at ps shift (with_bytes o more s)
with-bytes-at ps shift o more s =
    let f = byte_at ps in
    let k = o - s.base in
    let place : shift + o - (shift + s.base) ≡ k = omega arith in
    let long : length (map f s.bytes) ≡ length s.bytes = length-map s.bytes f in
    let put : length (map f more) ≡ length more = length-map more f in
    let parts : map f (take k s.bytes ++ more ++ drop (k + length more) s.bytes) ≡ take k (map f s.bytes) ++ map f more ++ drop (k + length more) (map f s.bytes) =
    map-append f (take k s.bytes ++ more) (drop (k + length more) s.bytes) ∙ (λ j. (map-append f (take k s.bytes) more ∙ ap (λ xs. xs ++ map f more) (sym (take-map f k s.bytes))) j ++ sym (drop-map f (k + length more) s.bytes) j) in
    let bytes : take (length (map f s.bytes)) (take (shift + o - (shift + s.base)) (map f s.bytes) ++ map f more ++ drop (shift + o - (shift + s.base) + length (map f more)) (map f s.bytes)) ≡ map f (take (length s.bytes) (take k s.bytes ++ more ++ drop (k + length more) s.bytes)) =
    (λ j. take (long j) (take (place j) (map f s.bytes) ++ map f more ++ drop (place j + put j) (map f s.bytes))) ∙ ap (take (length s.bytes)) (sym parts) ∙ take-map f (length s.bytes) (take k s.bytes ++ more ++ drop (k + length more) s.bytes) in
    λ j. record { base = shift + s.base; bytes = bytes j; rights = s.rights; role = s.role }

-- bytes put into a part
put-at : (ps : Places) (shift o : ℕ) (more : List Byte) (part : List (Segment Byte)) → put_at (shift + o) (map (byte_at ps) more) (part_at ps shift part) ≡ part_at ps shift (put_at o more part)
put-at ps shift o more [] = refl
put-at ps shift o more (s ∷ part) =
    by (holds (shift + o) (segment_at ps shift s)) (holds o s) (let long = length-map s.bytes (byte_at ps) in grind (arith, nat_tests, long)) (put-at ps shift o more part)
  where
    by : (a b : Bool) → a ≡ b → put_at (shift + o) (map (byte_at ps) more) (part_at ps shift part) ≡ part_at ps shift (put_at o more part)
        → (if a then with_bytes (shift + o) (map (byte_at ps) more) (segment_at ps shift s) ∷ part_at ps shift part else segment_at ps shift s ∷ put_at (shift + o) (map (byte_at ps) more) (part_at ps shift part))
        ≡ part_at ps shift (if b then with_bytes o more s ∷ part else s ∷ put_at o more part)
    by true true e rest = ap (λ x. x ∷ part_at ps shift part) (with-bytes-at ps shift o more s)
    by false false e rest = ap (λ xs. segment_at ps shift s ∷ xs) rest
    by true false e rest = absurd cc
    by false true e rest = absurd cc

-- the low bytes of a value stand for those of its number
low-at : (ps : Places) (size : ℕ) (v : Value) → IsSize size → map (byte_at ps) (low_bytes size v) ≡ little_bytes size (number_at ps v)
low-at ps size (Num n) is = bytes-at ps (little_bytes size n)
low-at ps size (At p o) (inl one) = subst (λ k. map (byte_at ps) (low_bytes k (At p o)) ≡ little_bytes k (number_at ps (At p o))) (sym one) refl
low-at ps size (At p o) (inr (inl two)) = subst (λ k. map (byte_at ps) (low_bytes k (At p o)) ≡ little_bytes k (number_at ps (At p o))) (sym two) refl
low-at ps size (At p o) (inr (inr (inl four))) = subst (λ k. map (byte_at ps) (low_bytes k (At p o)) ≡ little_bytes k (number_at ps (At p o))) (sym four) refl
low-at ps size (At p o) (inr (inr (inr eight))) = subst (λ k. map (byte_at ps) (low_bytes k (At p o)) ≡ little_bytes k (number_at ps (At p o))) (sym eight) refl

module _ (space : AddressSpace) (ps : Places) (apart : IsApart space.image ps) (fits : Fits space) where
  abbrev inner : List (Segment ℕ)
  inner = fixed_segments space ps ++ movable_segments space ps

  neither : (at : ℕ) → holding (fixed_segments space ps) at ≡ None → holding (movable_segments space ps) at ≡ None → holding inner at ≡ None
  neither at a b = find-second (holds at) (fixed_segments space ps) (movable_segments space ps) a ∙ b

  -- bytes that are put at a value, in the region of its part
  put-stands : (v : Value) (more : List Byte) → number_at ps v ≡ shift_of ps v + offset_of v → IsIn (region_of space ps v) (number_at ps v)
      → put_at (number_at ps v) (map (byte_at ps) more) (segments_at ps space) ≡ segments_at ps (put_at_value v more space)
  put-stands (Num n) more further here =
      let no_stack = stack-misses space ps apart fits space.image.fixed.region n (λ e. apart.stack_fixed (sym e)) here in
      let no_movable = movable-misses space ps apart fits space.image.fixed.region n (λ e. apart.movable_fixed (sym e)) here in
      ap (put_at n (map (byte_at ps) more)) (append_assoc (stack_segments space ps) (fixed_segments space ps) (movable_segments space ps))
      ∙ put-behind n (map (byte_at ps) more) (stack_segments space ps) inner no_stack
      ∙ ap (λ xs. stack_segments space ps ++ xs) (put-before n (map (byte_at ps) more) (fixed_segments space ps) (movable_segments space ps) no_movable
      ∙ ap (λ xs. xs ++ movable_segments space ps) (ap (λ k. put_at k (map (byte_at ps) more) (fixed_segments space ps)) (sym (zero-add n)) ∙ put-at ps 0 n more space.fixed))
      ∙ sym (append_assoc (stack_segments space ps) (part_at ps 0 (put_at n more space.fixed)) (movable_segments space ps))
  put-stands (At Stack o) more further here =
      let at = number_at ps (At Stack o) in
      let no_fixed = fixed-misses space ps apart fits ps.stack.region at apart.stack_fixed here in
      let no_movable = movable-misses space ps apart fits ps.stack.region at (λ e. apart.movable_stack (sym e)) here in
      ap (put_at at (map (byte_at ps) more)) (append_assoc (stack_segments space ps) (fixed_segments space ps) (movable_segments space ps))
      ∙ put-before at (map (byte_at ps) more) (stack_segments space ps) inner (neither at no_fixed no_movable)
      ∙ ap (λ xs. xs ++ inner) (ap (λ n. put_at n (map (byte_at ps) more) (stack_segments space ps)) further ∙ put-at ps (base_of ps.stack) o more space.stack)
      ∙ sym (append_assoc (part_at ps (base_of ps.stack) (put_at o more space.stack)) (fixed_segments space ps) (movable_segments space ps))
  put-stands (At Movable o) more further here =
      let at = number_at ps (At Movable o) in
      let no_stack = stack-misses space ps apart fits ps.movable.region at apart.movable_stack here in
      let no_fixed = fixed-misses space ps apart fits ps.movable.region at apart.movable_fixed here in
      let before = find-second (holds at) (stack_segments space ps) (fixed_segments space ps) no_stack ∙ no_fixed in
      put-behind at (map (byte_at ps) more) (stack_segments space ps ++ fixed_segments space ps) (movable_segments space ps) before
      ∙ ap (λ xs. stack_segments space ps ++ fixed_segments space ps ++ xs) (ap (λ n. put_at n (map (byte_at ps) more) (movable_segments space ps)) further ∙ put-at ps (base_of ps.movable) o more space.movable)

  module _ (size : ℕ) (is : IsSize size) (value : Value) where
    -- what a store comes to, once it is known what is reached
    store-by : (v : Value) (r : Result (Result (Segment Byte) End) Reason) → IfOk r (IsFound space ps Store size v)
        → Follows {S = ⊥} (left_at ps) (reached_then r (λ found. Ok (Ok (put_at_value v (low_bytes size value) space))))
        (Ok (put_by size (number_at ps value) (segments_at ps space) (number_at ps v) (reach Store size (segments_at ps space) (number_at ps v))))
    store-by v (Ok (Ok s)) found =
        ap (λ x. Ok (put_by size (number_at ps value) (segments_at ps space) (number_at ps v) x)) found.same
        ∙ ap (λ more. Ok (Ok (put_at (number_at ps v) more (segments_at ps space)))) (sym (low-at ps size value is))
        ∙ ap (λ segments. Ok (Ok segments)) (put-stands v (low_bytes size value) found.further.0 found.further.1)
    store-by v (Ok (Err end)) found = ap (λ x. Ok (put_by size (number_at ps value) (segments_at ps space) (number_at ps v) x)) found.same
    store-by v (Err reason) found = tt

    pub store-follows : (v : Value) → offset_of v < 2 ^ 64
        → Follows {S = ⊥} (left_at ps) (stored_value size value space v) (Ok (stored size (number_at ps value) (segments_at ps space) (number_at ps v)))
    unfolding stored_value stored
    store-follows v below = store-by v (reach_value Store size space v) (reach-stands space ps apart fits Store size is v below)

    -- and the segments lie as before
    fits-put : (v : Value) (more : List Byte) → Fits (put_at_value v more space)
    fits-put (Num n) more = record { movable = fits.movable; stack = fits.stack; fixed = extents-put_at n more space.fixed ∙ fits.fixed }
    fits-put (At Stack o) more = record { movable = fits.movable; stack = extents-put_at o more space.stack ∙ fits.stack; fixed = fits.fixed }
    fits-put (At Movable o) more = record { movable = extents-put_at o more space.movable ∙ fits.movable; stack = fits.stack; fixed = fits.fixed }

    image-put : (v : Value) (more : List Byte) → (put_at_value v more space).image ≡ space.image
    image-put (Num n) more = refl
    image-put (At Stack o) more = refl
    image-put (At Movable o) more = refl

    pub store-fits : (v : Value) (left : AddressSpace) → stored_value size value space v ≡ Ok (Ok left) → Fits left × (left.image ≡ space.image)
    unfolding stored_value
    store-fits v left e = by (reach_value Store size space v) e
      where
        by : (r : Result (Result (Segment Byte) End) Reason) → reached_then r (λ found. Ok (Ok (put_at_value v (low_bytes size value) space))) ≡ Ok (Ok left) → Fits left × (left.image ≡ space.image)
        by (Ok (Ok s)) e = let same : put_at_value v (low_bytes size value) space ≡ left = cc in subst (λ x. Fits x × (x.image ≡ space.image)) same (fits-put v (low_bytes size value), image-put v (low_bytes size value))
        by (Ok (Err end)) e = absurd cc
        by (Err reason) e = absurd cc

-- where it is clear what is loaded or left, the plain machine's is what it stands for
pub load-stands : (space : AddressSpace) (ps : Places) → IsApart space.image ps → Fits space → (size : ℕ) (signed : Bool) (v : Value) (found : Result Value End) → IsSize size → offset_of v < 2 ^ 64
    → loaded_value size signed space v ≡ Ok found → widened_or_end size signed (loaded size (segments_at ps space) (number_at ps v)) ≡ found_at ps found
load-stands space ps apart fits size signed v found is below e =
    let same = followed (found_at ps) (loaded_value size signed space v) found (load-follows space ps apart fits size is signed v below) e in
    cc same

pub store-stands : (space : AddressSpace) (ps : Places) → IsApart space.image ps → Fits space → (size : ℕ) (value v : Value) (left : Result AddressSpace End) → IsSize size → offset_of v < 2 ^ 64
    → stored_value size value space v ≡ Ok left → stored size (number_at ps value) (segments_at ps space) (number_at ps v) ≡ left_at ps left
store-stands space ps apart fits size value v left is below e =
    let same = followed (left_at ps) (stored_value size value space v) left (store-follows space ps apart fits size is value v below) e in
    cc same
