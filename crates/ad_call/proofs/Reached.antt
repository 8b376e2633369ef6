-- What an access reaches where it is known which piece holds its address.
use Rattle.std.proofs.Common.{◌≡◌, if◌then◌else◌, ℕ, ◌+◌, ◌-◌, ◌/◌, ◌%◌, ◌≤◌, List, Bool, true, false, length, take, drop, Option, None, Some, Ok, Err, refl, sym, ap, subst, ◌∙◌, inl, inr, arith}
use Rattle.std.proofs.lemmas.Bool.Decides.{nat_tests}
use Rattle.std.proofs.lemmas.List.{drop-take}
use Rattle.byteorder.specs.Endian.{little_bytes, little_number}
use Rattle.byteorder.specs.Numbers.{little_from-take}
use Rattle.ad_base.specs.declared.end.End.TheVariants as ends
use Rattle.ad_base.specs.declared.image.Image.{Image}
use Rattle.ad_base.specs.declared.layout.TheConstants.{FETCH_BYTES, GATE, REGION_BYTES}
use Rattle.ad_base.specs.declared.place.Place.{Place}
use Rattle.ad_base.specs.declared.role.Role.{Role}
use Rattle.ad_base.specs.declared.role.Role.TheVariants.{Cells, Code, Constants, Data, FixedCode, FixedConstants, FixedData, FixedTable, Stack, Table}
use Rattle.ad_base.specs.Layout.{rights_of, size_of, text_bytes}
use Rattle.ad_base.specs.Segments.{Fetch, Load, Segment, Store, Use, allows, holding, put_at, reach, service_number, with_right}
use Rattle.ad_isa.specs.Words.{IsSize}
use Rattle.ad_core.specs.declared.bus.Fetched.TheVariants as fetch
use Rattle.ad_core.specs.Image.{bytes_under}
use Rattle.ad_core.specs.Memory.{fetched, loaded, number_in, number_of, put_by, service_or, stored, word_of}
use Rattle.ad_call.specs.declared.spot.Spot.{Spot}
use Rattle.ad_call.specs.Private.Spots.{IsHeld}
use Rattle.ad_call.specs.Private.Stored.{word_in, word_of_role}

-- the piece of a role whose byte at an offset is at an address
abbrev pub piece : (Role → List ℕ) → ℕ → Role → ℕ → Segment ℕ
piece bytes at r o = record { base = at - o; bytes = bytes r; rights = rights_of r; role = r }

-- region 1 holds no byte
reach-region : (wanted : Use) (size : ℕ) (segments : List (Segment ℕ)) (at : ℕ) → at % size ≡ 0 → at / REGION_BYTES ≡ 1 → reach wanted size segments at ≡ Err ends.Fault
reach-region wanted size segments at aligned region = grind (arith, nat_tests)

reach-outside : (wanted : Use) (size : ℕ) (segments : List (Segment ℕ)) (at : ℕ) → at % size ≡ 0 → ¬ (at / REGION_BYTES ≡ 1) → reach wanted size segments at ≡ with_right wanted (holding segments at)
reach-outside wanted size segments at aligned outside = grind (arith, nat_tests)

-- what holds of each size
by-size : (P : ℕ → Type 0) → P 1 → P 2 → P 4 → P 8 → (size : ℕ) → IsSize size → P size
by-size P one two four eight size is = elim is [
  | inl e ↦ subst P (sym e) one
  | inr more ↦ elim more [
    | inl e ↦ subst P (sym e) two
    | inr most ↦ elim most [
      | inl e ↦ subst P (sym e) four
      | inr e ↦ subst P (sym e) eight
    ]
  ]
]

module _ (size at : ℕ) (is_size : IsSize size) (aligned : at % size ≡ 0) (bytes : Role → List ℕ) (segments : List (Segment ℕ)) (spot : Spot) (held : IsHeld segments bytes at (Some spot)) where
  -- an aligned access ends in the piece where it begins
  pub fits : spot.offset + size ≤ length (bytes spot.role)
  fits = by-size (λ n. at % n ≡ 0 → spot.offset + n ≤ length (bytes spot.role)) (λ a. omega arith) (λ a. omega arith) (λ a. omega arith) (λ a. omega arith) size is_size aligned

  -- and is aligned in it
  pub offset-aligned : spot.offset % size ≡ 0
  offset-aligned = by-size (λ n. at % n ≡ 0 → spot.offset % n ≡ 0) (λ a. omega arith) (λ a. omega arith) (λ a. omega arith) (λ a. omega arith) size is_size aligned

-- each piece may be loaded
may-load : (r : Role) → (rights_of r).load ≡ true
may-load Stack = refl
may-load FixedCode = refl
may-load FixedConstants = refl
may-load FixedTable = refl
may-load FixedData = refl
may-load Code = refl
may-load Constants = refl
may-load Table = refl
may-load Cells = refl
may-load Data = refl

-- the piece, if its role has the right
reach-piece : (wanted : Use) (size : ℕ) (segments : List (Segment ℕ)) (at : ℕ) (bytes : Role → List ℕ) (spot : Spot) → at % size ≡ 0 → ¬ (at / REGION_BYTES ≡ 1) → IsHeld segments bytes at (Some spot)
    → (b : Bool) → allows wanted (rights_of spot.role) ≡ b → reach wanted size segments at ≡ (if b then Ok (piece bytes at spot.role spot.offset) else Err ends.Denied)
reach-piece wanted size segments at bytes spot aligned outside held b is =
    let s = piece bytes at spot.role spot.offset in
    reach-outside wanted size segments at aligned outside ∙ ap (with_right wanted) held.0 ∙ ap (λ x. if x then Ok s else Err ends.Denied) is

-- the number that is read at an address of a piece is the one at its offset
number-in : (size at : ℕ) (bytes : Role → List ℕ) (r : Role) (o : ℕ) → o ≤ at → number_in size at (piece bytes at r o) ≡ little_number size (drop o (bytes r))
number-in size at bytes r o from = ap (λ n. little_number size (drop n (bytes r))) (omega arith)

module _ (size : ℕ) (segments : List (Segment ℕ)) (at : ℕ) (aligned : at % size ≡ 0) where
  pub loaded-region : at / REGION_BYTES ≡ 1 → loaded size segments at ≡ Err ends.Fault
  unfolding loaded
  loaded-region region = ap (number_of size at) (reach-region Load size segments at aligned region)

  pub loaded-none : ¬ (at / REGION_BYTES ≡ 1) → holding segments at ≡ None → loaded size segments at ≡ Err ends.Fault
  unfolding loaded
  loaded-none outside none = ap (number_of size at) (reach-outside Load size segments at aligned outside ∙ ap (with_right Load) none)

  pub loaded-some : (bytes : Role → List ℕ) (spot : Spot) → ¬ (at / REGION_BYTES ≡ 1) → IsHeld segments bytes at (Some spot) → loaded size segments at ≡ Ok (little_number size (drop spot.offset (bytes spot.role)))
  unfolding loaded
  loaded-some bytes spot outside held =
      ap (number_of size at) (reach-piece Load size segments at bytes spot aligned outside held true (may-load spot.role)) ∙ ap Ok (number-in size at bytes spot.role spot.offset held.1)

  module _ (value : ℕ) where
    pub stored-region : at / REGION_BYTES ≡ 1 → stored size value segments at ≡ Err ends.Fault
    unfolding stored
    stored-region region = ap (put_by size value segments at) (reach-region Store size segments at aligned region)

    pub stored-none : ¬ (at / REGION_BYTES ≡ 1) → holding segments at ≡ None → stored size value segments at ≡ Err ends.Fault
    unfolding stored
    stored-none outside none = ap (put_by size value segments at) (reach-outside Store size segments at aligned outside ∙ ap (with_right Store) none)

    module _ (bytes : Role → List ℕ) (spot : Spot) (outside : ¬ (at / REGION_BYTES ≡ 1)) (held : IsHeld segments bytes at (Some spot)) where
      pub stored-some : (rights_of spot.role).store ≡ true → stored size value segments at ≡ Ok (put_at at (little_bytes size value) segments)
      unfolding stored
      stored-some may = ap (put_by size value segments at) (reach-piece Store size segments at bytes spot aligned outside held true may)

      pub stored-denied : (rights_of spot.role).store ≡ false → stored size value segments at ≡ Err ends.Denied
      unfolding stored
      stored-denied may = ap (put_by size value segments at) (reach-piece Store size segments at bytes spot aligned outside held false may)

-- no address outside region 1 is a service's
no-service : (at : ℕ) → ¬ (at / REGION_BYTES ≡ 1) → service_number at ≡ None
no-service at outside = grind (arith, nat_tests)

-- a word that lies in the front of a list is the same word of the list
word_in_front : (xs : List ℕ) (t o : ℕ) → o + FETCH_BYTES ≤ t → little_number FETCH_BYTES (drop o (take t xs)) ≡ little_number FETCH_BYTES (drop o xs)
word_in_front xs t o fits =
    let split : t ≡ o + (t - o) = omega arith in
    ap (λ n. little_number FETCH_BYTES (drop o (take n xs))) split ∙ ap (little_number FETCH_BYTES) (drop-take o (t - o) xs) ∙ little_from-take 0 FETCH_BYTES (t - o) (drop o xs) (omega arith)

module _ (segments : List (Segment ℕ)) (at : ℕ) where
  pub fetched-gate : at ≡ GATE → fetched segments at ≡ fetch.Gate
  unfolding fetched
  fetched-gate gate = grind (arith, nat_tests)

  module _ (aligned : at % FETCH_BYTES ≡ 0) (elsewhere : ¬ (at ≡ GATE)) where
    -- what is found elsewhere than at the gate
    fetched-elsewhere : fetched segments at ≡ service_or (service_number at) (word_of at (reach Fetch FETCH_BYTES segments at))
    unfolding fetched
    fetched-elsewhere = grind (arith, nat_tests)

    pub fetched-region : at / REGION_BYTES ≡ 1 → fetched segments at ≡ service_or (service_number at) fetch.Fault
    fetched-region region = fetched-elsewhere ∙ ap (λ found. service_or (service_number at) (word_of at found)) (reach-region Fetch FETCH_BYTES segments at aligned region)

    fetched-outside : ¬ (at / REGION_BYTES ≡ 1) → (o : Option (Segment ℕ)) → holding segments at ≡ o → fetched segments at ≡ word_of at (with_right Fetch o)
    fetched-outside outside o is =
        fetched-elsewhere
        ∙ ap (λ number. service_or number (word_of at (reach Fetch FETCH_BYTES segments at))) (no-service at outside)
        ∙ ap (word_of at) (reach-outside Fetch FETCH_BYTES segments at aligned outside ∙ ap (with_right Fetch) is)

    pub fetched-none : ¬ (at / REGION_BYTES ≡ 1) → holding segments at ≡ None → fetched segments at ≡ fetch.Fault
    fetched-none outside none = fetched-outside outside None none

    module _ (i : Image) (under : Place) (stack_bytes fixed writable : List ℕ) where
      word-of-piece : (r : Role) (o : ℕ) → o ≤ at → o + FETCH_BYTES ≤ size_of i r → word_of at (with_right Fetch (Some (piece (bytes_under i under stack_bytes fixed writable) at r o))) ≡ word_of_role i r o
      word-of-piece Stack o from inside = refl
      word-of-piece FixedCode o from inside = ap fetch.Word (number-in FETCH_BYTES at (bytes_under i under stack_bytes fixed writable) FixedCode o from ∙ word_in_front i.fixed_code (text_bytes i.fixed_text_pages) o inside)
      word-of-piece FixedConstants o from inside = refl
      word-of-piece FixedTable o from inside = refl
      word-of-piece FixedData o from inside = refl
      word-of-piece Code o from inside = ap fetch.Word (number-in FETCH_BYTES at (bytes_under i under stack_bytes fixed writable) Code o from ∙ word_in_front i.code (text_bytes i.text_pages) o inside)
      word-of-piece Constants o from inside = refl
      word-of-piece Table o from inside = refl
      word-of-piece Cells o from inside = refl
      word-of-piece Data o from inside = refl

      pub fetched-some : (spot : Spot) → ¬ (at / REGION_BYTES ≡ 1) → spot.offset + FETCH_BYTES ≤ size_of i spot.role → IsHeld segments (bytes_under i under stack_bytes fixed writable) at (Some spot) → fetched segments at ≡ word_in i spot
      fetched-some spot outside inside held =
          fetched-outside outside (Some (piece (bytes_under i under stack_bytes fixed writable) at spot.role spot.offset)) held.0 ∙ word-of-piece spot.role spot.offset held.1 inside
