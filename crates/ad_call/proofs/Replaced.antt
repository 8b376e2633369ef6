-- The segments of a module and a stack once a number was stored.
use Rattle.std.proofs.Common.{◌≡◌, ◌⊎◌, inl, inr, ℕ, ◌+◌, ◌-◌, ◌/◌, ◌%◌, ◌≤◌, Bool, true, false, if◌then◌else◌, List, [], ◌∷◌, ◌++◌, length, take, drop, Option, None, Some, Result, Ok, Err, refl, sym, ap, subst, ◌∙◌, arith}
use Rattle.std.specs.Prelude.{find}
use Rattle.std.proofs.lemmas.List.{take_all}
use Rattle.byteorder.specs.Endian.{little_bytes}
use Rattle.byteorder.specs.Numbers.{length-bytes_low_first}
use Rattle.ad_base.specs.declared.image.Image.{Image}
use Rattle.ad_base.specs.declared.layout.TheConstants.{REGION_BYTES}
use Rattle.ad_base.specs.declared.place.Place.{Place}
use Rattle.ad_base.specs.declared.role.Role.{Role}
use Rattle.ad_base.specs.declared.role.Role.TheVariants.{Cells, Code, Constants, Data, FixedCode, FixedConstants, FixedData, FixedTable, Stack, Table}
use Rattle.ad_base.specs.Layout.{fixed_roles, laid_out, movable_roles, rights_of, stack_roles}
use Rattle.ad_base.specs.Place.{base_of}
use Rattle.ad_base.specs.Segments.{Segment, holding, holds, is_data, is_fixed_data, put_at, with_bytes}
use Rattle.ad_core.specs.declared.bus.Refusal.{Refusal}
use Rattle.ad_core.specs.Bus.{IsStored, end_of_refusal}
use Rattle.ad_core.specs.Image.{bytes_under, segments_of}
use Rattle.ad_core.specs.Memory.{stored}
use Rattle.ad_call.specs.declared.spot.Spot.{Spot}
use Rattle.ad_call.specs.Private.Held.{Held, with_put, with_stored}
use Rattle.ad_call.specs.Private.Spots.{IsHeld}
use Rattle.ad_call.specs.Private.Stored.{IsPut}
use Rattle.ad_call.proofs.Puts.{length-with_stored}
use Rattle.ad_call.proofs.Reached.{piece, stored-denied, stored-some}

-- where the first that passes a test is none, or some
first-none : {A : Type 0} (b : Bool) (x : A) (rest : Option A) → (if b then Some x else rest) ≡ None → (b ≡ false) × (rest ≡ None)
first-none true x rest e = absurd cc
first-none false x rest e = (refl, e)

first-some : {A : Type 0} (b : Bool) (x t : A) (rest : Option A) → (if b then Some x else rest) ≡ Some t → ((b ≡ true) × (x ≡ t)) ⊎ ((b ≡ false) × (rest ≡ Some t))
first-some true x t rest e = inl (refl, cc)
first-some false x t rest e = inr (refl, e)

module _ (test : Role → Bool) (at : ℕ) (t : Segment ℕ) (is_one : test t.role ≡ true) where
  -- a segment of a role is not among those of other roles
  not-among : (xs : List (Segment ℕ)) → find (λ x. test x.role) xs ≡ None → holding xs at ≡ Some t → ⊥
  not-among [] none found = absurd cc
  not-among (x ∷ xs) none found =
      let others = first-none (test x.role) x (find (λ x. test x.role) xs) none in
      elim (first-some (holds at x) x t (holding xs at) found) [
        | inl here ↦ let same : test x.role ≡ test t.role = ap (λ (s : Segment ℕ). test s.role) here.1 in absurd (cc (same, is_one, others.0))
        | inr there ↦ not-among xs others.1 there.1
      ]

  -- where one segment alone is of the role, bytes that are put at its addresses go there
  put-alone : (more : List ℕ) (front back : List (Segment ℕ)) (s : Segment ℕ) → find (λ x. test x.role) front ≡ None → find (λ x. test x.role) back ≡ None
      → holding (front ++ s ∷ back) at ≡ Some t → (s ≡ t) × (put_at at more (front ++ s ∷ back) ≡ front ++ with_bytes at more s ∷ back)
  put-alone more [] back s before behind found = elim (first-some (holds at s) s t (holding back at) found) [
    | inl here ↦ (here.1, ap (λ b. if b then with_bytes at more s ∷ back else s ∷ put_at at more back) here.0)
    | inr there ↦ absurd (not-among back behind there.1)
  ]
  put-alone more (x ∷ front) back s before behind found =
      let others = first-none (test x.role) x (find (λ x. test x.role) front) before in
      let segments = front ++ s ∷ back in
      elim (first-some (holds at x) x t (holding segments at) found) [
        | inl here ↦ let same : test x.role ≡ test t.role = ap (λ (s : Segment ℕ). test s.role) here.1 in absurd (cc (same, is_one, others.0))
        | inr there ↦
            let rest = put-alone more front back s others.1 behind there.1 in
            (rest.0, ap (λ b. if b then with_bytes at more x ∷ segments else x ∷ put_at at more segments) there.0 ∙ ap (λ xs. x ∷ xs) rest.1)
      ]

-- bytes that are put inside a piece leave it as long as it was
stored-bytes : (at base o size value : ℕ) (bytes : List ℕ) → base ≡ at - o → o ≤ at → o + size ≤ length bytes
    → take (length bytes) (take (at - base) bytes ++ little_bytes size value ++ drop (at - base + length (little_bytes size value)) bytes) ≡ with_stored o size value bytes
stored-bytes at base o size value bytes from low fits =
    let back : at - base ≡ o = omega arith in
    let long : length (little_bytes size value) ≡ size = length-bytes_low_first 0 size value in
    (λ j. take (length bytes) (take (back j) bytes ++ little_bytes size value ++ drop (back j + long j) bytes))
    ∙ take_all (length bytes) (with_stored o size value bytes) (omega (arith, length-with_stored o size value bytes fits))

abbrev is_stack : Role → Bool
is_stack Stack = true
is_stack role = false

module _ (at o size value : ℕ) (low : o ≤ at) where
  -- the piece of a role once a number was stored in it
  put-piece : (test : Role → Bool) (front back : List (Segment ℕ)) (base : ℕ) (bytes : Role → List ℕ) (r : Role) → test r ≡ true → find (λ x. test x.role) front ≡ None → find (λ x. test x.role) back ≡ None
      → o + size ≤ length (bytes r) → holding (front ++ record { base = base; bytes = bytes r; rights = rights_of r; role = r } ∷ back) at ≡ Some (piece bytes at r o)
      → put_at at (little_bytes size value) (front ++ record { base = base; bytes = bytes r; rights = rights_of r; role = r } ∷ back) ≡ front ++ record { base = base; bytes = with_stored o size value (bytes r); rights = rights_of r; role = r } ∷ back
  put-piece test front back base bytes r is_one before behind fits found =
      let s : Segment ℕ = record { base = base; bytes = bytes r; rights = rights_of r; role = r } in
      let put = put-alone test at (piece bytes at r o) is_one (little_bytes size value) front back s before behind found in
      let from : base ≡ at - o = ap (λ (x : Segment ℕ). x.base) put.0 in
      put.1 ∙ ap (λ xs. front ++ record { base = base; bytes = xs; rights = rights_of r; role = r } ∷ back) (stored-bytes at base o size value (bytes r) from low fits)

  module _ (i : Image) (under stack : Place) where
    abbrev segments : Held → List (Segment ℕ)
    segments h = segments_of i under stack h.stack h.fixed h.writable

    abbrev bytes_in : Held → Role → List ℕ
    bytes_in h = bytes_under i under h.stack h.fixed h.writable

    -- a store to a piece leaves the segments of the bytes that it leaves
    put-held : (h : Held) (r : Role) → (rights_of r).store ≡ true → o + size ≤ length (bytes_in h r) → holding (segments h) at ≡ Some (piece (bytes_in h) at r o)
        → put_at at (little_bytes size value) (segments h) ≡ segments (with_put r o size value h)
    put-held h Stack may fits found = put-piece is_stack [] (laid_out (base_of i.fixed) (bytes_in h) fixed_roles ++ laid_out (base_of under) (bytes_in h) movable_roles) (base_of stack) (bytes_in h) Stack refl refl refl fits found
    put-held h FixedData may fits found =
        let front = laid_out (base_of stack) (bytes_in h) stack_roles ++ laid_out (base_of i.fixed) (bytes_in h) (FixedCode ∷ FixedConstants ∷ FixedTable ∷ []) in
        let base = base_of i.fixed + length (bytes_in h FixedCode) + length (bytes_in h FixedConstants) + length (bytes_in h FixedTable) in
        put-piece is_fixed_data front (laid_out (base_of under) (bytes_in h) movable_roles) base (bytes_in h) FixedData refl refl refl fits found
    put-held h Data may fits found =
        let front = laid_out (base_of stack) (bytes_in h) stack_roles ++ laid_out (base_of i.fixed) (bytes_in h) fixed_roles ++ laid_out (base_of under) (bytes_in h) (Code ∷ Constants ∷ Table ∷ Cells ∷ []) in
        let base = base_of under + length (bytes_in h Code) + length (bytes_in h Constants) + length (bytes_in h Table) + length (bytes_in h Cells) in
        put-piece is_data front [] base (bytes_in h) Data refl refl refl fits found
    put-held h FixedCode may fits found = absurd cc
    put-held h FixedConstants may fits found = absurd cc
    put-held h FixedTable may fits found = absurd cc
    put-held h Code may fits found = absurd cc
    put-held h Constants may fits found = absurd cc
    put-held h Table may fits found = absurd cc
    put-held h Cells may fits found = absurd cc

-- the same bytes, or as many of them
pub record IsAsLong (before after : Held) : Type 0 where
  pub stack : length after.stack ≡ length before.stack
  pub fixed : length after.fixed ≡ length before.fixed
  pub writable : length after.writable ≡ length before.writable

module _ (i : Image) (under stack : Place) (at size value : ℕ) (spot : Spot) (h : Held) (fits : spot.offset + size ≤ length (bytes_under i under h.stack h.fixed h.writable spot.role)) where
  -- a store leaves each list as long as it was
  as-long-put : (r : Role) → spot.offset + size ≤ length (bytes_under i under h.stack h.fixed h.writable r) → IsAsLong h (with_put r spot.offset size value h)
  as-long-put Stack inside = record { stack = length-with_stored spot.offset size value h.stack inside; fixed = refl; writable = refl }
  as-long-put FixedData inside = record { stack = refl; fixed = length-with_stored spot.offset size value h.fixed inside; writable = refl }
  as-long-put Data inside = record { stack = refl; fixed = refl; writable = length-with_stored spot.offset size value h.writable inside }
  as-long-put FixedCode inside = record { stack = refl; fixed = refl; writable = refl }
  as-long-put FixedConstants inside = record { stack = refl; fixed = refl; writable = refl }
  as-long-put FixedTable inside = record { stack = refl; fixed = refl; writable = refl }
  as-long-put Code inside = record { stack = refl; fixed = refl; writable = refl }
  as-long-put Constants inside = record { stack = refl; fixed = refl; writable = refl }
  as-long-put Table inside = record { stack = refl; fixed = refl; writable = refl }
  as-long-put Cells inside = record { stack = refl; fixed = refl; writable = refl }

  pub as-long : {U : Type 0} (result : Result U Refusal) (after : Held) → IsPut spot size value result h after → IsAsLong h after
  as-long (Ok u) after put = subst (IsAsLong h) (sym put.1) (as-long-put spot.role fits)
  as-long (Err r) after put = subst (IsAsLong h) (sym put.2) (record { stack = refl; fixed = refl; writable = refl })

  -- a store that answers so is that of the segments
  pub put-stored : {U : Type 0} (result : Result U Refusal) (after : Held) → at % size ≡ 0 → ¬ (at / REGION_BYTES ≡ 1)
      → IsHeld (segments_of i under stack h.stack h.fixed h.writable) (bytes_under i under h.stack h.fixed h.writable) at (Some spot) → IsPut spot size value result h after
      → IsStored result (segments_of i under stack h.stack h.fixed h.writable) (segments_of i under stack after.stack after.fixed after.writable) (stored size value (segments_of i under stack h.stack h.fixed h.writable) at)
  put-stored (Ok u) after aligned outside held put =
      let bytes = bytes_under i under h.stack h.fixed h.writable in
      stored-some size (segments_of i under stack h.stack h.fixed h.writable) at aligned value bytes spot outside held put.0
      ∙ ap Ok (put-held at spot.offset size value held.1 i under stack h spot.role put.0 fits held.0 ∙ ap (λ (x : Held). segments_of i under stack x.stack x.fixed x.writable) (sym put.1))
  put-stored (Err r) after aligned outside held put =
      let bytes = bytes_under i under h.stack h.fixed h.writable in (
        stored-denied size (segments_of i under stack h.stack h.fixed h.writable) at aligned value bytes spot outside held put.0 ∙ ap (λ x. Err (end_of_refusal x)) (sym put.1),
        ap (λ (x : Held). segments_of i under stack x.stack x.fixed x.writable) put.2,
      )
