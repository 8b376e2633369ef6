-- What accesses ask has each page and each local word that they touch.
use Rattle.std.proofs.Common.{◌≡◌, ℕ, zero, suc, ◌+◌, ◌-◌, ◌*◌, ◌/◌, ◌<◌, ◌≤◌, true, if◌then◌else◌, List, [], ◌∷◌, ◌++◌, length, get_or, Option, None, Some, refl, sym, ap, subst, ◌∙◌, arith, length-append}
use Rattle.std.specs.Prelude.{nat_lt, All, Any}
use Rattle.std.specs.List.{flat_map}
use Rattle.std.proofs.lemmas.Bool.Decides.{nat_tests}
use Rattle.std.proofs.lemmas.List.{get_or_append_left, get_or-append-add}
use Rattle.std.proofs.lemmas.List.Elements.{All-cons, All-contains, All-nil}
use Rattle.ad_base.specs.declared.image.Image.{Image}
use Rattle.ad_base.specs.declared.layout.TheConstants.{PAGE_BYTES, REGION_BYTES, REGIONS, STACK_PAGES, WORD_BYTES}
use Rattle.ad_base.specs.declared.place.Place.{Place}
use Rattle.ad_base.specs.declared.role.Role.{Role}
use Rattle.ad_base.specs.declared.role.Role.TheVariants.{Cells, Code, Constants, Data, Table}
use Rattle.ad_base.specs.Image.{IsWhole, movable_pages}
use Rattle.ad_base.specs.Layout.{movable_roles, rights_of}
use Rattle.ad_base.specs.Place.{IsInside, IsPlace}
use Rattle.ad_base.specs.Segments.{Access, Segment, Use, holding}
use Rattle.ad_core.specs.Image.{bytes_under, segments_of}
use Rattle.ad_call.specs.declared.asked.Asked.{Asked}
use Rattle.ad_call.specs.declared.asked.Asked.TheVariants as asked
use Rattle.ad_call.specs.declared.spot.Spot.{Spot}
use Rattle.ad_call.specs.Asked.{HoldsTouched, IsForPage, TouchesPage, TouchesWord, asked_by, asked_by_all, page_asked, word_asked}
use Rattle.ad_call.specs.Call.{HasData}
use Rattle.ad_call.specs.Private.Asks.{is_cells, place_asked}
use Rattle.ad_call.specs.Private.Spots.{IsHeld, spot_at}
use Rattle.ad_call.proofs.Asks.{load-asks}
use Rattle.ad_call.proofs.Spotted.{is_movable, movable-at, spotted}

module _ {Y : Type 0} (Q : Y → Type 0) where
  -- some item of a list is one of a longer list
  any-left : (xs ys : List Y) → Any Q xs → Any Q (xs ++ ys)
  any-left xs ys a = (a.0, a.1, omega (arith, a.2, length-append xs ys), get_or_append_left xs ys a.1 a.0 a.2 ∙ a.3, a.4)

  any-right : (xs ys : List Y) → Any Q ys → Any Q (xs ++ ys)
  any-right xs ys a = (length xs + a.0, a.1, omega (arith, a.2, length-append xs ys), get_or-append-add xs ys a.0 a.1 ∙ a.3, a.4)

  -- an item alone
  any-alone : (y : Y) → Q y → Any Q (y ∷ [])
  any-alone y q = (0, y, omega arith, refl, q)

  module _ {X : Type 0} (P : X → Type 0) (f : X → List Y) (step : (x : X) → P x → Any Q (f x)) where
    any-at : (xs : List X) (k : ℕ) (x : X) → k < length xs → get_or xs k x ≡ x → P x → Any Q (flat_map f xs)
    any-at [] k x below is p = absurd (omega (arith, below))
    any-at (y ∷ xs) zero x below is p = any-left (f y) (flat_map f xs) (step y (subst P (sym is) p))
    any-at (y ∷ xs) (suc k) x below is p = any-right (f y) (flat_map f xs) (any-at xs k x (omega (arith, below)) is p)

    -- some item of a list of lists, where each list of an item that passes has one
    any-flat_map : (xs : List X) → Any P xs → Any Q (flat_map f xs)
    any-flat_map xs a = any-at xs a.0 a.1 a.2 a.3 a.4

-- an address of a place lies below the last region's end
inside-regions : (p : Place) (at : ℕ) → IsPlace p → IsInside p at → at / REGION_BYTES < REGIONS
inside-regions p at is inside = omega (arith, is.region_to, is.page_behind, inside.from, inside.to)

all-movable : All (λ r. is_movable r ≡ true) movable_roles
all-movable =
    let P : Role → Type 0 = λ r. is_movable r ≡ true in
    All-cons P Code (Constants ∷ Table ∷ Cells ∷ Data ∷ []) refl
    (All-cons P Constants (Table ∷ Cells ∷ Data ∷ []) refl (All-cons P Table (Cells ∷ Data ∷ []) refl (All-cons P Cells (Data ∷ []) refl (All-cons P Data [] refl (All-nil P)))))

-- the byte at an address of a segment
record IsFoundAt (i : Image) (under stack : Place) (at : ℕ) (s : Segment ℕ) : Type 0 where
  pub spot : Spot
  pub is : spot_at i under stack at ≡ Some spot
  pub role : spot.role ≡ s.role
  pub base : s.base ≡ at - spot.offset
  pub from : spot.offset ≤ at

module _ (i : Image) (under stack : Place) (stack_bytes fixed writable : List ℕ) (whole : IsWhole i) (reaches : HasData i writable fixed) (long : length stack_bytes ≡ STACK_PAGES * PAGE_BYTES) where
  abbrev segments : List (Segment ℕ)
  segments = segments_of i under stack stack_bytes fixed writable

  found-at : (at : ℕ) (s : Segment ℕ) → holding segments at ≡ Some s → IsFoundAt i under stack at s
  found-at at s held = each (spot_at i under stack at) refl (spotted i under stack at stack_bytes fixed writable whole long reaches)
    where
      each : (o : Option Spot) → spot_at i under stack at ≡ o → IsHeld segments (bytes_under i under stack_bytes fixed writable) at o → IsFoundAt i under stack at s
      each None e none = absurd cc
      each (Some spot) e h =
          let piece : Segment ℕ = record { base = at - spot.offset; bytes = bytes_under i under stack_bytes fixed writable spot.role; rights = rights_of spot.role; role = spot.role } in
          let both : Some piece ≡ Some s = sym h.0 ∙ held in
          let same : piece ≡ s = cc in
          record { spot = spot; is = e; role = ap (λ (x : Segment ℕ). x.role) same; base = ap (λ (x : Segment ℕ). x.base) (sym same); from = h.1 }

  asked-page : IsPlace under → under.pages ≡ movable_pages i → (page : ℕ) (a : Access) → TouchesPage segments under page a → Any (IsForPage under page) (asked_by i under stack a)
  asked-page is pages page a t =
      let found = found-at a.at t.segment t.held in
      let may : is_movable found.spot.role ≡ true = ap is_movable found.role ∙ All-contains (λ r. is_movable r ≡ true) movable_roles t.segment.role all-movable t.movable in
      let there = movable-at i under stack a.at found.spot found.is may in
      let inside : IsInside under a.at = record { from = there.from; to = omega (arith, there.to, pages) } in
      let low : nat_lt (a.at / REGION_BYTES) REGIONS ≡ true = (let below = inside-regions under a.at is inside in grind (arith, nat_tests)) in
      let asks : asked_by i under stack a ≡ asked.Page a.at ∷ [] ++ word_asked i under a =
      ap (λ b. if b then [] else page_asked a.at ++ word_asked i under a) there.apart
      ∙ ap (λ b. (if b then asked.Page a.at ∷ [] else []) ++ word_asked i under a) low in
      subst (Any (IsForPage under page)) (sym asks)
      (any-left (IsForPage under page) (asked.Page a.at ∷ []) (word_asked i under a) (any-alone (IsForPage under page) (asked.Page a.at) (inside, t.in_page)))

  asked-word : (word : ℕ) (a : Access) → TouchesWord segments word a → Any (λ (x : Asked). x ≡ asked.Cell word) (asked_by i under stack a)
  asked-word word a t =
      let found = found-at a.at t.segment t.held in
      let P : Asked → Type 0 = λ x. x ≡ asked.Cell word in
      let one = asked.Cell (found.spot.offset / WORD_BYTES) in
      let number : found.spot.offset / WORD_BYTES ≡ word = ap (λ n. n / WORD_BYTES) (omega (arith, found.base, found.from)) ∙ t.in_word in
      let asks : asked_by i under stack a ≡ place_asked i stack a.at ++ one ∷ [] =
      ap (λ (u : Use). asked_by i under stack (record { at = a.at; size = a.size; use_of = u })) t.load
      ∙ load-asks i under stack a.at a.size (Some found.spot) found.is
      ∙ ap (λ r. place_asked i stack a.at ++ (if is_cells r then one ∷ [] else [])) (found.role ∙ t.local) in
      subst (Any P) (sym asks) (any-right P (place_asked i stack a.at) (one ∷ []) (any-alone P one (ap asked.Cell number)))

  pub touched : IsPlace under → under.pages ≡ movable_pages i → (accesses : List Access) → HoldsTouched segments under accesses (asked_by_all i under stack accesses)
  touched is pages accesses = record {
    pages = λ page. any-flat_map (IsForPage under page) (TouchesPage segments under page) (asked_by i under stack) (asked-page is pages page) accesses;
    words = λ word. any-flat_map (λ (x : Asked). x ≡ asked.Cell word) (TouchesWord segments word) (asked_by i under stack) (asked-word word) accesses;
  }
