-- What a run begins with: a module for each image, a row for each place, and places that are numbered from 1.
use Rattle.std.proofs.Common.{◌≡◌, ◌≢◌, ℕ, zero, suc, ◌+◌, ◌*◌, ◌<◌, ◌≤◌, List, [], ◌∷◌, ◌++◌, length, map, get_or, slice_get, Option, Some, None, inl, inr, refl, sym, ap, subst, ◌∙◌, arith}
use Rattle.std.specs.List.{All, AllPairs, enumerate_from, filter, range_with_len, zip}
use Rattle.std.specs.Option.{IsSomeAnd, MatchOption}
use Rattle.std.proofs.lemmas.Bool.{cases_lt}
use Rattle.std.proofs.lemmas.List.{length-map, map_push}
use Rattle.std.proofs.lemmas.List.Elements.{All-same}
use Rattle.std.proofs.lemmas.List.FromFn.{length-enumerate_from, length-map-range_with_len}
use Rattle.std.proofs.lemmas.Option.{slice_get_within}
use Rattle.std.proofs.lemmas.Simd.{map-map}
use Rattle.std.proofs.lemmas.Slice.Zip.{seconds-zip}
use Rattle.ad_base.specs.declared.image.Image.{Image}
use Rattle.ad_base.specs.declared.layout.TheConstants.{MAPPINGS}
use Rattle.ad_base.specs.declared.ledger.Kind.{Kind}
use Rattle.ad_base.specs.declared.ledger.Kind.TheVariants.{Code, Fixed, Stack}
use Rattle.ad_base.specs.declared.ledger.Row.{Row}
use Rattle.ad_base.specs.declared.place.Place.{Place}
use Rattle.ad_base.specs.Ledger.{Mapping, is_same_kind}
use Rattle.ad_core.specs.Turn.{opening_contents}
use Rattle.ad_place.specs.Choice.{Drawn, drawn_from}
use Rattle.ad_place.specs.ChoiceLaws.{IsPlaceFor}
use Rattle.ad_place.proofs.Requests.{each_is, length-drawn_from, regions_differ}
use Rattle.ad_lines.specs.Opening.{AreLoaded, Request, drawn_for, opening_drawn, opening_mapping, opening_mappings, opening_module, opening_modules, opening_requests, places_of_kind, row_of, stack_request}
use Rattle.ad_lines.specs.Private.Places.{AreNumberedPlaces, IsMappingList, thing_of, thing_row}
use Rattle.ad_lines.proofs.Asked.{code_request, codes-asked, fits-requests, fixed-asked, fixed_request, length-requests, of_kind, stacks-asked}
use Rattle.ad_lines.proofs.Elements.{all-read, all-reads, pairs-read}
use Rattle.ad_lines.proofs.ListReads.{map-read, read-enumerate, read-map}
use Rattle.ad_lines.proofs.Zips.{filter-made, filter-read, firsts-kept, zip-push, zip-read}

-- a module more behind the others
pub modules-push : (images : List Image) (parts : List Place) (i : Image) (movable : Place) → slice_get parts (length images) ≡ Some movable
    → opening_modules (images ++ i ∷ []) parts ≡ opening_modules images parts ++ record { image = i; movable = movable; book = opening_contents i } ∷ []
modules-push images parts i movable there = ap (map opening_module) (zip-push images i parts movable there) ∙ map_push opening_module (zip images parts) (i, movable)

-- as many rows as places, each with its place's number
module _ (requests : List Request) (places : List Place) (each : length requests ≡ length places) where
  pub rows-places : map (λ (r : Row). r.place) (map row_of (map opening_mapping (zip requests places))) ≡ places
  rows-places =
      map-map (λ (r : Row). r.place) row_of (map opening_mapping (zip requests places))
      ∙ map-map (λ (m : Mapping). m.place) opening_mapping (zip requests places)
      ∙ seconds-zip requests places (sym each)

  pub length-rows : length (map row_of (map opening_mapping (zip requests places))) ≡ length places
  length-rows = sym (length-map (map row_of (map opening_mapping (zip requests places))) (λ (r : Row). r.place)) ∙ ap length rows-places

  pub rows-list : (capacity : ℕ) → AreNumberedPlaces places → MAPPINGS ≤ capacity → IsMappingList places (map row_of (map opening_mapping (zip requests places))) capacity
  rows-list capacity h room = record {
    numbered = λ k r there.
        let x = map-read row_of (map opening_mapping (zip requests places)) k r there in
        let y = map-read opening_mapping (zip requests places) k x.0 x.1 in
        let z = zip-read requests places k y.0 y.1 in
        sym (ap (λ (row : Row). row.mapping) x.2) ∙ sym (ap (λ (m : Mapping). m.place.mapping) y.2) ∙ h k y.0.1 z.1;
    each = length-rows;
    room = room;
  }

-- the rows of things at their places are those of the requests
pub rows-of-things : (requests : List Request) (places : List Place) → map thing_row (zip (map thing_of requests) places) ≡ map row_of (map opening_mapping (zip requests places))
rows-of-things [] places = refl
rows-of-things (r ∷ rs) [] = refl
rows-of-things (r ∷ rs) (p ∷ ps) = ap (λ rows. row_of (opening_mapping (r, p)) ∷ rows) (rows-of-things rs ps)

-- the places of a kind are read off the rows
pub kind-of-rows : (kind : Kind) (mappings : List Mapping) → map (λ (r : Row). r.place) (filter (λ (r : Row). is_same_kind kind r.kind) (map row_of mappings)) ≡ places_of_kind kind mappings
kind-of-rows kind mappings =
    ap (map (λ (r : Row). r.place)) (filter-made (λ (r : Row). is_same_kind kind r.kind) row_of mappings)
    ∙ map-map (λ (r : Row). r.place) row_of (filter (λ (m : Mapping). is_same_kind kind m.kind) mappings)

-- a place, and the request that it was drawn for
pub record IsDrawnFor (requests : List Request) (places : List Place) (r : Request) (p : Place) : Type 0 where
  pub at : ℕ
  pub asked : slice_get requests at ≡ Some r
  pub there : slice_get places at ≡ Some p

-- the places of a kind
module _ (kind : Kind) (requests : List Request) (places : List Place) where
  kept : List (Request × Place)
  kept = filter (λ (z : Request × Place). is_same_kind kind z.0.kind) (zip requests places)

  places-kept : places_of_kind kind (map opening_mapping (zip requests places)) ≡ map (λ (z : Request × Place). z.1) kept
  unfolding kept
  places-kept =
      ap (map (λ (m : Mapping). m.place)) (filter-made (λ (m : Mapping). is_same_kind kind m.kind) opening_mapping (zip requests places))
      ∙ map-map (λ (m : Mapping). m.place) opening_mapping kept

  -- are among all places
  pub all-of-kind : (P : Place → Type 0) → All P places → All P (places_of_kind kind (map opening_mapping (zip requests places)))
  unfolding kept
  all-of-kind P h =
      All-same P _ (map (λ (z : Request × Place). z.1) kept) places-kept
      (all-reads P (map (λ (z : Request × Place). z.1) kept)
      (λ n p e.
      let z = map-read (λ (z : Request × Place). z.1) kept n p e in
      let k = filter-read (λ (z : Request × Place). is_same_kind kind z.0.kind) (zip requests places) n z.0 z.1 in
      subst P z.2 (all-read P places k.0 z.0.1 h (zip-read requests places k.0 z.0 k.1).1)))

  module _ (each : length requests ≡ length places) where
    requests-kept : map (λ (z : Request × Place). z.0) kept ≡ of_kind kind requests
    unfolding kept
    requests-kept = firsts-kept (λ (r : Request). is_same_kind kind r.kind) requests places each

    -- are as many as its requests, and in their order
    pub length-of-kind : length (places_of_kind kind (map opening_mapping (zip requests places))) ≡ length (of_kind kind requests)
    length-of-kind =
        ap length places-kept ∙ length-map kept (λ (z : Request × Place). z.1)
        ∙ sym (length-map kept (λ (z : Request × Place). z.0)) ∙ ap length requests-kept

    pub drawn-for-kind : (n : ℕ) (p : Place) (r : Request) → slice_get (places_of_kind kind (map opening_mapping (zip requests places))) n ≡ Some p → slice_get (of_kind kind requests) n ≡ Some r
        → IsDrawnFor requests places r p
    unfolding kept
    drawn-for-kind n p r e f =
        let z = map-read (λ (z : Request × Place). z.1) kept n p (ap (λ ps. slice_get ps n) (sym places-kept) ∙ e) in
        let k = filter-read (λ (z : Request × Place). is_same_kind kind z.0.kind) (zip requests places) n z.0 z.1 in
        let both = zip-read requests places k.0 z.0 k.1 in
        let among : Some z.0.0 ≡ Some r = sym (read-map (λ (z : Request × Place). z.0) kept n z.0 z.1) ∙ ap (λ rs. slice_get rs n) requests-kept ∙ f in
        record { at = k.0; asked = both.0 ∙ among; there = both.1 ∙ ap Some z.2 }

-- a read of a list that is long enough finds something
pub there : {A : Type 0} (xs : List A) (k : ℕ) → k < length xs → (x : A) × (slice_get xs k ≡ Some x)
there [] k within = absurd (omega arith)
there (x ∷ xs) zero within = (x, refl)
there (x ∷ xs) (suc k) within = there xs k (omega arith)

some-is : {A : Type 0} (o : Option A) (x : A) (P : A → Type 0) → o ≡ Some x → IsSomeAnd o P → P x
some-is None x P e h = absurd cc
some-is (Some y) x P e h = let same : y ≡ x = cc in subst P same h

read-range : (n count k : ℕ) → k < count → slice_get (range_with_len n count) k ≡ Some (n + k)
read-range n zero k within = absurd (omega arith)
read-range n (suc count) zero within = let at : n ≡ n + 0 = omega arith in ap Some at
read-range n (suc count) (suc k) within = let at : n + 1 + k ≡ n + suc k = omega arith in read-range (n + 1) count k (omega arith) ∙ ap Some at

read-counted : (count k : ℕ) → k < count → slice_get (range_with_len 0 count) k ≡ Some k
read-counted count k within = let at : 0 + k ≡ k = omega arith in read-range 0 count k within ∙ ap Some at

read-numbered : {A : Type 0} (xs : List A) (k : ℕ) (x : A) → slice_get xs k ≡ Some x → slice_get (enumerate_from 0 xs) k ≡ Some (k, x)
read-numbered xs k x e = let at : 0 + k ≡ k = omega arith in read-enumerate 0 xs k x e ∙ ap (λ n. Some (n, x)) at

module _ (seed workers : ℕ) (images : List Image) (loaded : AreLoaded seed workers images) where
  few-drawn : length (opening_requests workers images) ≤ MAPPINGS
  few-drawn = omega (arith, length-requests workers images, loaded.few_workers, loaded.few_modules)

  -- a place for each request
  pub drawn-each : length (opening_requests workers images) ≡ length (opening_drawn seed workers images).places
  unfolding opening_drawn
  drawn-each = omega (arith, length-drawn_from (record { seed = seed; places = [] }) (map drawn_for (opening_requests workers images)), length-map (opening_requests workers images) drawn_for)

  pub length-drawn : length (opening_drawn seed workers images).places ≡ workers + 2 * length images
  length-drawn = omega (arith, drawn-each, length-requests workers images)

  -- each place is one for its request
  pub drawn-as : (k : ℕ) (r : Request) (p : Place) → slice_get (opening_requests workers images) k ≡ Some r → slice_get (opening_drawn seed workers images).places k ≡ Some p
      → IsPlaceFor r.kind r.pages (k + 1) p
  unfolding opening_drawn
  drawn-as k r p asked e =
      let start : Drawn = record { seed = seed; places = [] } in
      let requests = map drawn_for (opening_requests workers images) in
      let is = each_is start requests (omega (arith, few-drawn, length-map (opening_requests workers images) drawn_for)) (fits-requests workers images loaded.whole) k (drawn_for r) (read-map drawn_for (opening_requests workers images) k r asked) k (omega arith) in
      some-is (slice_get (drawn_from start requests).places k) p (IsPlaceFor r.kind r.pages (k + 1)) e is

  pub drawn-is : (k : ℕ) (p : Place) → slice_get (opening_drawn seed workers images).places k ≡ Some p
      → (r : Request) × (slice_get (opening_requests workers images) k ≡ Some r) × IsPlaceFor r.kind r.pages (k + 1) p
  drawn-is k p e =
      let asked = there (opening_requests workers images) k (omega (arith, drawn-each, slice_get_within (opening_drawn seed workers images).places k p e)) in
      (asked.0, asked.1, drawn-as k asked.0 p asked.1 e)

  pub numbered : AreNumberedPlaces (opening_drawn seed workers images).places
  numbered k p e = (drawn-is k p e).2.mapping

  -- no two have one region
  pub regions-apart : AllPairs (λ (p q : Place). p.region ≢ q.region) (opening_drawn seed workers images).places
  unfolding opening_drawn
  regions-apart = regions_differ (record { seed = seed; places = [] }) (map drawn_for (opening_requests workers images)) (omega (arith, few-drawn, length-map (opening_requests workers images) drawn_for)) (λ i j d less within. absurd (omega arith))

  pub apart-for : (r s : Request) (p q : Place) → IsDrawnFor (opening_requests workers images) (opening_drawn seed workers images).places r p
      → IsDrawnFor (opening_requests workers images) (opening_drawn seed workers images).places s q → r ≢ s → p.region ≢ q.region
  apart-for r s p q a b other =
      let ps = (opening_drawn seed workers images).places in
      elim (cases_lt a.at b.at) [
        | inl low ↦ pairs-read (λ (x y : Place). x.region ≢ y.region) ps a.at b.at p q regions-apart low a.there b.there
        | inr high ↦ elim (cases_lt b.at a.at) [
          | inl low ↦ λ same. pairs-read (λ (x y : Place). x.region ≢ y.region) ps b.at a.at q p regions-apart low b.there a.there (sym same)
          | inr both ↦
              let at : a.at ≡ b.at = omega (arith, high, both) in
              let same : Some r ≡ Some s = sym a.asked ∙ ap (slice_get (opening_requests workers images)) at ∙ b.asked in
              let is : r ≡ s = cc in
              absurd (other is)
        ]
      ]

  -- a part for each module, and a stack for each worker
  pub parts-count : length (places_of_kind Code (opening_mappings workers images (opening_drawn seed workers images).places)) ≡ length images
  parts-count =
      length-of-kind Code (opening_requests workers images) (opening_drawn seed workers images).places drawn-each
      ∙ ap length (codes-asked workers images) ∙ length-map (enumerate_from 0 images) code_request ∙ length-enumerate_from 0 images

  pub stacks-count : length (places_of_kind Stack (opening_mappings workers images (opening_drawn seed workers images).places)) ≡ workers
  stacks-count =
      length-of-kind Stack (opening_requests workers images) (opening_drawn seed workers images).places drawn-each
      ∙ ap length (stacks-asked workers images) ∙ length-map-range_with_len stack_request 0 workers

  pub part-for : (n : ℕ) (i : Image) (p : Place) → slice_get images n ≡ Some i → slice_get (places_of_kind Code (opening_mappings workers images (opening_drawn seed workers images).places)) n ≡ Some p
      → IsDrawnFor (opening_requests workers images) (opening_drawn seed workers images).places (code_request (n, i)) p
  part-for n i p found e =
      drawn-for-kind Code (opening_requests workers images) (opening_drawn seed workers images).places drawn-each n p (code_request (n, i)) e
      (ap (λ rs. slice_get rs n) (codes-asked workers images) ∙ read-map code_request (enumerate_from 0 images) n (n, i) (read-numbered images n i found))

  pub fixed-for : (n : ℕ) (i : Image) → slice_get images n ≡ Some i → IsDrawnFor (opening_requests workers images) (opening_drawn seed workers images).places (fixed_request (n, i)) i.fixed
  fixed-for n i found =
      drawn-for-kind Fixed (opening_requests workers images) (opening_drawn seed workers images).places drawn-each n i.fixed (fixed_request (n, i))
      (ap (λ ps. slice_get ps n) (sym loaded.fixed) ∙ read-map (λ (x : Image). x.fixed) images n i found)
      (ap (λ rs. slice_get rs n) (fixed-asked workers images) ∙ read-map fixed_request (enumerate_from 0 images) n (n, i) (read-numbered images n i found))

  pub stack-for : (n : ℕ) (p : Place) → slice_get (places_of_kind Stack (opening_mappings workers images (opening_drawn seed workers images).places)) n ≡ Some p
      → IsDrawnFor (opening_requests workers images) (opening_drawn seed workers images).places (stack_request n) p
  stack-for n p e =
      let within = slice_get_within (places_of_kind Stack (opening_mappings workers images (opening_drawn seed workers images).places)) n p e in
      drawn-for-kind Stack (opening_requests workers images) (opening_drawn seed workers images).places drawn-each n p (stack_request n) e
      (ap (λ rs. slice_get rs n) (stacks-asked workers images) ∙ read-map stack_request (range_with_len 0 workers) n n (read-counted workers n (omega (arith, within, stacks-count))))

-- a history more has room for the calls of its module
pub rooms-push : (calls : ℕ → ℕ) (rooms : List ℕ) (room : ℕ) → ((m r : ℕ) → slice_get rooms m ≡ Some r → r ≡ calls m) → room ≡ calls (length rooms)
    → (m r : ℕ) → slice_get (rooms ++ room ∷ []) m ≡ Some r → r ≡ calls m
rooms-push calls [] room h is zero r e = let same : room ≡ r = cc in sym same ∙ is
rooms-push calls [] room h is (suc m) r e = absurd cc
rooms-push calls (x ∷ xs) room h is zero r e = h 0 r e
rooms-push calls (x ∷ xs) room h is (suc m) r e = rooms-push (λ n. calls (suc n)) xs room (λ n s f. h (suc n) s f) is m r e

-- what is read within a list doesn't depend on what stands for the others
pub default-same : {A : Type 0} (xs : List A) (k : ℕ) (d x : A) → k < length xs → get_or xs k d ≡ get_or xs k x
default-same [] k d x within = absurd (omega arith)
default-same (y ∷ ys) zero d x within = refl
default-same (y ∷ ys) (suc k) d x within = default-same ys k d x (omega arith)

-- what a list that is gone through by value gives next
pub next-item : {A : Type 0} (r : Option A) (x : A) (now after : List A) (n m : ℕ) → r ≡ Some x → MatchOption r ((n ≡ 0) × (m ≡ 0)) (λ y. (now ≡ y ∷ after) × (m + 1 ≡ n)) → now ≡ x ∷ after
next-item None x now after n m e h = absurd cc
next-item (Some y) x now after n m e h = let same : y ≡ x = cc in h.0 ∙ ap (λ z. z ∷ after) same
