-- The mappings before the first line, with the frames that they begin in: their rows, those of each kind, and what the tables are
-- opened with.
use Rattle.std.proofs.Common.{◌≡◌, ℕ, zero, suc, ◌+◌, ◌*◌, ◌<◌, ◌≤◌, Bool, true, false, cond, List, [], ◌∷◌, ◌++◌, length, map, slice_get, Option, Some, refl, sym, ap, subst, ◌∙◌, append-nil, arith}
use Rattle.std.specs.Prelude.{find, slice_index}
use Rattle.std.specs.List.{All, enumerate_from, filter, range_with_len, zip}
use Rattle.std.specs.Option.{option_map_or}
use Rattle.std.proofs.lemmas.List.{length-map}
use Rattle.std.proofs.lemmas.List.FromFn.{length-enumerate_from}
use Rattle.std.proofs.lemmas.Option.{slice_get_within}
use Rattle.std.proofs.lemmas.Simd.{map-map}
use Rattle.std.proofs.lemmas.Slice.Zip.{firsts-zip, seconds-zip}
use Rattle.ad_base.specs.declared.image.Image.{Image}
use Rattle.ad_base.specs.declared.ledger.Kind.{Kind}
use Rattle.ad_base.specs.declared.ledger.Kind.TheVariants.{Code, Fixed, Stack}
use Rattle.ad_base.specs.declared.ledger.Row.{Row}
use Rattle.ad_base.specs.declared.place.Place.{Place}
use Rattle.ad_base.specs.Image.{movable_pages}
use Rattle.ad_base.specs.Ledger.{IsLedger, IsUnmappedOnce, Mapping, is_same_kind, is_same_thing, retired_line}
use Rattle.ad_lines.specs.LineLaws.{thing_pages}
use Rattle.ad_lines.specs.Opening.{AreLoaded, Request, opening_drawn, opening_mapping, opening_requests, opening_run, places_of_kind, row_of, stack_request}
use Rattle.ad_lines.specs.Sound.{Lines, unframed}
use Rattle.ad_lines.proofs.Asked.{code_request, codes-asked, fixed-asked, fixed_request, of_kind, stacks-asked}
use Rattle.ad_lines.proofs.Elements.{all-reads}
use Rattle.ad_lines.proofs.Kept.{read}
use Rattle.ad_lines.proofs.LedgerRuns.{IsMadeLater}
use Rattle.ad_lines.proofs.ListReads.{Each, each-all, each-tail, map-read, read-enumerate, read-map}
use Rattle.ad_lines.proofs.OpenRuns.{run-opens}
use Rattle.ad_lines.proofs.Opens.{IsDrawnFor, all-of-kind, drawn-as, drawn-each, drawn-is, fixed-for, length-rows, numbered, part-for, parts-count, stack-for, stacks-count, there}
use Rattle.ad_lines.proofs.Zips.{filter-made, firsts-kept, read-zip}
use Rattle.ad_maps.specs.declared.shape.Opening.{Opening}
use Rattle.ad_maps.specs.declared.view.Made.{Made}
use Rattle.ad_maps.specs.Ledger.{opened_from}
use Rattle.ad_maps.specs.MapPlace.{no_opening, numbers, opening_of}
use Rattle.ad_maps.specs.Steps.{made}
use Rattle.ad_run.specs.Opened.{drawn_mappings, opening_for, opening_in_frames, shape_for, with_first_frame}
use Rattle.ad_run.proofs.RowLists.{AreRowsFor, HasOpenRow}
use Rattle.ad_stacks.specs.Ledger.{given_from, stack_mapping}

-- the mappings of a kind, in order
abbrev pub of_mapping_kind : Kind → List Mapping → List Mapping
of_mapping_kind kind ms = filter (λ (m : Mapping). is_same_kind kind m.kind) ms

-- a movable part's mapping as the mapping table tells it
abbrev pub code_made : Mapping → Made
code_made m = made m.who m.place

-- the mapping of an immovable part
abbrev pub fixed_mapping : ℕ × Image → Mapping
fixed_mapping z = record { kind = Fixed; who = z.0; place = z.1.fixed; line = 0 }

pub unframed-same : (p : Place) → p.frame ≡ 0 → unframed p ≡ p
unframed-same p e = λ j. record { region = p.region; start = p.start; pages = p.pages; mapping = p.mapping; frame = sym e j }

-- ---- frames leave who retires whom

module _ (frames : ℕ) where
  retired-framed : (m : Mapping) (later : List Mapping) → retired_line (with_first_frame frames m) (map (with_first_frame frames) later) ≡ retired_line m later
  retired-framed m [] = refl
  retired-framed m (x ∷ xs) =
      elim (is_same_thing m x) as (λ (b : Bool). option_map_or (λ (n : Mapping). n.line) (cond b (Some (with_first_frame frames x)) (find (is_same_thing (with_first_frame frames m)) (map (with_first_frame frames) xs))) 0
      ≡ option_map_or (λ (n : Mapping). n.line) (cond b (Some x) (find (is_same_thing m) xs)) 0) [
        | true ↦ refl
        | false ↦ retired-framed m xs
      ]

  ledger-framed : (ms : List Mapping) → IsLedger ms (map row_of ms) → IsLedger (map (with_first_frame frames) ms) (map row_of (map (with_first_frame frames) ms))
  ledger-framed [] h = refl
  ledger-framed (m ∷ ms) h = (record { number = refl; kind = refl; who = refl; place = refl; line = h.0.line ∙ sym (retired-framed m ms) }, ledger-framed ms h.1)

  later-framed : (ms : List Mapping) → IsMadeLater ms → IsMadeLater (map (with_first_frame frames) ms)
  later-framed [] h = tt
  later-framed (m ∷ ms) h = (
    (λ k x e.
        let z = map-read (with_first_frame frames) ms k x e in
        subst (λ (y : Mapping). is_same_thing (with_first_frame frames m) y ≡ true → 1 ≤ y.line) z.2 (h.0 k z.0 z.1)),
    later-framed ms h.1,
  )

-- two lists side by side are those of a list of pairs
zip-parts : {A B : Type 0} (zs : List (A × B)) → zip (map (λ (z : A × B). z.0) zs) (map (λ (z : A × B). z.1) zs) ≡ zs
zip-parts [] = refl
zip-parts (z ∷ zs) = ap (λ ws. z ∷ ws) (zip-parts zs)

-- the mappings of a kind are those of its requests, at its places
kind-mappings : (kind : Kind) (requests : List Request) (places : List Place) → length requests ≡ length places
    → of_mapping_kind kind (map opening_mapping (zip requests places)) ≡ map opening_mapping (zip (of_kind kind requests) (places_of_kind kind (map opening_mapping (zip requests places))))
kind-mappings kind requests places each =
    let kept = filter (λ (z : Request × Place). is_same_kind kind z.0.kind) (zip requests places) in
    let made : of_mapping_kind kind (map opening_mapping (zip requests places)) ≡ map opening_mapping kept = filter-made (λ (m : Mapping). is_same_kind kind m.kind) opening_mapping (zip requests places) in
    let firsts : map (λ (z : Request × Place). z.0) kept ≡ of_kind kind requests = firsts-kept (λ (r : Request). is_same_kind kind r.kind) requests places each in
    let seconds : map (λ (z : Request × Place). z.1) kept ≡ places_of_kind kind (map opening_mapping (zip requests places)) =
    sym (ap (map (λ (m : Mapping). m.place)) made ∙ map-map (λ (m : Mapping). m.place) opening_mapping kept) in
    made ∙ ap (map opening_mapping) (sym (zip-parts kept) ∙ (λ j. zip (firsts j) (seconds j)))

-- ---- those of each kind, in their first frames

codes-from : (frames n : ℕ) (images : List Image) (parts : List Place)
    → map code_made (map (with_first_frame frames) (map opening_mapping (zip (map code_request (enumerate_from n images)) parts))) ≡ opened_from n (map (opening_for frames) (zip (enumerate_from n images) parts))
codes-from frames n [] parts = refl
codes-from frames n (i ∷ images) [] = refl
codes-from frames n (i ∷ images) (p ∷ parts) =
    let first : Made = made n (record { region = p.region; start = p.start; pages = p.pages; mapping = p.mapping; frame = n * frames }) in
    ap (λ (gs : List Made). first ∷ gs) (codes-from frames (n + 1) images parts)

stacks-from : (frames n count : ℕ) (ps : List Place) → length ps ≡ count → Each (λ p. p.frame ≡ 0) ps
    → map (with_first_frame frames) (map opening_mapping (zip (map stack_request (range_with_len n count)) ps)) ≡ map stack_mapping (given_from n ps)
stacks-from frames n zero [] e none = refl
stacks-from frames n (suc count) [] e none = absurd (omega (arith, e))
stacks-from frames n zero (p ∷ ps) e none = absurd (omega (arith, e))
stacks-from frames n (suc count) (p ∷ ps) e none =
    let rest = stacks-from frames (n + 1) count ps (omega (arith, e)) (each-tail (λ q. q.frame ≡ 0) p ps none) in
    let same = unframed-same p (none 0 p refl) in
    λ j. record { kind = Stack; who = n; place = same j; line = 0 } ∷ rest j

fixed-from : (frames n : ℕ) (images : List Image) → Each (λ i. i.fixed.frame ≡ 0) images
    → map (with_first_frame frames) (map opening_mapping (zip (map fixed_request (enumerate_from n images)) (map (λ (i : Image). i.fixed) images))) ≡ map fixed_mapping (enumerate_from n images)
fixed-from frames n [] none = refl
fixed-from frames n (i ∷ images) none =
    let rest = fixed-from frames (n + 1) images (each-tail (λ (x : Image). x.fixed.frame ≡ 0) i images none) in
    let same = unframed-same i.fixed (none 0 i refl) in
    λ j. record { kind = Fixed; who = n; place = same j; line = 0 } ∷ rest j

-- a mapping lies in one of the frames of its module, of so many modules
pub record IsInFrames (frames modules : ℕ) (g : Made) : Type 0 where
  pub is_module : g.of_module < modules
  pub frame_from : g.of_module * frames ≤ g.place.frame
  pub frame_to : g.place.frame < g.of_module * frames + frames

-- what holds of each module's first mapping holds of those that the mapping table is opened with
opened-each : (P : Made → Type 0) (frames n : ℕ) (images : List Image) (parts : List Place)
    → ((number k : ℕ) (i : Image) (p : Place) → number ≡ n + k → slice_get images k ≡ Some i → slice_get parts k ≡ Some p → P (made number (opening_for frames ((number, i), p)).place))
    → Each P (opened_from n (map (opening_for frames) (zip (enumerate_from n images) parts)))
opened-each P frames n [] parts h k g e = absurd cc
opened-each P frames n (i ∷ images) [] h k g e = absurd cc
opened-each P frames n (i ∷ images) (p ∷ parts) h zero g e =
    let same : made n (opening_for frames ((n, i), p)).place ≡ g = cc in
    subst P same (h n 0 i p (omega arith) refl refl)
opened-each P frames n (i ∷ images) (p ∷ parts) h (suc k) g e =
    opened-each P frames (n + 1) images parts (λ number j x q at there found. h number (suc j) x q (omega (arith, at)) there found) k g e

module _ (slots frames : ℕ) (l : Lines) (loaded : AreLoaded l.seed l.workers l.images) where
  abbrev asked : List Request
  asked = opening_requests l.workers l.images

  abbrev drawn : List Place
  drawn = (opening_drawn l.seed l.workers l.images).places

  abbrev parts : List Place
  parts = places_of_kind Code (drawn_mappings l)

  each-drawn : length asked ≡ length drawn
  each-drawn = drawn-each l.seed l.workers l.images loaded

  -- their rows
  pub opening-rows : AreRowsFor (opening_in_frames frames l) (map row_of (opening_in_frames frames l))
  unfolding opening_run
  opening-rows =
      let ms = drawn_mappings l in
      let s = (run-opens l.seed l.workers l.images loaded).sound in
      let all : ms ++ [] ≡ ms = append-nil ms in
      record {
        ledger = ledger-framed frames ms (subst (λ xs. IsLedger xs (map row_of ms)) all s.ledger);
        later = later-framed frames ms (subst IsMadeLater all s.later);
        numbers = λ k r e.
            let x = map-read row_of (opening_in_frames frames l) k r e in
            let y = map-read (with_first_frame frames) ms k x.0 x.1 in
            sym (ap (λ (row : Row). row.mapping) x.2) ∙ sym (ap (λ (m : Mapping). m.place.mapping) y.2) ∙ s.numbers k (row_of y.0) (read-map row_of ms k y.0 y.1);
        once = λ k r e. let x = map-read row_of (opening_in_frames frames l) k r e in subst IsUnmappedOnce x.2 (record { once = λ f. absurd (f refl); never = λ f. refl });
      }

  pub opening-size : length (map row_of (opening_in_frames frames l)) ≡ length drawn
  opening-size =
      length-map (opening_in_frames frames l) row_of ∙ length-map (drawn_mappings l) (with_first_frame frames)
      ∙ sym (length-map (drawn_mappings l) row_of) ∙ length-rows asked drawn each-drawn

  -- their places, but for the frames
  pub opening-places : map (λ (m : Mapping). unframed m.place) (opening_in_frames frames l) ≡ map unframed drawn
  opening-places =
      map-map (λ (m : Mapping). unframed m.place) (with_first_frame frames) (drawn_mappings l)
      ∙ sym (map-map unframed (λ (m : Mapping). m.place) (drawn_mappings l))
      ∙ ap (map unframed) (map-map (λ (m : Mapping). m.place) opening_mapping (zip asked drawn) ∙ seconds-zip asked drawn (sym each-drawn))

  kind-framed : (kind : Kind) (of : List Request) (at : List Place) → of_kind kind asked ≡ of → places_of_kind kind (drawn_mappings l) ≡ at
      → of_mapping_kind kind (opening_in_frames frames l) ≡ map (with_first_frame frames) (map opening_mapping (zip of at))
  kind-framed kind of at is lie =
      filter-made (λ (m : Mapping). is_same_kind kind m.kind) (with_first_frame frames) (drawn_mappings l)
      ∙ ap (map (with_first_frame frames)) (kind-mappings kind asked drawn each-drawn ∙ (λ j. map opening_mapping (zip (is j) (lie j))))

  no-frames : All (λ p. p.frame ≡ 0) drawn
  no-frames = all-reads (λ p. p.frame ≡ 0) drawn (λ k p e. (drawn-is l.seed l.workers l.images loaded k p e).2.frame)

  pub opening-codes : map code_made (of_mapping_kind Code (opening_in_frames frames l)) ≡ opened_from 0 (shape_for slots frames l).modules
  opening-codes =
      ap (map code_made) (kind-framed Code (map code_request (enumerate_from 0 l.images)) parts (codes-asked l.workers l.images) refl)
      ∙ codes-from frames 0 l.images parts

  pub opening-stacks : of_mapping_kind Stack (opening_in_frames frames l) ≡ map stack_mapping (given_from 0 (places_of_kind Stack (drawn_mappings l)))
  opening-stacks =
      let ps = places_of_kind Stack (drawn_mappings l) in
      kind-framed Stack (map stack_request (range_with_len 0 l.workers)) ps (stacks-asked l.workers l.images) refl
      ∙ stacks-from frames 0 l.workers ps (stacks-count l.seed l.workers l.images loaded) (each-all (λ p. p.frame ≡ 0) ps (all-of-kind Stack asked drawn (λ p. p.frame ≡ 0) no-frames))

  pub opening-fixed : of_mapping_kind Fixed (opening_in_frames frames l) ≡ map fixed_mapping (enumerate_from 0 l.images)
  opening-fixed =
      kind-framed Fixed (map fixed_request (enumerate_from 0 l.images)) (map (λ (i : Image). i.fixed) l.images) (fixed-asked l.workers l.images) (sym loaded.fixed)
      ∙ fixed-from frames 0 l.images
      (λ n i found.
      let is = fixed-for l.seed l.workers l.images loaded n i found in
      (drawn-as l.seed l.workers l.images loaded is.at (fixed_request (n, i)) i.fixed is.asked is.there).frame)

  -- ---- what the mapping table is opened with

  pub shape-size : length (shape_for slots frames l).modules ≡ length l.images
  shape-size =
      length-map (zip (enumerate_from 0 l.images) parts) (opening_for frames)
      ∙ sym (length-map (zip (enumerate_from 0 l.images) parts) (λ (z : (ℕ × Image) × Place). z.0))
      ∙ ap length (firsts-zip (enumerate_from 0 l.images) parts (parts-count l.seed l.workers l.images loaded ∙ sym (length-enumerate_from 0 l.images)))
      ∙ length-enumerate_from 0 l.images

  -- a module, with its image and its first place
  pub record IsModuleAt (m : ℕ) : Type 0 where
    pub image : Image
    pub place : Place
    pub loaded_as : slice_get l.images m ≡ Some image
    pub drawn_for : IsDrawnFor asked drawn (code_request (m, image)) place
    pub opened : slice_get (shape_for slots frames l).modules m ≡ Some (opening_for frames ((m, image), place))

  pub module-at : (m : ℕ) → m < length l.images → IsModuleAt m
  module-at m within =
      let i = there l.images m within in
      let p = there parts m (omega (arith, within, parts-count l.seed l.workers l.images loaded)) in
      let number : slice_get (enumerate_from 0 l.images) m ≡ Some (m, i.0) = let at : 0 + m ≡ m = omega arith in read-enumerate 0 l.images m i.0 i.1 ∙ ap (λ n. Some (n, i.0)) at in
      record {
        image = i.0;
        place = p.0;
        loaded_as = i.1;
        drawn_for = part-for l.seed l.workers l.images loaded m i.0 p.0 i.1 p.1;
        opened = read-map (opening_for frames) (zip (enumerate_from 0 l.images) parts) m ((m, i.0), p.0) (read-zip (enumerate_from 0 l.images) parts m (m, i.0) p.0 number p.1);
      }

  pub module-pages : (m : ℕ) → m < length l.images → (opening_of (shape_for slots frames l) m).place.pages ≡ thing_pages l.images Code m
  module-pages m within =
      let a = module-at m within in
      ap (λ (o : Opening). o.place.pages) (read (shape_for slots frames l).modules m (opening_for frames ((m, a.image), a.place)) no_opening a.opened)
      ∙ (drawn-as l.seed l.workers l.images loaded a.drawn_for.at (code_request (m, a.image)) a.place a.drawn_for.asked a.drawn_for.there).pages
      ∙ ap (λ (o : Option Image). option_map_or movable_pages o 0) (sym a.loaded_as)

  row-there : (r : Request) (p : Place) → IsDrawnFor asked drawn r p → (number : ℕ) → number ≡ p.mapping → HasOpenRow (map row_of (opening_in_frames frames l)) r.kind r.who number
  row-there r p is number same = record {
    at = is.at;
    row = row_of (with_first_frame frames (opening_mapping (r, p)));
    found = read-map row_of (opening_in_frames frames l) is.at (with_first_frame frames (opening_mapping (r, p)))
        (read-map (with_first_frame frames) (drawn_mappings l) is.at (opening_mapping (r, p))
        (read-map opening_mapping (zip asked drawn) is.at (r, p) (read-zip asked drawn is.at r p is.asked is.there)));
    of_kind = refl;
    of_who = refl;
    no_line = refl;
    number_is = same ∙ numbered l.seed l.workers l.images loaded is.at p is.there;
  }

  -- each module and each worker has a row with no line
  pub opening-current : (m : ℕ) → m < length l.images → HasOpenRow (map row_of (opening_in_frames frames l)) Code m (slice_index (numbers (shape_for slots frames l)) m)
  opening-current m within =
      let a = module-at m within in
      row-there (code_request (m, a.image)) a.place a.drawn_for (slice_index (numbers (shape_for slots frames l)) m)
      (read (numbers (shape_for slots frames l)) m a.place.mapping 0 (read-map (λ (o : Opening). o.place.mapping) (shape_for slots frames l).modules m (opening_for frames ((m, a.image), a.place)) a.opened))

  pub opening-lane : (w : ℕ) → w < l.workers → (number : ℕ) × HasOpenRow (map row_of (opening_in_frames frames l)) Stack w number
  opening-lane w within =
      let p = there (places_of_kind Stack (drawn_mappings l)) w (omega (arith, within, stacks-count l.seed l.workers l.images loaded)) in
      (p.0.mapping, row-there (stack_request w) p.0 (stack-for l.seed l.workers l.images loaded w p.0 p.1) p.0.mapping refl)

  pub opening-each : (P : Made → Type 0) → ((m : ℕ) (i : Image) (p : Place) → slice_get l.images m ≡ Some i → slice_get (places_of_kind Code (drawn_mappings l)) m ≡ Some p → P (made m (opening_for frames ((m, i), p)).place))
      → Each P (opened_from 0 (shape_for slots frames l).modules)
  opening-each P h =
      opened-each P frames 0 l.images parts
      (λ number k i p at there found. let same : k ≡ number = omega (arith, at) in h number i p (subst (λ x. slice_get l.images x ≡ Some i) same there) (subst (λ x. slice_get parts x ≡ Some p) same found))

  pub opening-frames : 1 ≤ frames → Each (IsInFrames frames (length l.images)) (opened_from 0 (shape_for slots frames l).modules)
  opening-frames some =
      opening-each (IsInFrames frames (length l.images))
      (λ m i p there found. record { is_module = slice_get_within l.images m i there; frame_from = omega arith; frame_to = omega (arith, some) })
