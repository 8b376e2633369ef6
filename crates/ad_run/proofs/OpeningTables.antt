-- What the mapping table and the stack table are opened with: modules and stacks at places that differ in number and in region.
use Rattle.std.proofs.Common.{◌≡◌, ◌≢◌, ℕ, ◌+◌, ◌*◌, ◌<◌, ◌≤◌, List, length, get_or, slice_get, Some, refl, sym, ap, subst, ◌∙◌, arith}
use Rattle.std.specs.List.{All, AllPairs}
use Rattle.std.proofs.lemmas.Nat.{mul-le}
use Rattle.std.proofs.lemmas.Option.{slice_get-get_or}
use Rattle.ad_base.specs.declared.image.Image.{Image}
use Rattle.ad_base.specs.declared.layout.TheConstants.{MAPPINGS}
use Rattle.ad_base.specs.declared.ledger.Kind.{Kind}
use Rattle.ad_base.specs.declared.ledger.Kind.TheVariants.{Stack}
use Rattle.ad_base.specs.declared.place.Place.{Place}
use Rattle.ad_base.specs.Image.{IsWhole}
use Rattle.ad_base.specs.Place.{IsPlace, IsModulePlace}
use Rattle.ad_lines.specs.Opening.{AreLoaded, Request, opening_drawn, opening_mappings, opening_requests, places_of_kind, stack_request}
use Rattle.ad_lines.specs.Sound.{Lines}
use Rattle.ad_lines.proofs.Asked.{code_request}
use Rattle.ad_lines.proofs.Elements.{all-read, all-reads}
use Rattle.ad_lines.proofs.Kept.{read}
use Rattle.ad_lines.proofs.Opens.{IsDrawnFor, apart-for, drawn-as, length-drawn, stack-for}
use Rattle.ad_maps.specs.declared.shape.Opening.{Opening}
use Rattle.ad_maps.specs.declared.shape.Shape.{Shape}
use Rattle.ad_maps.specs.MapPlace.{IsOpening, IsShape, no_opening, opening_of}
use Rattle.ad_place.specs.Choice.{Drawn}
use Rattle.ad_place.specs.ChoiceLaws.{IsPlaceFor}
use Rattle.ad_run.specs.Opened.{drawn_mappings, opening_for, shape_for}
use Rattle.ad_run.proofs.Framed.{IsModuleAt, module-at, shape-size}
use Rattle.ad_stacks.specs.StackPlace.{IsStackPlace}

-- no more places are drawn for the opening than there may be mappings
pub few-places : (seed workers : ℕ) (images : List Image) → AreLoaded seed workers images → (d : Drawn) → d ≡ opening_drawn seed workers images → length d.places ≤ MAPPINGS
few-places seed workers images loaded d is =
    let same = ap (λ (x : Drawn). length x.places) is in
    omega (arith, same, length-drawn seed workers images loaded, loaded.few_workers, loaded.few_modules)

-- the places of a kind that were found among those drawn are those of the opening
pub drawn-places : (kind : Kind) (l : Lines) (d : Drawn) → d ≡ opening_drawn l.seed l.workers l.images → (places found now : List Place)
    → now ≡ found → found ≡ places_of_kind kind (opening_mappings l.workers l.images places) → places ≡ d.places → now ≡ places_of_kind kind (drawn_mappings l)
drawn-places kind l d is places found now same kept all =
    same ∙ kept ∙ ap (λ (ps : List Place). places_of_kind kind (opening_mappings l.workers l.images ps)) (all ∙ ap (λ (x : Drawn). x.places) is)

-- a place stays one with a number for its frame
framed-place : (p : Place) (frame : ℕ) → IsPlace p → frame < 256 → IsPlace (record p { frame = frame })
framed-place p frame h few = record {
  region_from = h.region_from;
  region_to = h.region_to;
  page_before = h.page_before;
  some_page = h.some_page;
  page_behind = h.page_behind;
  mapping_from = h.mapping_from;
  mapping_to = h.mapping_to;
  frame_to = few;
}

module _ (l : Lines) (loaded : AreLoaded l.seed l.workers l.images) where
  abbrev asked : List Request
  asked = opening_requests l.workers l.images

  abbrev drawn : List Place
  drawn = (opening_drawn l.seed l.workers l.images).places

  is-for : (r : Request) (p : Place) (is : IsDrawnFor asked drawn r p) → IsPlaceFor r.kind r.pages (is.at + 1) p
  is-for r p is = drawn-as l.seed l.workers l.images loaded is.at r p is.asked is.there

  -- places that were drawn for others have other numbers
  numbers-apart : (r s : Request) (p q : Place) → IsDrawnFor asked drawn r p → IsDrawnFor asked drawn s q → r ≢ s → p.mapping ≢ q.mapping
  numbers-apart r s p q a b differ e =
      let at : a.at ≡ b.at = omega (arith, (is-for r p a).mapping, (is-for s q b).mapping, e) in
      let found : Some p ≡ Some q = sym a.there ∙ ap (slice_get drawn) at ∙ b.there in
      let here : p ≡ q = cc in
      apart-for l.seed l.workers l.images loaded r s p q a b differ (ap (λ (x : Place). x.region) here)

  abbrev stacks : List Place
  stacks = places_of_kind Stack (drawn_mappings l)

  pub stacks-lie : All IsStackPlace stacks
  stacks-lie =
      all-reads IsStackPlace stacks
      (λ n p e.
      let is = is-for (stack_request n) p (stack-for l.seed l.workers l.images loaded n p e) in
      record { place = is.place; for_stacks = is.region_from; size = is.pages; no_frame = is.frame })

  pub stacks-differ : AllPairs (λ (p q : Place). p.mapping ≢ q.mapping) stacks
  stacks-differ i j d less within =
      let a = slice_get-get_or stacks i d (omega (arith, less, within)) in
      let b = slice_get-get_or stacks j d within in
      numbers-apart (stack_request i) (stack_request j) (get_or stacks i d) (get_or stacks j d) (stack-for l.seed l.workers l.images loaded i (get_or stacks i d) a)
      (stack-for l.seed l.workers l.images loaded j (get_or stacks j d) b)
      (λ e. let at : i ≡ j = ap (λ (r : Request). r.who) e in omega (arith, at, less))

  module _ (slots frames : ℕ) where
    abbrev shape : Shape
    shape = shape_for slots frames l

    size : length shape.modules ≡ length l.images
    size = shape-size slots frames l loaded

    pub at-module : (m : ℕ) → m < length l.images → IsModuleAt slots frames l loaded m
    at-module m within = module-at slots frames l loaded m within

    pub opened-as : (m : ℕ) (within : m < length l.images) → let a = at-module m within in opening_of shape m ≡ opening_for frames ((m, a.image), a.place)
    opened-as m within = let a = at-module m within in read shape.modules m (opening_for frames ((m, a.image), a.place)) no_opening a.opened

    opens : 2 ≤ frames → frames ≤ 16 → (m : ℕ) → m < length l.images → IsOpening shape m
    opens some few m within =
        let a = at-module m within in
        let is = is-for (code_request (m, a.image)) a.place a.drawn_for in
        let low : m * frames ≤ 7 * 16 = mul-le m frames 7 16 (omega (arith, within, loaded.few_modules)) few in
        let at : IsPlace (record a.place { frame = m * frames }) = framed-place a.place (m * frames) is.place (omega (arith, low)) in
        let place : IsModulePlace (record a.place { frame = m * frames }) = record { place = at; for_modules = is.region_to } in
        let whole = all-read IsWhole l.images m a.image loaded.whole a.loaded_as in
        let opening : (o : Opening) → o ≡ opening_for frames ((m, a.image), a.place) → IsModulePlace o.place × (o.place.frame ≡ m * frames) × (length o.cells ≤ 512) =
        λ o e. subst (λ (o : Opening). IsModulePlace o.place × (o.place.frame ≡ m * frames) × (length o.cells ≤ 512)) (sym e) (place, refl, whole.cells_fit) in
        let holds = opening (opening_of shape m) (opened-as m within) in
        record { place = holds.0; frame = holds.1; few_cells = holds.2 }

    differ : (m n : ℕ) → m < n → n < length l.images → ((opening_of shape m).place.mapping ≢ (opening_of shape n).place.mapping) × ((opening_of shape m).place.region ≢ (opening_of shape n).place.region)
    differ m n less within =
        let first : m < length l.images = omega (arith, less, within) in
        let a = at-module m first in
        let b = at-module n within in
        let others : code_request (m, a.image) ≢ code_request (n, b.image) = λ e. let at : m ≡ n = ap (λ (r : Request). r.who) e in omega (arith, at, less) in
        let x = opened-as m first in
        let y = opened-as n within in (
          λ e. numbers-apart (code_request (m, a.image)) (code_request (n, b.image)) a.place b.place a.drawn_for b.drawn_for others
              (sym (ap (λ (o : Opening). o.place.mapping) x) ∙ e ∙ ap (λ (o : Opening). o.place.mapping) y),
          λ e. apart-for l.seed l.workers l.images loaded (code_request (m, a.image)) (code_request (n, b.image)) a.place b.place a.drawn_for b.drawn_for others
              (sym (ap (λ (o : Opening). o.place.region) x) ∙ e ∙ ap (λ (o : Opening). o.place.region) y),
        )

    pub is-shape : 1 ≤ slots → slots ≤ 16 → 2 ≤ frames → frames ≤ 16 → IsShape shape
    is-shape some_slot few_slots some_frames few_frames = record {
      some_slot = some_slot;
      few_slots = few_slots;
      some_frames = some_frames;
      few_frames = few_frames;
      few_workers = loaded.few_workers;
      few_modules = omega (arith, size, loaded.few_modules);
      each = λ m within. opens some_frames few_frames m (omega (arith, within, size));
      numbers_differ = λ m n less within. (differ m n less (omega (arith, within, size))).0;
      regions_differ = λ m n less within. (differ m n less (omega (arith, within, size))).1;
    }
