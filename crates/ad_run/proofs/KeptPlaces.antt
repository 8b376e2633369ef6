-- The places that were drawn, as moves go on: they are those that the seed chooses, no two have one region, and each mapping lies
-- at its own, but for the number of its frame.
use Rattle.std.proofs.Common.{◌≡◌, ◌≢◌, inl, inr, ℕ, zero, suc, ◌+◌, ◌*◌, ◌<◌, ◌≤◌, Bool, true, false, cond, List, [], ◌∷◌, ◌++◌, length, map, slice_get, Option, Some, refl, sym, ap, subst, ◌∙◌, append_assoc, append-nil, lit≤, mul-le-mul, ltb-true, arith}
use Rattle.std.specs.Prelude.{nat_lt}
use Rattle.std.specs.List.{AllPairs, Contains, flat_map}
use Rattle.std.specs.Option.{option_map_or}
use Rattle.std.proofs.lemmas.List.{flat_map_more, length_push, map_push}
use Rattle.std.proofs.lemmas.List.Elements.{All-contains, Contains-append_left}
use Rattle.std.proofs.lemmas.List.Quantifiers.{all_pairs_push}
use Rattle.std.proofs.lemmas.Option.{slice_get_within}
use Rattle.ad_base.specs.declared.image.Image.{Image}
use Rattle.ad_base.specs.declared.layout.TheConstants.{FRAMES, MAPPINGS, STACK_PAGES}
use Rattle.ad_base.specs.declared.ledger.Kind.{Kind}
use Rattle.ad_base.specs.declared.ledger.Kind.TheVariants.{Code, Stack}
use Rattle.ad_base.specs.declared.ledger.MoveEnd.TheVariants as ends
use Rattle.ad_base.specs.declared.ledger.Moved.{Moved}
use Rattle.ad_base.specs.declared.place.Place.{Place}
use Rattle.ad_base.specs.Image.{IsWhole, movable_pages}
use Rattle.ad_base.specs.Ledger.{Mapping, made_mapping}
use Rattle.ad_lines.specs.LineLaws.{draw_of}
use Rattle.ad_lines.specs.Opening.{AreLoaded, drawn_for, opening_drawn, opening_module, opening_modules, opening_requests, opening_run, places_of_kind}
use Rattle.ad_lines.specs.Private.Places.{AreNumberedPlaces}
use Rattle.ad_lines.specs.Sound.{Lines, unframed}
use Rattle.ad_lines.proofs.Elements.{all-read, contains-read}
use Rattle.ad_lines.proofs.ListReads.{Each, each-all, each-push, push-read, read-map}
use Rattle.ad_lines.proofs.OpenedApart.{opening-placed}
use Rattle.ad_lines.proofs.Opens.{fixed-for, length-drawn, numbered, regions-apart, there}
use Rattle.ad_lines.proofs.PlacedApart.{IsPartOf, IsPlacedModule, IsStackPlace}
use Rattle.ad_lines.proofs.Zips.{read-zip}
use Rattle.ad_maps.specs.declared.view.Deed.{Deed}
use Rattle.ad_maps.specs.declared.view.Made.{Made}
use Rattle.ad_maps.specs.declared.words.TheConstants.{MODULE_FRAMES}
use Rattle.ad_maps.specs.Ledger.{all_made, maps_in}
use Rattle.ad_maps.specs.MapPlace.{opening_of}
use Rattle.ad_maps.specs.Steps.{made}
use Rattle.ad_maps.proofs.Elements.{maps-append}
use Rattle.ad_mover.specs.Moves.{AllOwned, MayCome, Moving, NoNumber, Outcome, Placed, deeds_of, retired_by, with_outcome, with_stack}
use Rattle.ad_place.specs.Choice.{Drawn, drawn_from, next_place, with_next}
use Rattle.ad_place.specs.ChoiceLaws.{IsPlaceFor}
use Rattle.ad_place.proofs.Places.{next_place_fresh, next_place_is}
use Rattle.ad_place.proofs.Requests.{drawn_from-append}
use Rattle.ad_run.specs.Opened.{drawn_mappings, new_moving, opening_in_frames, shape_for}
use Rattle.ad_run.proofs.DeedLines.{made-after, made-ended, made_by, no-retired}
use Rattle.ad_run.proofs.Framed.{IsInFrames, module-pages, opening-each, opening-frames, opening-places}
use Rattle.ad_run.proofs.KeptMappings.{lane_places}
use Rattle.ad_run.proofs.KeptRows.{mappings-push, mappings_of, with_given}
use Rattle.ad_run.proofs.MoverSteps.{IsKept, with_end}
use Rattle.ad_stacks.specs.declared.view.Given.{Given}
use Rattle.ad_stacks.specs.Ledger.{all_given, given_from}

-- what is drawn at the seed for the opening and for these moves
abbrev pub requests_of : Lines → List Moved → List (Kind × ℕ)
requests_of l moves = map drawn_for (opening_requests l.workers l.images) ++ flat_map (draw_of l.images) moves

abbrev pub no_places : Lines → Drawn
no_places l = record { seed = l.seed; places = [] }

-- a mapping of a movable part is one of a module of these images, in one of its frames, at a place for its part
pub record IsPartMade (frames : ℕ) (l : Lines) (g : Made) : Type 0 where
  pub image : Image
  pub loaded_as : slice_get l.images g.of_module ≡ Some image
  pub part : IsPartOf image g.place

pub record HasPlaces (slots frames : ℕ) (l : Lines) (s : Moving) (waiting : List Deed) : Type 0 where
  pub drawn : s.drawn ≡ drawn_from (no_places l) (requests_of l s.moves)
  pub few : length s.drawn.places ≤ MAPPINGS
  pub lie : map (λ (m : Mapping). unframed m.place) (mappings_of frames l s.moves) ≡ map unframed s.drawn.places
  pub numbers : AreNumberedPlaces s.drawn.places
  pub apart : AllPairs (λ (p q : Place). p.region ≢ q.region) s.drawn.places
  pub fixed_drawn : (n : ℕ) (i : Image) → slice_get l.images n ≡ Some i → Contains s.drawn.places i.fixed
  pub parts : Each (IsPartMade frames l) (all_made (shape_for slots frames l) s.deeds)
  pub frames_are : Each (IsInFrames frames (length l.images)) (all_made (shape_for slots frames l) s.deeds)
  pub lanes : Each (λ (g : Given). IsStackPlace g.place) (all_given (lane_places l) s.refreshes)
  pub silent : maps_in waiting ≡ []

-- ---- frames

-- the frames of a module are frames
frame-fits : (frames m modules owners : ℕ) → frames ≤ MODULE_FRAMES → m < modules → modules ≤ 8 → owners < frames → m * frames + owners < FRAMES
frame-fits frames m modules owners few within least low =
    let product : m * frames ≤ 7 * 16 = mul-le-mul {n₁ = m} {m₁ = frames} {n₂ = 7} {m₂ = 16} (omega (arith, within, least)) (omega (arith, few)) in
    omega (arith, product, few, low)

-- a place of a part in another frame
part-framed : (i : Image) (p : Place) (frame : ℕ) → frame < FRAMES → IsPartOf i p → IsPartOf i (record p { frame = frame })
part-framed i p frame fits h =
    let o = h.for_modules.place in
    record {
      for_modules = record {
        place = record {
          region_from = o.region_from;
          region_to = o.region_to;
          page_before = o.page_before;
          some_page = o.some_page;
          page_behind = o.page_behind;
          mapping_from = o.mapping_from;
          mapping_to = o.mapping_to;
          frame_to = fits;
        };
        for_modules = h.for_modules.for_modules;
      };
      size = h.size;
      from_fixed = h.from_fixed;
    }

-- ---- what is drawn

draws-push : (l : Lines) (moves : List Moved) (x : Moved) → requests_of l (moves ++ x ∷ []) ≡ requests_of l moves ++ draw_of l.images x
draws-push l moves x = sym (flat_map_more (draw_of l.images) (map drawn_for (opening_requests l.workers l.images)) moves x)

numbers-push : (ps : List Place) (p : Place) → AreNumberedPlaces ps → p.mapping ≡ length ps + 1 → AreNumberedPlaces (ps ++ p ∷ [])
numbers-push ps p h is k q e = elim (push-read ps p k q e) [
  | inl old ↦ h k q old
  | inr new ↦ sym (ap (λ (x : Place). x.mapping) new.1) ∙ is ∙ ap (λ n. n + 1) (sym new.0)
]

module _ (slots frames : ℕ) (l : Lines) (s : Moving) (waiting : List Deed) (h : HasPlaces slots frames l s waiting) where
  -- what is so of what was drawn once this is drawn for a thing too
  module _ (kind : Kind) (pages : ℕ) (x : Moved) (n : Mapping) (less : length s.drawn.places < MAPPINGS)
      (asks : draw_of l.images x ≡ (kind, pages) ∷ []) (makes : made_mapping x ≡ n ∷ []) (at : unframed n.place ≡ unframed (next_place s.drawn kind pages)) (is : IsPlaceFor kind pages (length s.drawn.places + 1) (next_place s.drawn kind pages)) where
    drawn-with : with_next s.drawn kind pages ≡ drawn_from (no_places l) (requests_of l (s.moves ++ x ∷ []))
    drawn-with =
        ap (λ (d : Drawn). with_next d kind pages) h.drawn
        ∙ sym (drawn_from-append (no_places l) (requests_of l s.moves) kind pages)
        ∙ ap (drawn_from (no_places l)) (ap (λ (rs : List (Kind × ℕ)). requests_of l s.moves ++ rs) (sym asks) ∙ sym (draws-push l s.moves x))

    few-with : length (with_next s.drawn kind pages).places ≤ MAPPINGS
    few-with = omega (arith, length_push s.drawn.places (next_place s.drawn kind pages), less)

    lie-with : map (λ (m : Mapping). unframed m.place) (mappings_of frames l (s.moves ++ x ∷ [])) ≡ map unframed (with_next s.drawn kind pages).places
    lie-with =
        ap (map (λ (m : Mapping). unframed m.place)) (mappings-push frames l s.moves x ∙ ap (λ (ms : List Mapping). mappings_of frames l s.moves ++ ms) makes)
        ∙ map_push (λ (m : Mapping). unframed m.place) (mappings_of frames l s.moves) n
        ∙ (λ j. h.lie j ++ at j ∷ [])
        ∙ sym (map_push unframed s.drawn.places (next_place s.drawn kind pages))

    numbers-with : AreNumberedPlaces (with_next s.drawn kind pages).places
    numbers-with = numbers-push s.drawn.places (next_place s.drawn kind pages) h.numbers is.mapping

    apart-with : AllPairs (λ (p q : Place). p.region ≢ q.region) (with_next s.drawn kind pages).places
    apart-with = all_pairs_push (λ (p q : Place). p.region ≢ q.region) s.drawn.places (next_place s.drawn kind pages) h.apart (next_place_fresh s.drawn kind pages less)

    fixed-with : (k : ℕ) (i : Image) → slice_get l.images k ≡ Some i → Contains (with_next s.drawn kind pages).places i.fixed
    fixed-with k i found = Contains-append_left s.drawn.places (next_place s.drawn kind pages ∷ []) i.fixed (h.fixed_drawn k i found)

  -- nothing was drawn
  module _ (x : Moved) (asks : draw_of l.images x ≡ []) (makes : made_mapping x ≡ []) where
    drawn-same : s.drawn ≡ drawn_from (no_places l) (requests_of l (s.moves ++ x ∷ []))
    drawn-same = h.drawn ∙ ap (drawn_from (no_places l)) (sym (draws-push l s.moves x ∙ ap (λ (rs : List (Kind × ℕ)). requests_of l s.moves ++ rs) asks ∙ append-nil (requests_of l s.moves)))

    lie-same : map (λ (m : Mapping). unframed m.place) (mappings_of frames l (s.moves ++ x ∷ [])) ≡ map unframed s.drawn.places
    lie-same = ap (map (λ (m : Mapping). unframed m.place)) (mappings-push frames l s.moves x ∙ ap (λ (ms : List Mapping). mappings_of frames l s.moves ++ ms) makes ∙ append-nil (mappings_of frames l s.moves)) ∙ h.lie

-- ---- a move of a module

module _ (slots frames : ℕ) (l : Lines) (loaded : AreLoaded l.seed l.workers l.images) (some_frame : 1 ≤ frames) (few_frames : frames ≤ MODULE_FRAMES) where
  unmoved : (s : Moving) (waiting more : List Deed) (line m : ℕ) (o : Outcome) (x : Moved) → draw_of l.images x ≡ [] → made_mapping x ≡ [] → made_by m o ≡ [] → maps_in more ≡ [] → HasPlaces slots frames l s waiting
      → HasPlaces slots frames l (record { drawn = s.drawn; deeds = s.deeds ++ deeds_of (m * frames) m o; current = s.current; refreshes = s.refreshes; moves = s.moves ++ x ∷ [] }) (waiting ++ more)
  unmoved s waiting more line m o x asks makes none quiet h =
      let shape = shape_for slots frames l in
      let same : all_made shape s.deeds ≡ all_made shape (s.deeds ++ deeds_of (m * frames) m o) =
      sym (made-after shape s.deeds (m * frames) m o ∙ ap (λ (gs : List Made). all_made shape s.deeds ++ gs) none ∙ append-nil (all_made shape s.deeds)) in
      record {
        drawn = drawn-same slots frames l s waiting h x asks makes;
        few = h.few;
        lie = lie-same slots frames l s waiting h x asks makes;
        numbers = h.numbers;
        apart = h.apart;
        fixed_drawn = h.fixed_drawn;
        parts = subst (Each (IsPartMade frames l)) same h.parts;
        frames_are = subst (Each (IsInFrames frames (length l.images))) same h.frames_are;
        lanes = h.lanes;
        silent = maps-append waiting more ∙ (λ j. h.silent j ++ quiet j);
      }

  -- the place of a part that is drawn
  part-next : (s : Moving) (waiting : List Deed) (m frame : ℕ) (i : Image) → slice_get l.images m ≡ Some i → frame < FRAMES → length s.drawn.places < MAPPINGS → HasPlaces slots frames l s waiting
      → (pages : ℕ) → pages ≡ movable_pages i → IsPlaceFor Code pages (length s.drawn.places + 1) (next_place s.drawn Code pages) × IsPartOf i (record (next_place s.drawn Code pages) { frame = frame })
  part-next s waiting m frame i found fits less h pages same =
      let whole = all-read IsWhole l.images m i loaded.whole found in
      let is = next_place_is s.drawn Code pages less (omega (arith, same)) (omega (arith, same, whole.movable_pages_fit)) in
      let p = next_place s.drawn Code pages in
      let fresh = All-contains (λ (q : Place). q.region ≢ p.region) s.drawn.places i.fixed (next_place_fresh s.drawn Code pages less) (h.fixed_drawn m i found) in
      let part : IsPartOf i p = record {
        for_modules = record { place = is.place; for_modules = omega (arith, is.region_to) };
        size = is.pages ∙ same;
        from_fixed = λ e. fresh (sym e);
      } in
      (is, part-framed i p frame fits part)

  placed : (s : Moving) (waiting : List Deed) (line m : ℕ) (owners : List ℕ) (p : Place) → m < length l.images
      → MayCome (shape_for slots frames l) m s.drawn (all_made (shape_for slots frames l) s.deeds) (Placed owners p) → HasPlaces slots frames l s waiting
      → HasPlaces slots frames l (with_outcome (shape_for slots frames l) line m (Placed owners p) s) (waiting ++ retired_by line m s.current (Placed owners p))
  placed s waiting line m owners p within may h =
      let shape = shape_for slots frames l in
      let x : Moved = record { line = line; kind = Code; who = m; end = ends.Made p } in
      let n : Mapping = record { kind = Code; who = m; place = p; line = line } in
      let pages = (opening_of shape m).place.pages in
      let i = there l.images m within in
      let same : pages ≡ movable_pages i.0 = module-pages slots frames l loaded m within ∙ ap (λ (o : Option Image). option_map_or movable_pages o 0) i.1 in
      let asks : draw_of l.images x ≡ (Code, pages) ∷ [] = ap (λ k. (Code, k) ∷ []) (sym (module-pages slots frames l loaded m within)) in
      let frame = m * frames + length owners in
      let fits = frame-fits frames m (length l.images) (length owners) few_frames within loaded.few_modules may.1 in
      let next = part-next s waiting m frame i.0 i.1 fits may.0 h pages same in
      let at : unframed p ≡ unframed (next_place s.drawn Code pages) = ap unframed may.3 in
      let part : IsPartMade frames l (made m p) = record { image = i.0; loaded_as = i.1; part = subst (IsPartOf i.0) (sym may.3) next.1 } in
      let frame_is : p.frame ≡ frame = ap (λ (q : Place). q.frame) may.3 in
      let inside : IsInFrames frames (length l.images) (made m p) = record { is_module = within; frame_from = omega (arith, frame_is); frame_to = omega (arith, frame_is, may.1) } in
      let all : all_made shape s.deeds ++ made m p ∷ [] ≡ all_made shape (s.deeds ++ deeds_of (m * frames) m (Placed owners p)) = sym (made-after shape s.deeds (m * frames) m (Placed owners p)) in
      record {
        drawn = drawn-with slots frames l s waiting h Code pages x n may.0 asks refl at next.0;
        few = few-with slots frames l s waiting h Code pages x n may.0 asks refl at next.0;
        lie = lie-with slots frames l s waiting h Code pages x n may.0 asks refl at next.0;
        numbers = numbers-with slots frames l s waiting h Code pages x n may.0 asks refl at next.0;
        apart = apart-with slots frames l s waiting h Code pages x n may.0 asks refl at next.0;
        fixed_drawn = fixed-with slots frames l s waiting h Code pages x n may.0 asks refl at next.0;
        parts = subst (Each (IsPartMade frames l)) all (each-push (IsPartMade frames l) (all_made shape s.deeds) (made m p) h.parts part);
        frames_are = subst (Each (IsInFrames frames (length l.images))) all (each-push (IsInFrames frames (length l.images)) (all_made shape s.deeds) (made m p) h.frames_are inside);
        lanes = h.lanes;
        silent = maps-append waiting (retired_by line m s.current (Placed owners p)) ∙ (λ j. h.silent j ++ no-retired line m s.current (Placed owners p) j);
      }

  moved : (s : Moving) (waiting : List Deed) (line m : ℕ) (o : Outcome) → 1 ≤ line → m < length l.images
      → MayCome (shape_for slots frames l) m s.drawn (all_made (shape_for slots frames l) s.deeds) o → HasPlaces slots frames l s waiting
      → HasPlaces slots frames l (with_outcome (shape_for slots frames l) line m o s) (waiting ++ retired_by line m s.current o)
  moved s waiting line m NoNumber some within may h = unmoved s waiting [] line m NoNumber (record { line = line; kind = Code; who = m; end = ends.Spent }) refl refl refl refl h
  moved s waiting line m (AllOwned owners last) some within may h = unmoved s waiting [] line m (AllOwned owners last) (record { line = line; kind = Code; who = m; end = ends.Busy last }) refl refl refl refl h
  moved s waiting line m (Placed owners p) some within may h = placed s waiting line m owners p within may h

  ended : (s : Moving) (waiting : List Deed) (numbers : List ℕ) → HasPlaces slots frames l s waiting → HasPlaces slots frames l (with_end s waiting numbers) []
  ended s waiting numbers h =
      let same = sym (made-ended (shape_for slots frames l) s.deeds waiting numbers h.silent) in
      record {
        drawn = h.drawn;
        few = h.few;
        lie = h.lie;
        numbers = h.numbers;
        apart = h.apart;
        fixed_drawn = h.fixed_drawn;
        parts = subst (Each (IsPartMade frames l)) same h.parts;
        frames_are = subst (Each (IsInFrames frames (length l.images))) same h.frames_are;
        lanes = h.lanes;
        silent = refl;
      }

  -- ---- a stack line

  given-by : (s : Moving) (line worker : ℕ) (b : Bool) → nat_lt (length s.drawn.places) MAPPINGS ≡ b → HasPlaces slots frames l s []
      → HasPlaces slots frames l (with_given line worker s (cond b (ends.Made (next_place s.drawn Stack STACK_PAGES)) ends.Spent)) []
  given-by s line worker false is h =
      let x : Moved = record { line = line; kind = Stack; who = worker; end = ends.Spent } in
      record {
        drawn = drawn-same slots frames l s [] h x refl refl;
        few = h.few;
        lie = lie-same slots frames l s [] h x refl refl;
        numbers = h.numbers;
        apart = h.apart;
        fixed_drawn = h.fixed_drawn;
        parts = h.parts;
        frames_are = h.frames_are;
        lanes = subst (λ gs. Each (λ (g : Given). IsStackPlace g.place) (all_given (lane_places l) gs)) (sym (append-nil s.refreshes)) h.lanes;
        silent = refl;
      }
  given-by s line worker true is h =
      let p = next_place s.drawn Stack STACK_PAGES in
      let x : Moved = record { line = line; kind = Stack; who = worker; end = ends.Made p } in
      let n : Mapping = record { kind = Stack; who = worker; place = p; line = line } in
      let g : Given = record { lane = worker; place = p; line = line } in
      let less = ltb-true (length s.drawn.places) MAPPINGS is in
      let next = next_place_is s.drawn Stack STACK_PAGES less (lit≤ tt) (lit≤ tt) in
      let stack : IsStackPlace p = record { place = next.place; size = next.pages; for_stacks = next.region_from } in
      record {
        drawn = drawn-with slots frames l s [] h Stack STACK_PAGES x n less refl refl refl next;
        few = few-with slots frames l s [] h Stack STACK_PAGES x n less refl refl refl next;
        lie = lie-with slots frames l s [] h Stack STACK_PAGES x n less refl refl refl next;
        numbers = numbers-with slots frames l s [] h Stack STACK_PAGES x n less refl refl refl next;
        apart = apart-with slots frames l s [] h Stack STACK_PAGES x n less refl refl refl next;
        fixed_drawn = fixed-with slots frames l s [] h Stack STACK_PAGES x n less refl refl refl next;
        parts = h.parts;
        frames_are = h.frames_are;
        lanes = subst (Each (λ (y : Given). IsStackPlace y.place)) (append_assoc (given_from 0 (lane_places l)) s.refreshes (g ∷ []))
            (each-push (λ (y : Given). IsStackPlace y.place) (all_given (lane_places l) s.refreshes) g h.lanes stack);
        silent = refl;
      }

  given : (s : Moving) (line worker : ℕ) → 1 ≤ line → worker < l.workers → HasPlaces slots frames l s [] → HasPlaces slots frames l (with_stack line worker s) []
  given s line worker some within h = given-by s line worker (nat_lt (length s.drawn.places) MAPPINGS) refl h

  pub places-kept : IsKept (shape_for slots frames l) (length l.images) l.workers (HasPlaces slots frames l)
  places-kept = record { moved = moved; ended = ended; given = given }

  -- ---- before the first line

  opened-parts : Each (IsPartMade frames l) (all_made (shape_for slots frames l) [])
  unfolding opening_run
  opened-parts =
      let ps = places_of_kind Code (drawn_mappings l) in
      let placed_at = opening-placed l.seed l.workers l.images loaded in
      subst (Each (IsPartMade frames l)) (sym (append-nil _))
      (opening-each slots frames l loaded (IsPartMade frames l)
      (λ m i p found at.
      let is = all-read (IsPlacedModule (opening_drawn l.seed l.workers l.images).places) (opening_modules l.images ps) m (opening_module (i, p)) placed_at.modules_are
      (read-map opening_module _ m (i, p) (read-zip l.images ps m i p found at)) in
      let fits = frame-fits frames m (length l.images) 0 few_frames (slice_get_within l.images m i found) loaded.few_modules (omega (arith, some_frame)) in
      record { image = i; loaded_as = found; part = part-framed i p (m * frames) (omega (arith, fits)) is.movable }))

  given-each : (n : ℕ) (ps : List Place) → Each IsStackPlace ps → Each (λ (g : Given). IsStackPlace g.place) (given_from n ps)
  given-each n [] h k g e = absurd cc
  given-each n (p ∷ ps) h zero g e =
      let first : Given = record { lane = n; place = p; line = 0 } in
      let same : first ≡ g = cc in
      subst (λ (y : Given). IsStackPlace y.place) same (h 0 p refl)
  given-each n (p ∷ ps) h (suc k) g e = given-each (n + 1) ps (λ j q f. h (suc j) q f) k g e

  opened-lanes : Each (λ (g : Given). IsStackPlace g.place) (all_given (lane_places l) [])
  unfolding opening_run
  opened-lanes =
      subst (Each (λ (g : Given). IsStackPlace g.place)) (sym (append-nil (given_from 0 (lane_places l))))
      (given-each 0 (lane_places l) (each-all IsStackPlace (lane_places l) (opening-placed l.seed l.workers l.images loaded).stacks_are))

  pub places-open : HasPlaces slots frames l (new_moving l (shape_for slots frames l)) []
  unfolding opening_drawn
  places-open =
      let ms = opening_in_frames frames l in
      record {
        drawn = ap (drawn_from (no_places l)) (sym (append-nil (map drawn_for (opening_requests l.workers l.images))));
        few = omega (arith, length-drawn l.seed l.workers l.images loaded, loaded.few_workers, loaded.few_modules);
        lie = ap (map (λ (m : Mapping). unframed m.place)) (append-nil ms) ∙ opening-places slots frames l loaded;
        numbers = numbered l.seed l.workers l.images loaded;
        apart = regions-apart l.seed l.workers l.images loaded;
        fixed_drawn = λ n i found. let is = fixed-for l.seed l.workers l.images loaded n i found in contains-read (opening_drawn l.seed l.workers l.images).places is.at i.fixed is.there;
        parts = opened-parts;
        frames_are = subst (Each (IsInFrames frames (length l.images))) (sym (append-nil _)) (opening-frames slots frames l loaded some_frame);
        lanes = opened-lanes;
        silent = refl;
      }
