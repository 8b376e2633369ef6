-- A move is busy only where each frame of its module has been taken: there were as many mappings of the module before as it has
-- frames.
use Rattle.std.proofs.Common.{◌≡◌, inl, inr, ℕ, zero, suc, ◌+◌, ◌*◌, ◌<◌, ◌≤◌, Bool, true, false, cond, eqb, ◌&&◌, ◌||◌, List, [], ◌∷◌, ◌++◌, length, map, refl, sym, ap, subst, ◌∙◌, append_assoc, append-nil, length-append, eq-eqb, mul-le-mul, add-mul, one-mul, arith}
use Rattle.std.specs.Prelude.{nat_lt, ◌==◌}
use Rattle.std.specs.List.{Contains}
use Rattle.std.specs.Set.{is_member}
use Rattle.std.proofs.lemmas.Bool.{cases_lt}
use Rattle.std.proofs.lemmas.List.{length-map}
use Rattle.ad_base.specs.declared.layout.TheConstants.{MAPPINGS, STACK_PAGES}
use Rattle.ad_base.specs.declared.ledger.Kind.TheVariants.{Code, Stack}
use Rattle.ad_base.specs.declared.ledger.MoveEnd.TheVariants as ends
use Rattle.ad_base.specs.declared.ledger.Moved.{Moved}
use Rattle.ad_base.specs.declared.place.Place.{Place}
use Rattle.ad_base.specs.Ledger.{Mapping, is_same_kind, made_mapping, made_mappings}
use Rattle.ad_lines.specs.Sound.{Lines}
use Rattle.ad_maps.specs.declared.view.Deed.{Deed}
use Rattle.ad_maps.specs.declared.view.Made.{Made}
use Rattle.ad_maps.specs.Ledger.{all_made, AreLastIn}
use Rattle.ad_maps.proofs.Elements.{cons-cases, filter-from, filter-to, none-in}
use Rattle.ad_mover.specs.Moves.{AllOwned, MayCome, Moving, NoNumber, Outcome, Placed, end_of}
use Rattle.ad_place.specs.Choice.{next_place}
use Rattle.ad_place.proofs.FirstFound.{length-le_from_injective}
use Rattle.ad_run.specs.Beside.{AreBusyFull, of_module}
use Rattle.ad_run.specs.Opened.{new_moving, opening_in_frames, shape_for}
use Rattle.ad_run.proofs.AllRows.{IsMoverRun, script-is}
use Rattle.ad_run.proofs.Framed.{IsInFrames, code_made, of_mapping_kind}
use Rattle.ad_run.proofs.KeptMappings.{HasMappings, mappings-kept, mappings-open}
use Rattle.ad_run.proofs.KeptPlaces.{HasPlaces, places-kept, places-open}
use Rattle.ad_run.proofs.KeptRows.{mappings_of, with_given}
use Rattle.ad_run.proofs.MoverSteps.{IsKept, keeps-steps}
use Rattle.ad_run.proofs.Ordered.{each-member, map-from, map-to}
use Rattle.ad_script.specs.declared.script.Step.{Step}

busy-push : (frames : ℕ) (before : List Mapping) (xs : List Moved) (x : Moved) → AreBusyFull frames before xs → ((owner : ℕ) → x.end ≡ ends.Busy owner → frames ≤ length (of_module x.who (before ++ made_mappings xs))) → AreBusyFull frames before (xs ++ x ∷ [])
busy-push frames before [] x h is = (subst (λ ms. (owner : ℕ) → x.end ≡ ends.Busy owner → frames ≤ length (of_module x.who ms)) (append-nil before) is, tt)
busy-push frames before (y ∷ ys) x h is =
    (h.0, busy-push frames (before ++ made_mapping y) ys x h.1 (subst (λ ms. (owner : ℕ) → x.end ≡ ends.Busy owner → frames ≤ length (of_module x.who ms)) (sym (append_assoc before (made_mapping y) (made_mappings ys))) is))

-- ---- owners of frames

-- each frame from a first one on has an owner, which is a mapping that was made
owner-at : (gs : List Made) (first : ℕ) (os : List ℕ) (k : ℕ) → AreLastIn gs first os → k < length os → (g : Made) × Contains gs g × (g.place.frame ≡ first + k)
owner-at gs first [] k h within = absurd (omega (arith, within))
owner-at gs first (o ∷ os) zero h within = (h.0.mapping, h.0.listed, h.0.in_frame ∙ omega arith)
owner-at gs first (o ∷ os) (suc k) h within =
    let rest = owner-at gs (first + 1) os k h.1 (omega (arith, within)) in
    (rest.0, rest.1, rest.2 ∙ omega arith)

-- a frame is one of one module's
one-module : (frames a b x : ℕ) → a * frames ≤ x → x < a * frames + frames → b * frames ≤ x → x < b * frames + frames → a ≡ b
one-module frames a b x from to low high = elim (cases_lt a b) [
  | inl less ↦
      let up : (a + 1) * frames ≤ b * frames = mul-le-mul {n₁ = a + 1} {m₁ = frames} {n₂ = b} {m₂ = frames} (omega (arith, less)) (omega arith) in
      let one : (a + 1) * frames ≡ a * frames + frames = add-mul a 1 frames ∙ ap (λ n. a * frames + n) (one-mul frames) in
      absurd (omega (arith, up, one, to, low))
  | inr other ↦ elim (cases_lt b a) [
    | inl less ↦
        let up : (b + 1) * frames ≤ a * frames = mul-le-mul {n₁ = b + 1} {m₁ = frames} {n₂ = a} {m₂ = frames} (omega (arith, less)) (omega arith) in
        let one : (b + 1) * frames ≡ b * frames + frames = add-mul b 1 frames ∙ ap (λ n. b * frames + n) (one-mul frames) in
        absurd (omega (arith, up, one, from, high))
    | inr both ↦ omega (arith, other, both)
  ]
]

or-true : (b : Bool) → (b || true) ≡ true
or-true true = refl
or-true false = refl

is-member : (xs : List ℕ) (x : ℕ) → Contains xs x → is_member eqb xs x ≡ true
is-member [] x c = absurd (none-in x c)
is-member (y ∷ ys) x c = elim (cons-cases y ys x c) [
  | inl same ↦ ap (λ (b : Bool). b || is_member eqb ys x) (eq-eqb x y (sym same))
  | inr there ↦ ap (λ (b : Bool). eqb x y || b) (is-member ys x there) ∙ or-true (eqb x y)
]

module _ (slots frames : ℕ) (l : Lines) where
  -- where each frame of a module is owned, so many mappings of it were made
  pub all-owned : (s : Moving) (waiting : List Deed) (m : ℕ) (owners : List ℕ) (last : ℕ) → HasMappings slots frames l s waiting → HasPlaces slots frames l s waiting
      → MayCome (shape_for slots frames l) m s.drawn (all_made (shape_for slots frames l) s.deeds) (AllOwned owners last) → frames ≤ length (of_module m (mappings_of frames l s.moves))
  all-owned s waiting m owners last h p may =
      let gs = all_made (shape_for slots frames l) s.deeds in
      let all = mappings_of frames l s.moves in
      let test = λ (x : Mapping). is_same_kind Code x.kind && (x.who == m) in
      let mine = of_module m all in
      let at : ℕ → ℕ = λ k. m * frames + k in
      let many : length (owners ++ last ∷ []) ≡ frames = length-append owners (last ∷ []) ∙ may.1 in
      let has : (k : ℕ) → k < frames → Contains (map (λ (x : Mapping). x.place.frame) mine) (at k) = λ k within.
      let g = owner-at gs (m * frames) (owners ++ last ∷ []) k may.2 (omega (arith, within, many)) in
      let inside = each-member (IsInFrames frames (length l.images)) gs g.0 p.frames_are g.1 in
      let is_mine : g.0.of_module ≡ m = one-module frames g.0.of_module m g.0.place.frame inside.frame_from inside.frame_to (omega (arith, g.2)) (omega (arith, g.2, within)) in
      let x = map-from code_made (of_mapping_kind Code all) g.0 (subst (λ ys. Contains ys g.0) (sym h.codes) g.1) in
      let from = filter-from (λ (y : Mapping). is_same_kind Code y.kind) all x.0 x.1 in
      let who : x.0.who ≡ m = ap (λ (y : Made). y.of_module) x.2 ∙ is_mine in
      let passes : test x.0 ≡ true = (λ j. from.1 j && eq-eqb x.0.who m who j) in
      let frame : x.0.place.frame ≡ at k = ap (λ (y : Made). y.place.frame) x.2 ∙ g.2 in
      subst (Contains (map (λ (y : Mapping). y.place.frame) mine)) frame (map-to (λ (y : Mapping). y.place.frame) mine x.0 (filter-to test all x.0 from.0 passes)) in
      let least = length-le_from_injective at frames (map (λ (x : Mapping). x.place.frame) mine) (λ i j less within e. absurd (omega (arith, less, e))) (λ k within. is-member (map (λ (x : Mapping). x.place.frame) mine) (at k) (has k within)) in
      omega (arith, least, length-map mine (λ (x : Mapping). x.place.frame))

  -- what is kept
  pub record HasBusyFull (s : Moving) (waiting : List Deed) : Type 0 where
    pub mappings : HasMappings slots frames l s waiting
    pub places : HasPlaces slots frames l s waiting
    pub full : AreBusyFull frames (opening_in_frames frames l) s.moves

  not-busy : (p : Place) (owner : ℕ) → ends.Made p ≡ ends.Busy owner → ⊥
  not-busy p owner e = cc

  not-spent : (owner : ℕ) → ends.Spent ≡ ends.Busy owner → ⊥
  not-spent owner e = cc

  full-by : (s : Moving) (waiting : List Deed) (m : ℕ) (o : Outcome) (owner : ℕ) → HasBusyFull s waiting → MayCome (shape_for slots frames l) m s.drawn (all_made (shape_for slots frames l) s.deeds) o → end_of o ≡ ends.Busy owner
      → frames ≤ length (of_module m (mappings_of frames l s.moves))
  full-by s waiting m NoNumber owner h may e = absurd (not-spent owner e)
  full-by s waiting m (AllOwned owners last) owner h may e = all-owned s waiting m owners last h.mappings h.places may
  full-by s waiting m (Placed owners p) owner h may e = absurd (not-busy p owner e)

  given-full : (s : Moving) (line worker : ℕ) (b : Bool) → HasBusyFull s []
      → AreBusyFull frames (opening_in_frames frames l) (with_given line worker s (cond b (ends.Made (next_place s.drawn Stack STACK_PAGES)) ends.Spent)).moves
  given-full s line worker true h =
      busy-push frames (opening_in_frames frames l) s.moves (record { line = line; kind = Stack; who = worker; end = ends.Made (next_place s.drawn Stack STACK_PAGES) }) h.full (λ owner e. absurd (not-busy (next_place s.drawn Stack STACK_PAGES) owner e))
  given-full s line worker false h = busy-push frames (opening_in_frames frames l) s.moves (record { line = line; kind = Stack; who = worker; end = ends.Spent }) h.full (λ owner e. absurd (not-spent owner e))

  full-kept : IsKept (shape_for slots frames l) (length l.images) l.workers (HasMappings slots frames l) → IsKept (shape_for slots frames l) (length l.images) l.workers (HasPlaces slots frames l)
      → IsKept (shape_for slots frames l) (length l.images) l.workers HasBusyFull
  full-kept a b = record {
    moved = λ s waiting line m o some within may h. record {
      mappings = a.moved s waiting line m o some within may h.mappings;
      places = b.moved s waiting line m o some within may h.places;
      full = busy-push frames (opening_in_frames frames l) s.moves (record { line = line; kind = Code; who = m; end = end_of o }) h.full (λ owner e. full-by s waiting m o owner h may e);
    };
    ended = λ s waiting numbers h. record { mappings = a.ended s waiting numbers h.mappings; places = b.ended s waiting numbers h.places; full = h.full };
    given = λ s line worker some within h. record {
      mappings = a.given s line worker some within h.mappings;
      places = b.given s line worker some within h.places;
      full = given-full s line worker (nat_lt (length s.drawn.places) MAPPINGS) h;
    };
  }

  pub busy-full : (script : List Step) (last : Moving) → IsMoverRun slots frames l script last → AreBusyFull frames (opening_in_frames frames l) last.moves
  busy-full script last run =
      (keeps-steps (shape_for slots frames l) (length l.images) l.workers HasBusyFull (full-kept (mappings-kept slots frames l) (places-kept slots frames l run.loaded run.some_frame run.few_frames)) script
      (new_moving l (shape_for slots frames l)) last (script-is slots frames l script last run).movable run.made
      (record { mappings = mappings-open slots frames l run.loaded; places = places-open slots frames l run.loaded run.some_frame run.few_frames; full = tt })).full
