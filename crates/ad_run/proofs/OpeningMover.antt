-- A mover that made no move yet has drawn each place that the tables were opened with.
use Rattle.std.proofs.Common.{◌≡◌, ℕ, zero, suc, ◌+◌, ◌≤◌, List, [], ◌∷◌, length, slice_get, Some, refl, sym, ap, subst, ◌∙◌, append-nil, arith}
use Rattle.std.specs.List.{Any, Contains}
use Rattle.std.proofs.lemmas.Option.{slice_get-get_or, slice_get_within}
use Rattle.ad_base.specs.declared.layout.TheConstants.{MAPPINGS}
use Rattle.ad_base.specs.declared.ledger.Kind.TheVariants.{Stack}
use Rattle.ad_base.specs.declared.place.Place.{Place}
use Rattle.ad_lines.specs.Opening.{AreLoaded, opening_drawn, places_of_kind}
use Rattle.ad_lines.specs.Sound.{Lines}
use Rattle.ad_lines.proofs.Elements.{all-reads}
use Rattle.ad_lines.proofs.Kept.{read}
use Rattle.ad_lines.proofs.ListReads.{Each, map-read}
use Rattle.ad_lines.proofs.Opens.{length-drawn, numbered, part-for, stack-for}
use Rattle.ad_maps.specs.declared.shape.Opening.{Opening}
use Rattle.ad_maps.specs.declared.view.Made.{Made}
use Rattle.ad_maps.specs.Ledger.{all_made, opened_from}
use Rattle.ad_maps.specs.MapPlace.{numbers}
use Rattle.ad_maps.specs.Seen as maps
use Rattle.ad_mover.specs.declared.mover.Mover.{Mover}
use Rattle.ad_mover.specs.Seen.{HasDrawn, IsGiven, IsMoverOf, moving}
use Rattle.ad_run.specs.Opened.{drawn_mappings, new_moving, opening_for, shape_for}
use Rattle.ad_run.proofs.Framed.{module-at, opening-each, shape-size}
use Rattle.ad_stacks.specs.declared.view.Given.{Given}
use Rattle.ad_stacks.specs.Ledger.{all_given, given_from}
use Rattle.ad_wrapper.specs.declared.shared.Shared.{Shared}

-- one of a list is one that is read
each-one : {A : Type 0} (P : A → Type 0) (xs : List A) → Each P xs → (x : A) → Contains xs x → P x
each-one P xs h x is = h is.0 x (slice_get-get_or xs is.0 x is.1 ∙ ap Some is.2)

any-read : {A : Type 0} (P : A → Type 0) (xs : List A) (k : ℕ) (x : A) → slice_get xs k ≡ Some x → P x → Any P xs
any-read P xs k x e p = (k, x, slice_get_within xs k x e, read xs k x x e, p)

given-from : (P : Given → Type 0) (n : ℕ) (ps : List Place) → ((k lane : ℕ) (p : Place) → slice_get ps k ≡ Some p → P (record { lane = lane; place = p; line = 0 })) → Each P (given_from n ps)
given-from P n [] h k g e = absurd cc
given-from P n (p ∷ ps) h zero g e =
    let first : Given = record { lane = n; place = p; line = 0 } in
    let same : first ≡ g = cc in
    subst P same (h 0 n p refl)
given-from P n (p ∷ ps) h (suc k) g e = given-from P (n + 1) ps (λ j lane q f. h (suc j) lane q f) k g e

module _ (slots frames : ℕ) (l : Lines) (loaded : AreLoaded l.seed l.workers l.images) where
  abbrev drawn : List Place
  drawn = (opening_drawn l.seed l.workers l.images).places

  drawn-given : (k : ℕ) (p q : Place) → slice_get drawn k ≡ Some p → p.region ≡ q.region → p.mapping ≡ q.mapping → IsGiven drawn q
  drawn-given k p q e region number = any-read (λ (x : Place). (x.region ≡ q.region) × (x.mapping ≡ q.mapping)) drawn k p e (region, number)

  few : length drawn ≤ MAPPINGS
  few = omega (arith, length-drawn l.seed l.workers l.images loaded, loaded.few_workers, loaded.few_modules)

  number-fits : (k : ℕ) (p : Place) → slice_get drawn k ≡ Some p → p.mapping ≤ length drawn
  number-fits k p e = omega (arith, numbered l.seed l.workers l.images loaded k p e, slice_get_within drawn k p e)

  pub has-drawn : HasDrawn (shape_for slots frames l) (places_of_kind Stack (drawn_mappings l)) (new_moving l (shape_for slots frames l))
  has-drawn = record {
    mapped = λ x is.
        each-one (λ (x : Made). IsGiven drawn x.place) (all_made (shape_for slots frames l) [])
        (subst (Each (λ (x : Made). IsGiven drawn x.place)) (sym (append-nil (opened_from 0 (shape_for slots frames l).modules)))
        (opening-each slots frames l loaded (λ (x : Made). IsGiven drawn x.place)
        (λ m i p found at.
        let d = part-for l.seed l.workers l.images loaded m i p found at in
        drawn-given d.at p (opening_for frames ((m, i), p)).place d.there refl refl))) x is;
    given = λ g is.
        each-one (λ (g : Given). IsGiven drawn g.place) (all_given (places_of_kind Stack (drawn_mappings l)) [])
        (subst (Each (λ (g : Given). IsGiven drawn g.place)) (sym (append-nil (given_from 0 (places_of_kind Stack (drawn_mappings l)))))
        (given-from (λ (g : Given). IsGiven drawn g.place) 0 (places_of_kind Stack (drawn_mappings l))
        (λ k lane p e.
        let d = stack-for l.seed l.workers l.images loaded k p e in
        drawn-given d.at p p d.there refl refl))) g is;
    numbered = all-reads (λ (p : Place). p.mapping ≤ length drawn) drawn number-fits;
    current = all-reads (λ (n : ℕ). n ≤ length drawn) (numbers (shape_for slots frames l))
        (λ k n e.
        let o = map-read (λ (o : Opening). o.place.mapping) (shape_for slots frames l).modules k n e in
        let a = module-at slots frames l loaded k (omega (arith, slice_get_within (shape_for slots frames l).modules k o.0 o.1, shape-size slots frames l loaded)) in
        let found : Some o.0 ≡ Some (opening_for frames ((k, a.image), a.place)) = sym o.1 ∙ a.opened in
        let same : o.0 ≡ opening_for frames ((k, a.image), a.place) = cc in
        let number : n ≡ a.place.mapping = sym o.2 ∙ ap (λ (o : Opening). o.place.mapping) same in
        omega (arith, number, number-fits a.drawn_for.at a.place a.drawn_for.there));
    few = few;
  }

  -- the mover of tables that were opened so
  pub new-is-mover : (s : Shared) (m : Mover) → s.maps.shape ≡ shape_for slots frames l → s.stacks.openings ≡ places_of_kind Stack (drawn_mappings l)
      → m.seat ≡ maps.new_mover s.maps.table s.maps.shape → m.stack_mover.table ≡ s.stacks.table → moving m ≡ new_moving l (shape_for slots frames l) → IsMoverOf s m
  new-is-mover s m shaped lanes seat in_stacks seen = record {
    in_maps = ap (λ (x : maps.MoverSeen). x.table) seat;
    in_stacks = in_stacks;
    no_fresh = ap (λ (x : maps.MoverSeen). x.fresh) seat;
    no_out = ap (λ (x : maps.MoverSeen). x.outs) seat;
    at_rest = ap (λ (x : maps.MoverSeen). x.at_rest) seat;
    drawn = subst (λ x. HasDrawn x s.stacks.openings (moving m)) (sym shaped)
        (subst (λ x. HasDrawn (shape_for slots frames l) x (moving m)) (sym lanes)
        (subst (λ x. HasDrawn (shape_for slots frames l) (places_of_kind Stack (drawn_mappings l)) x) (sym seen) has-drawn));
  }
