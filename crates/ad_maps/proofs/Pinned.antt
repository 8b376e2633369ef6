-- What a worker that is inside finds: its own mapping's word, frame and cells.
use Rattle.std.proofs.Common.{◌≡◌, ◌≢◌, ◌⊎◌, ⊎_elim, inl, inr, ℕ, ◌+◌, ◌*◌, ◌^◌, List, Some, refl, sym, ap, ◌∙◌, subst, arith}
use mathlib.Core.Option.{some}
use lib.ListN.{get_elem?}
use Rattle.ad_base.specs.declared.place.Place.{Place}
use Rattle.ad_base.specs.Place.{packed, IsPlace}
use Rattle.ad_events.specs.declared.mapping.Status.{Status}
use Rattle.ad_events.specs.declared.mapping.Status.TheVariants.{Fresh, Current, Out, Retired, Gone}
use Rattle.ad_events.specs.declared.mapping.Mapping.{Mapping}
use Rattle.ad_events.specs.World.{mapping_of}
use Rattle.ad_events.proofs.WorldLaws.{none_gone_inside}
use Rattle.std.specs.Option.{option_map}
use Rattle.ad_maps.specs.declared.shape.Shape.{Shape}
use Rattle.ad_maps.specs.declared.view.Act.{Act}
use Rattle.ad_maps.specs.declared.view.Stance.TheVariants as stance
use Rattle.ad_maps.specs.declared.view.Doing.TheVariants.{Worker}
use Rattle.ad_maps.specs.Laws.{OwnPagesLaw, OwnCellsLaw}
use Rattle.ad_maps.specs.MapPlace.{directory_word, IsPlaceOf}
use Rattle.ad_maps.specs.Names.{Directory, Cell}
use Rattle.ad_maps.specs.Rule.{St, Kept, IsAs, IsMapped, WordsSay}
use Rattle.ad_maps.specs.Steps.{hand, made}
use Rattle.ad_maps.proofs.Frames.{worker_knows}
use Rattle.ad_maps.proofs.Machine.{holds_of}
use Rattle.ad_base.proofs.Packing.{packed-some}
use Rattle.ad_maps.proofs.Numbers.{one_place, packed-small, frame-few, region-few}

-- a mapping is Gone, with its one unmap step, or in the directory
pub gone-or : (shape : Shape) (directory owner : ℕ → ℕ) (cell : ℕ → ℕ → ℕ) (m : ℕ) (p : Place) (s : Status) → WordsSay shape directory owner cell m p s
    → ((s ≡ Gone) × (directory p.region ≡ directory_word p 1)) ⊎ ((s ≢ Gone) × IsMapped shape directory owner cell m p)
gone-or shape directory owner cell m p Fresh h = inr ((λ e. let f : ⊥ = cc in f), h)
gone-or shape directory owner cell m p Current h = inr ((λ e. let f : ⊥ = cc in f), h)
gone-or shape directory owner cell m p Out h = inr ((λ e. let f : ⊥ = cc in f), h)
gone-or shape directory owner cell m p Retired h = inr ((λ e. let f : ⊥ = cc in f), h)
gone-or shape directory owner cell m p Gone h = inl (refl, h)

-- a mapping that a worker is inside
pub record InsideKnows (shape : Shape) (s : St) (r : Kept shape s) (m : ℕ) (p : Place) : Type 0 where
  pub placed : r.places p.mapping ≡ p
  pub form : IsPlaceOf shape m p
  pub mapped : IsMapped shape r.words.directory r.words.owner r.words.cell m p

pub inside_knows : (shape : Shape) (s : St) (r : Kept shape s) (id w slot entry m : ℕ) (p : Place) (gives : List Place) (acts : List Act)
    → get_elem? s.views id ≡ some (Worker w (hand slot (stance.Inside entry m p) gives acts)) → InsideKnows shape s r m p
inside_knows shape s r id w slot entry m p gives acts at =
    let k = worker_knows shape s r id w (hand slot (stance.Inside entry m p) gives acts) at in
    let st = k.hand.stance.1.0 in
    let is : IsAs r.state.world.mappings r.places (made m p) st = k.hand.stance.1.1 in
    let not_gone = none_gone_inside r.state.world (holds_of shape r.form r.state r.reached).world w p.mapping k.hand.stance.0 in
    let stands = r.mappings.each p.mapping (mapping_of m st) is.there in
    let words = subst (λ (q : Place). WordsSay shape r.words.directory r.words.owner r.words.cell m q st) is.placed stands.words in record {
      placed = is.placed;
      form = subst (IsPlaceOf shape m) is.placed stands.form;
      mapped = ⊎_elim (λ gone. absurd (not_gone (ap (option_map (λ (x : Mapping). x.status)) is.there ∙ ap (λ (t : Status). Some t) gone.0))) (λ t. t.1) (gone-or shape r.words.directory r.words.owner r.words.cell m p st words);
    }

pub own_pages_law : OwnPagesLaw
own_pages_law shape s r id w slot entry m p gives acts at =
    let k = inside_knows shape s r id w slot entry m p gives acts at in
    (r.reads.1 (Directory p.region) (region-few shape m p k.form) ∙ k.mapped.word, λ v q low apart is e same. another v q apart is (sym (r.reads.1 (Directory v) low) ∙ e) same)
  where
    another : (v : ℕ) (q : Place) → v ≢ p.region → IsPlace q → r.words.directory v ≡ packed q → q.mapping ≡ p.mapping → ⊥
    another v q apart is e same =
        let k = inside_knows shape s r id w slot entry m p gives acts at in
        let there = r.mappings.each_region v (λ z. packed-some q is (sym e ∙ z)) in
        let n = there.0 in
        let stands = r.mappings.each n there.1 there.2 in
        let old : Place = r.places n in
        let word : r.words.directory old.region ≡ packed q = ap r.words.directory there.3 ∙ e in
        ⊎_elim
        (λ gone. let small = packed-small q is in let large : packed q ≡ packed old + 1 * 2 ^ 56 = sym word ∙ gone.1 in omega arith)
        (λ here. apart (
        let one : old ≡ q = one_place old q stands.form.place.place is (sym here.1.word ∙ word) in
        let number : n ≡ p.mapping = sym stands.number ∙ (ap (λ (x : Place). x.mapping) one ∙ same) in
        sym there.3 ∙ ap (λ (x : Place). x.region) (ap r.places number ∙ k.placed)))
        (gone-or shape r.words.directory r.words.owner r.words.cell there.1.module old there.1.status stands.words)

pub own_cells_law : OwnCellsLaw
own_cells_law shape s r id w slot entry m p gives acts e at low =
    let k = inside_knows shape s r id w slot entry m p gives acts at in
    r.reads.1 (Cell p.frame e) (frame-few shape m p r.form k.form, low) ∙ k.mapped.cells e low
