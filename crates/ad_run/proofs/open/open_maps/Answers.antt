use Rattle.std.proofs.Common.{◌≤◌, List, [], ◌∙◌, ap, length, map, subst, sym}
use Rattle.std.specs.List.{enumerate_from, zip}
use Rattle.ad_base.specs.declared.layout.TheConstants.{MAPPINGS}
use Rattle.ad_base.specs.declared.ledger.Kind.TheVariants.{Code}
use Rattle.ad_base.specs.declared.place.Place.{Place}
use Rattle.ad_lines.specs.Sound.{Lines}
use Rattle.ad_lines.proofs.Opens.{parts-count}
use Rattle.ad_maps.specs.declared.shape.Opening.{Opening}
use Rattle.ad_maps.specs.MapPlace.{IsShape}
use Rattle.ad_run.specs.Opened.{opening_for}
use Rattle.ad_run.proofs.OpeningTables.{drawn-places, few-places, is-shape}
use Rattle.ad_run.proofs.open.open_maps.Goals as goal

pub opening_places-requires : goal.opening_places-requires
opening_places-requires c =
    let few = few-places c.args.placer.now.seed c.args.workers c.args.images.now c.requires.loaded c.args.placer.now c.requires.drawn in
    subst (λ (ps : List Place). length ps ≤ MAPPINGS) (sym c.places.ensures) few

pub openings_of-requires-clause-each : goal.openings_of-requires-clause-each
openings_of-requires-clause-each c =
    let l : Lines = record { seed = c.args.placer.now.seed; workers = c.args.workers; images = c.args.images.now; fuel = 0; steps = [] } in
    let found = drawn-places Code l c.args.placer.now c.requires.drawn c.places.result.now c.in_ok-parts.parts.items c.deref.result.now c.deref.ensures.value c.in_ok-parts.ensures c.places.ensures in
    sym (ap length found ∙ parts-count l.seed l.workers l.images c.requires.loaded)

pub open-requires : goal.open-requires
open-requires c =
    let l : Lines = record { seed = c.args.placer.now.seed; workers = c.args.workers; images = c.args.images.now; fuel = 0; steps = [] } in
    let found = drawn-places Code l c.args.placer.now c.requires.drawn c.places.result.now c.in_ok-parts.parts.items c.deref.result.now c.deref.ensures.value c.in_ok-parts.ensures c.places.ensures in
    let frames = c.args.sizes.frames in
    let openings = c.deref-2.ensures.value ∙ c.in_ok-openings.ensures ∙ ap (λ (ps : List Place). map (opening_for frames) (zip (enumerate_from 0 l.images) ps)) found in
    subst (λ (os : List Opening). IsShape (record { slots = c.args.sizes.slots; frames = frames; workers = l.workers; modules = os })) (sym openings)
    (is-shape l c.requires.loaded c.args.sizes.slots frames c.requires.some_slot c.requires.few_slots c.requires.some_frames c.requires.few_frames)
