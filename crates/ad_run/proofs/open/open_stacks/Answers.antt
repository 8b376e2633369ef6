use Rattle.std.proofs.Common.{◌≡◌, ◌≢◌, ◌≤◌, List, [], ◌∙◌, ap, length, subst, sym, arith}
use Rattle.std.specs.List.{All, AllPairs}
use Rattle.std.specs.Result.{IfOk}
use Rattle.ad_base.specs.declared.layout.TheConstants.{MAPPINGS}
use Rattle.ad_base.specs.declared.ledger.Kind.TheVariants.{Stack}
use Rattle.ad_base.specs.declared.place.Place.{Place}
use Rattle.ad_lines.specs.Sound.{Lines}
use Rattle.ad_lines.proofs.Opens.{stacks-count}
use Rattle.ad_run.proofs.OpeningTables.{drawn-places, few-places, stacks-differ, stacks-lie}
use Rattle.ad_stacks.specs.Seen as stacks
use Rattle.ad_stacks.specs.StackPlace.{IsStackPlace}
use Rattle.ad_run.proofs.open.open_stacks.Goals as goal

pub opening_places-requires : goal.opening_places-requires
opening_places-requires c =
    let few = few-places c.args.placer.now.seed c.args.workers c.args.images.now c.requires.loaded c.args.placer.now c.requires.drawn in
    subst (λ (ps : List Place). length ps ≤ MAPPINGS) (sym c.places.ensures) few

pub open-requires-clause-lanes : goal.open-requires-clause-lanes
open-requires-clause-lanes c =
    let l : Lines = record { seed = c.args.placer.now.seed; workers = c.args.workers; images = c.args.images.now; fuel = 0; steps = [] } in
    let found = drawn-places Stack l c.args.placer.now c.requires.drawn c.places.result.now c.in_ok-places.places.items c.deref.result.now c.deref.ensures.value c.in_ok-places.ensures c.places.ensures in
    omega (arith, ap length found, stacks-count l.seed l.workers l.images c.requires.loaded, c.requires.loaded.few_workers)

pub open-requires-clause-places : goal.open-requires-clause-places
open-requires-clause-places c =
    let l : Lines = record { seed = c.args.placer.now.seed; workers = c.args.workers; images = c.args.images.now; fuel = 0; steps = [] } in
    let found = drawn-places Stack l c.args.placer.now c.requires.drawn c.places.result.now c.in_ok-places.places.items c.deref.result.now c.deref.ensures.value c.in_ok-places.ensures c.places.ensures in
    subst (All IsStackPlace) (sym found) (stacks-lie l c.requires.loaded)

pub open-requires-clause-numbers : goal.open-requires-clause-numbers
open-requires-clause-numbers c =
    let l : Lines = record { seed = c.args.placer.now.seed; workers = c.args.workers; images = c.args.images.now; fuel = 0; steps = [] } in
    let found = drawn-places Stack l c.args.placer.now c.requires.drawn c.places.result.now c.in_ok-places.places.items c.deref.result.now c.deref.ensures.value c.in_ok-places.ensures c.places.ensures in
    subst (AllPairs (λ (p q : Place). p.mapping ≢ q.mapping)) (sym found) (stacks-differ l c.requires.loaded)

pub returns-clause-mover_lanes : goal.returns-clause-mover_lanes
returns-clause-mover_lanes c =
    let l : Lines = record { seed = c.args.placer.now.seed; workers = c.args.workers; images = c.args.images.now; fuel = 0; steps = [] } in
    let found = drawn-places Stack l c.args.placer.now c.requires.drawn c.places.result.now c.in_ok-places.places.items c.deref.result.now c.deref.ensures.value c.in_ok-places.ensures c.places.ensures in
    subst (λ n. IfOk c.open.result (λ opened. opened.1.lanes ≡ n)) (ap length found ∙ stacks-count l.seed l.workers l.images c.requires.loaded) c.open.ensures.mover_lanes

pub returns-clause-seats : goal.returns-clause-seats
returns-clause-seats c =
    let l : Lines = record { seed = c.args.placer.now.seed; workers = c.args.workers; images = c.args.images.now; fuel = 0; steps = [] } in
    let found = drawn-places Stack l c.args.placer.now c.requires.drawn c.places.result.now c.in_ok-places.places.items c.deref.result.now c.deref.ensures.value c.in_ok-places.ensures c.places.ensures in
    subst (λ n. IfOk c.open.result (λ opened. stacks.AreNew opened.0.table n opened.2.items)) (ap length found ∙ stacks-count l.seed l.workers l.images c.requires.loaded) c.open.ensures.seats
