use Rattle.std.proofs.Common.{◌≡◌, List, [], ◌∙◌, Vec, Global, ap, length, map, refl, sym, arith}
use Rattle.std.specs.List.{range_with_len}
use Rattle.std.proofs.lemmas.List.{length-map}
use Rattle.std.proofs.lemmas.List.FromFn.{length-map-range_with_len, length-range_with_len}
use Rattle.std.proofs.lemmas.Simd.{map-map}
use Rattle.ad_base.specs.declared.image.Image.{Image}
use Rattle.ad_base.specs.declared.ledger.Kind.TheVariants.{Stack}
use Rattle.ad_core.specs.Turn.{opening_contents}
use Rattle.ad_lines.specs.Opening.{places_of_kind}
use Rattle.ad_lines.specs.Sound.{Lines}
use Rattle.ad_maps.specs.Seen as maps
use Rattle.ad_mover.specs.Seen.{moving}
use Rattle.ad_run.specs.declared.threads.Job.{Job}
use Rattle.ad_run.specs.Calls.{calls_of_worker}
use Rattle.ad_run.specs.Jobs.{AreNewJobs}
use Rattle.ad_run.specs.Opened.{draws_for, drawn_mappings, new_moving, shape_for}
use Rattle.ad_run.proofs.OpeningFits.{fits-tables}
use Rattle.ad_run.proofs.OpeningJobs.{new-hands, new-ready}
use Rattle.ad_run.proofs.OpeningMover.{new-is-mover}
use Rattle.ad_stacks.specs.Seen as stacks
use Rattle.ad_wrapper.specs.declared.hands.Hands.{Hands}
use Rattle.ad_wrapper.specs.declared.hands.Ready.{Ready}
use Rattle.ad_wrapper.specs.declared.shared.Shared.{Shared}
use Rattle.ad_run.proofs.open.open.Goals as goal

abbrev lines_of : goal.After-of → Lines
lines_of c = record { seed = c.args.placer.seed; workers = c.args.workers; images = c.args.images.items; fuel = c.args.fuel; steps = c.args.steps.now }

abbrev shared_of : goal.After-of → Shared
shared_of c = record { maps = c.in_ok-maps.maps; stacks = c.in_ok-stacks.stacks; turns = c.in_ok-turns.turns; images = c.of.result; fuel = c.args.fuel }

pub open_turns-requires-clause-calls : goal.open_turns-requires-clause-calls
open_turns-requires-clause-calls c =
    ap (map (λ (list : Vec Ready Global). list.items)) c.deref-4.ensures.value
    ∙ c.in_ok-calls.ensures.calls
    ∙ ap (λ n. map (λ w. calls_of_worker w c.args.steps.now) (range_with_len 0 n)) (sym (ap length c.deref-4.ensures.value ∙ c.in_ok-calls.ensures.count))

pub jobs_of-requires : goal.jobs_of-requires
jobs_of-requires c =
    let hands = ap length c.in_ok-hands.ensures.workers ∙ length-range_with_len 0 (length c.in_ok-maps.seats.items) in
    let workers = length-map c.in_ok-hands.hands.items (λ (h : Hands). h.worker) in
    omega (arith, hands, workers, c.in_ok-maps.ensures.seats.count, c.in_ok-calls.ensures.count)

pub hands_of-requires-clause-in_turns : goal.hands_of-requires-clause-in_turns
hands_of-requires-clause-in_turns c =
    c.in_ok-turns.ensures.seats.count ∙ ap length c.in_ok-turns.ensures.calls ∙ length-map-range_with_len _ 0 (length c.deref-4.result.now) ∙ ap length c.deref-4.ensures.value ∙ c.in_ok-calls.ensures.count ∙ sym c.in_ok-maps.ensures.seats.count

images_are : (c : goal.After-of) → (shared_of c).images ≡ (lines_of c).images
images_are c = c.of.ensures

shape_is : (c : goal.After-of) → (shared_of c).maps.shape ≡ shape_for c.args.sizes.slots c.args.sizes.frames (lines_of c)
shape_is c =
    c.in_ok-maps.ensures.shape
    ∙ ap (λ (is : List Image). shape_for c.args.sizes.slots c.args.sizes.frames (record { seed = c.args.placer.seed; workers = c.args.workers; images = is; fuel = 0; steps = [] })) c.deref.ensures.value

lanes_are : (c : goal.After-of) → (shared_of c).stacks.openings ≡ places_of_kind Stack (drawn_mappings (lines_of c))
lanes_are c =
    c.in_ok-stacks.ensures.openings
    ∙ ap (λ (is : List Image). places_of_kind Stack (drawn_mappings (record { seed = c.args.placer.seed; workers = c.args.workers; images = is; fuel = 0; steps = [] }))) c.deref-2.ensures.value

calls_are : (c : goal.After-of) → (shared_of c).turns.calls ≡ map (draws_for (lines_of c)) (range_with_len 0 c.args.workers)
calls_are c =
    c.in_ok-turns.ensures.calls
    ∙ ap (λ (is : List Image). map (draws_for (record { seed = 0; workers = c.args.workers; images = is; fuel = 0; steps = c.args.steps.now })) (range_with_len 0 (length c.deref-4.result.now))) c.deref-3.ensures.value
    ∙ ap (λ n. map (draws_for (lines_of c)) (range_with_len 0 n)) (ap length c.deref-4.ensures.value ∙ c.in_ok-calls.ensures.count)

pub returns-clause-opened : goal.returns-clause-opened
returns-clause-opened c =
    let books = c.in_ok-turns.ensures.books ∙ ap (map opening_contents) c.deref-3.ensures.value in
    record {
      images = images_are c;
      fuel = refl;
      shape = shape_is c;
      lanes = lanes_are c;
      books = books;
      calls = calls_are c;
      fits = fits-tables c.args.sizes.slots c.args.sizes.frames (lines_of c) c.requires.loaded (shared_of c) (images_are c) (shape_is c) books;
    }

jobs_are : (c : goal.After-of) → AreNewJobs (shared_of c) (lines_of c) c.in_ok-jobs.jobs.items
jobs_are c =
    let made = c.in_ok-hands.ensures in
    record {
      hands = c.in_ok-hands.hands.items;
      have = c.in_ok-jobs.ensures.hands;
      new = new-hands (shared_of c) (lines_of c) c.in_ok-maps.seats.items c.in_ok-stacks.stack_seats.items c.in_ok-turns.turn_seats.items c.in_ok-hands.hands.items c.in_ok-maps.ensures.seats
          c.in_ok-stacks.ensures.seats c.in_ok-turns.ensures.seats (calls_are c)
          (record { workers_are = made.workers; seats_are = made.seats; stack_seats_are = made.stack_seats; turn_seats_are = made.turn_seats });
      calls =
          sym (map-map (λ (list : Vec Ready Global). list.items) (λ (j : Job). j.calls) c.in_ok-jobs.jobs.items)
          ∙ ap (map (λ (list : Vec Ready Global). list.items)) c.in_ok-jobs.ensures.calls
          ∙ c.in_ok-calls.ensures.calls;
    }

pub returns-clause-jobs : goal.returns-clause-jobs
returns-clause-jobs c = jobs_are c

pub returns-clause-ready : goal.returns-clause-ready
returns-clause-ready c = new-ready (shared_of c) (lines_of c) c.in_ok-jobs.jobs.items (images_are c) c.requires.steps (jobs_are c)

pub returns-clause-mover : goal.returns-clause-mover
returns-clause-mover c =
    let m = c.in_ok-mover.mover in
    let is = c.in_ok-mover.ensures in
    let l = lines_of c in
    let drawn = is.placer ∙ c.requires.drawn in
    let seat = is.seat ∙ c.in_ok-maps.ensures.mover in
    let deeds = ap (λ (x : maps.MoverSeen). x.deeds) seat in
    let current = ap (λ (x : maps.MoverSeen). x.current) seat in
    let refreshes = ap (λ (x : stacks.MoverSeen). x.refreshes) is.stack_mover ∙ c.in_ok-stacks.ensures.no_refresh in
    let seen : moving m ≡ new_moving l c.in_ok-maps.maps.shape = λ j. record { drawn = drawn j; deeds = deeds j; current = current j; refreshes = refreshes j; moves = is.none_done j } in
    record {
      who = is.who;
      seen = seen;
      of_tables = new-is-mover c.args.sizes.slots c.args.sizes.frames l c.requires.loaded (shared_of c) m (shape_is c) (lanes_are c) seat
          (ap (λ (x : stacks.MoverSeen). x.table) is.stack_mover ∙ c.in_ok-stacks.ensures.mover_table) (seen ∙ ap (new_moving l) (shape_is c));
      lanes = ap (λ (x : stacks.MoverSeen). x.lanes) is.stack_mover ∙ c.in_ok-stacks.ensures.mover_lanes;
      no_outs = is.no_outs;
      outs = is.outs;
      done = is.done;
    }
