use Rattle.std.proofs.Common.{◌≡◌, ◌++◌, ◌∙◌, length, map, refl, sym, ap, subst}
use Rattle.ad_maps.specs.Ledger.{all_made}
use Rattle.ad_maps.specs.Rows.{AreAllSeats, AreRowsOf, HaveReadRows, HaveRowOfEach, HaveUnmappedRows, HaveUnmapsTold}
use Rattle.ad_mover.specs.Seen.{moving}
use Rattle.ad_run.specs.Rows.{fixed_rows, AreMerged}
use Rattle.ad_run.proofs.AllRows.{AreClosedRows, IsMoverRun}
use Rattle.ad_run.proofs.Closing.{all-have, hands-are, map-seats, stack-seats, turn-seats}
use Rattle.ad_run.proofs.Ran.{HasRun}
use Rattle.ad_run.proofs.Whole.{AreClosedSeats, run-beside}
use Rattle.ad_stacks.specs.Ledger.{AreAll, AreRows, HaveRows}
use Rattle.ad_turns.specs.Merged.{AreReached}
use Rattle.ad_turns.specs.Seen as turns
use Rattle.ad_wrapper.specs.declared.hands.Hands.{Hands}
use Rattle.ad_run.proofs.close.close.Goals as goal

pub seats_of-seats-requires-clause-hands : goal.seats_of-seats-requires-clause-hands
seats_of-seats-requires-clause-hands c = all-have c.args.jobs.items c.requires.workers.hands c.requires.workers.have

pub close-requires-clause-seats : goal.close-requires-clause-seats
close-requires-clause-seats c =
    let w = c.requires.workers in
    let same = c.seats_of-seats.ensures.seats ∙ ap (map (λ (h : Hands). h.seat)) (hands-are c.args.jobs.items w.hands w.have) in
    subst (AreAllSeats c.args.shared.maps.table c.args.shared.maps.shape.workers) (sym same) (map-seats c.args.shared c.args.jobs.items w)

pub close-requires-2-clause-seats : goal.close-requires-2-clause-seats
close-requires-2-clause-seats c =
    let w = c.requires.workers in
    let same = c.seats_of-seats.ensures.stack_seats ∙ ap (map (λ (h : Hands). h.stack_seat)) (hands-are c.args.jobs.items w.hands w.have) in
    subst (AreAll c.args.shared.stacks.table (length c.args.shared.stacks.openings)) (sym same) (stack-seats c.args.shared c.args.jobs.items w)

pub close-requires-3 : goal.close-requires-3
close-requires-3 c =
    let w = c.requires.workers in
    let same = c.seats_of-seats.ensures.turn_seats ∙ ap (map (λ (h : Hands). h.turn_seat)) (hands-are c.args.jobs.items w.hands w.have) in
    record { seats = subst (turns.AreAll c.args.shared.turns.table (length c.args.shared.turns.calls)) (sym same) (turn-seats c.args.shared c.args.jobs.items w) }

pub returns : goal.returns
returns c = λ slots frames l script ended.
    let s = c.args.shared in
    let jobs = c.args.jobs.items in
    let calls = ended.calls in
    let same = hands-are jobs calls.after calls.have in
    let books = c.in_ok-books.books.items in
    let last = moving c.args.mover in
    let seen = c.in_ok-closed.closed in
    let code = seen.rows in
    let stacks = c.in_ok-stack_rows.stack_rows.items in
    let all = c.in_ok-rows.rows.items in
    let map_seats = c.seats_of-seats.ensures.seats ∙ ap (map (λ (h : Hands). h.seat)) same in
    let stack_seats = c.seats_of-seats.ensures.stack_seats ∙ ap (map (λ (h : Hands). h.stack_seat)) same in
    let turn_seats = c.seats_of-seats.ensures.turn_seats ∙ ap (map (λ (h : Hands). h.turn_seat)) same in
    let ran : HasRun slots frames l s calls.before calls.after books = record {
      opened = ended.opened;
      runnable = ended.to_run.steps_are.runnable;
      new = calls.new;
      count = calls.count;
      performed = calls.performed;
      as_many = c.in_ok-books.ensures.count;
      reached = subst (AreReached s.turns.openings books) turn_seats c.in_ok-books.ensures.reached;
    } in
    let run : IsMoverRun slots frames l script last = record {
      loaded = ended.to_run.loaded;
      steps_are = ended.to_run.steps_are;
      ready = ended.to_run.ready;
      some_frame = ended.to_run.some_frame;
      few_frames = ended.to_run.few_frames;
      made = ended.made;
    } in
    let parts : c.rows.result.now ++ c.deref.result.now ++ fixed_rows c.as_slice.result.now ≡ code ++ stacks ++ fixed_rows l.images =
    λ j. c.rows.ensures j ++ c.deref.ensures.value j ++ fixed_rows ((c.as_slice.ensures ∙ ended.opened.images) j) in
    let closed : AreClosedRows slots frames l last code stacks all = record {
      each_made = subst (λ shape. HaveRowOfEach (all_made shape last.deeds) last.deeds code) ended.opened.shape c.in_ok-closed.ensures.each_made;
      each_row = subst (λ shape. AreRowsOf (all_made shape last.deeds) last.deeds code) ended.opened.shape c.in_ok-closed.ensures.each_row;
      code_in_order = c.in_ok-closed.ensures.in_order;
      lanes = subst (λ places. AreRows places last.refreshes stacks) ended.opened.lanes c.in_ok-stack_rows.ensures.rows;
      once = c.in_ok-stack_rows.ensures.unmapped;
      merged = subst (λ xs. AreMerged xs all) parts c.in_ok-rows.ensures;
    } in
    let deeds = ap (λ m. m.deeds) c.in_ok-closed.ensures.mover in
    let seats : AreClosedSeats slots frames l calls.after last code stacks seen = record {
      shape_is = c.in_ok-closed.ensures.shape ∙ ended.opened.shape;
      rows_are = refl;
      deeds_are = deeds;
      seats_are = c.in_ok-closed.ensures.seats ∙ map_seats;
      reads = subst (HaveReadRows code) map_seats c.in_ok-closed.ensures.reads;
      took = subst (HaveRows stacks) stack_seats c.in_ok-stack_rows.ensures.taken;
      unmaps = subst (λ ds. HaveUnmapsTold code ds seen.seats) (sym deeds) (subst (HaveUnmapsTold code last.deeds) (sym c.in_ok-closed.ensures.seats) c.in_ok-closed.ensures.unmaps);
      unmapped = subst (λ ds. HaveUnmappedRows code ds seen.seats) (sym deeds) (subst (HaveUnmappedRows code last.deeds) (sym c.in_ok-closed.ensures.seats) c.in_ok-closed.ensures.unmapped);
    } in
    run-beside slots frames l script s calls.before calls.after books ran last run code stacks all closed seen seats
