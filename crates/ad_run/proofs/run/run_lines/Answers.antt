use Rattle.std.proofs.Common.{◌≡◌, ℕ, List, length, map, sym, ap, subst, arith}
use Rattle.std.specs.List.{All, sum_by}
use Rattle.ad_base.specs.Book.{contents_of}
use Rattle.ad_lines.specs.Room as room
use Rattle.ad_lines.specs.Sound.{Lines}
use Rattle.ad_mover.specs.Moves.{MakesSteps}
use Rattle.ad_mover.specs.Seen as mover
use Rattle.ad_mover.specs.Seen.{MayBeMade, moving}
use Rattle.ad_run.specs.declared.close.RunEnd.{RunEnd}
use Rattle.ad_run.specs.Beside.{IsRunBeside}
use Rattle.ad_run.specs.Ended.{HasEnded}
use Rattle.ad_run.specs.Opened.{new_moving, HasRoomFor}
use Rattle.ad_run.proofs.Ending.{HaveWorked, all-workers, count-all, few-steps, if-ok, made-calls, may-all, same-moves}
use Rattle.ad_run.proofs.ScriptSteps.{ready-script}
use Rattle.ad_script.specs.declared.script.Step.{Step}
use Rattle.ad_run.proofs.run.run_lines.Goals as goal

pub open-requires-clause-lines : goal.open-requires-clause-lines
open-requires-clause-lines g c =
    let script = c.args.script.now in
    let steps = c.args.steps.now in
    let ready = ready-script c.args.images.items c.args.workers script steps c.requires.ready c.requires.steps.runnable c.requires.steps.from_one in
    few-steps c.args.images.items c.args.workers script steps ready c.requires.steps c.requires.few_lines

pub run_beside-jobs-requires-clause-done : goal.run_beside-jobs-requires-clause-done
run_beside-jobs-requires-clause-done g c =
    let script = c.args.script.now in
    let steps = c.args.steps.now in
    let new = c.in_ok-shared.ensures.mover in
    let ready = ready-script c.args.images.items c.args.workers script steps c.requires.ready c.requires.steps.runnable c.requires.steps.from_one in
    let same : sum_by mover.moves_of script ≡ sum_by room.moves_of steps = same-moves c.args.images.items c.args.workers script steps ready in
    let none : length c.in_ok-shared.field-0.mover.done.items ≡ 0 = ap (λ s. length s.moves) new.seen in
    omega (arith, none, same, new.done)

pub run_beside-jobs-requires-clause-steps : goal.run_beside-jobs-requires-clause-steps
run_beside-jobs-requires-clause-steps g c κs within =
    let script = c.args.script.now in
    let opened = c.in_ok-shared.ensures.opened in
    let lanes = c.in_ok-shared.ensures.mover.lanes in
    let ready = ready-script c.args.images.items c.args.workers script c.args.steps.now c.requires.ready c.requires.steps.runnable c.requires.steps.from_one in
    let may : All (MayBeMade (length c.args.images.items) c.args.workers) script = may-all (length c.args.images.items) c.args.workers script ready.movable c.requires.few_lines in
    subst (λ n. All (MayBeMade n c.in_ok-shared.field-0.mover.stack_mover.lanes) script) (sym (ap length opened.images))
    (subst (λ w. All (MayBeMade (length c.args.images.items) w) script) (sym lanes) may)

pub close-requires-clause-workers : goal.close-requires-clause-workers
close-requires-clause-workers g c =
    let l : Lines = record { seed = c.args.placer.seed; workers = c.args.workers; images = c.args.images.items; fuel = c.args.fuel; steps = c.args.steps.now } in
    let before = c.in_ok-shared.field-0.jobs.items in
    let after = c.run_beside-jobs.result.0.items in
    let shared = c.in_ok-shared.field-0.shared in
    let worked : HaveWorked shared before after = record { count = c.run_beside-jobs.ensures.count; each = c.run_beside-jobs.ensures.worked } in
    all-workers c.args.sizes.slots c.args.sizes.frames l shared before after c.in_ok-shared.ensures.opened c.requires.loaded c.in_ok-shared.ensures.jobs worked

pub close-requires-clause-room : goal.close-requires-clause-room
close-requires-clause-room g c =
    let l : Lines = record { seed = c.args.placer.seed; workers = c.args.workers; images = c.args.images.items; fuel = c.args.fuel; steps = c.args.steps.now } in
    let before = c.in_ok-shared.field-0.jobs.items in
    let after = c.run_beside-jobs.result.0.items in
    let shared = c.in_ok-shared.field-0.shared in
    let worked : HaveWorked shared before after = record { count = c.run_beside-jobs.ensures.count; each = c.run_beside-jobs.ensures.worked } in
    subst (λ n. HasRoomFor n c.in_ok-shared.field-0.lists) (sym (count-all c.args.sizes.slots c.args.sizes.frames l shared before after c.in_ok-shared.ensures.opened c.requires.loaded c.in_ok-shared.ensures.jobs worked))
    c.in_ok-shared.ensures.lists

pub returns : goal.returns
returns g c =
    let slots = c.args.sizes.slots in
    let frames = c.args.sizes.frames in
    let script = c.args.script.now in
    let l : Lines = record { seed = c.args.placer.seed; workers = c.args.workers; images = c.args.images.items; fuel = c.args.fuel; steps = c.args.steps.now } in
    let opened = c.in_ok-shared.ensures.opened in
    let new = c.in_ok-shared.ensures.mover in
    let before = c.in_ok-shared.field-0.jobs.items in
    let after = c.run_beside-jobs.result.0.items in
    let last = c.run_beside-jobs.result.1 in
    let shared = c.in_ok-shared.field-0.shared in
    let worked : HaveWorked shared before after = record { count = c.run_beside-jobs.ensures.count; each = c.run_beside-jobs.ensures.worked } in
    let moved = subst (λ from. MakesSteps shared.maps.shape script from (moving last)) new.seen c.run_beside-jobs.ensures.moved in
    let ended : HasEnded slots frames l script shared after last = record {
      to_run = record {
        loaded = c.requires.loaded;
        steps_are = c.requires.steps;
        ready = c.requires.ready;
        some_frame = omega (arith, c.requires.some_frames);
        few_frames = c.requires.few_frames;
      };
      opened = opened;
      calls = made-calls slots frames l shared before after opened c.requires.loaded c.in_ok-shared.ensures.jobs worked;
      made = subst (λ shape. MakesSteps shape script (new_moving l shape) (moving last)) opened.shape moved;
    } in
    if-ok c.close.result
    (λ (ran : RunEnd). (slots frames : ℕ) (l : Lines) (script : List Step) → HasEnded slots frames l script shared after last
    → IsRunBeside slots frames l script (record { books = map contents_of ran.books.items; moves = ran.moves.items; rows = ran.rows.items }) ran.closed)
    (λ (ran : RunEnd). IsRunBeside slots frames l script (record { books = map contents_of ran.books.items; moves = ran.moves.items; rows = ran.rows.items }) ran.closed)
    (λ ran h. h slots frames l script ended) c.close.ensures
