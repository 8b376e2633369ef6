use Rattle.std.proofs.Common.{◌∙◌, map, sym, subst, arith}
use Rattle.ad_base.specs.Book.{contents_of}
use Rattle.ad_lines.specs.LineLaws.{AreSteps}
use Rattle.ad_lines.specs.Sound.{Outcome}
use Rattle.ad_report.specs.Report.{AreMovesInOrder, report}
use Rattle.ad_run.specs.Ended.{IsToRun}
use Rattle.ad_command.specs.Command.{Job}
use Rattle.ad_command.specs.Ending.{lines_of}
use Rattle.ad_command.proofs.Done.{beside-rises, is-ready, ran-beside}
use Rattle.ad_command.proofs.beside.beside_job.Goals as goal

pub run_lines-requires-clause-steps : goal.run_lines-requires-clause-steps
run_lines-requires-clause-steps g c κs within =
    let j : Job = record { seed = c.args.loaded.placer.seed; fuel = c.args.fuel; script = c.args.script.now; images = c.args.loaded.images.items; steps = c.in_ok-steps.steps.items } in
    let is = is-ready j c.requires.range c.requires.loaded c.requires.each c.deref.ensures.value c.in_ok-steps.ensures.ready in
    subst (AreSteps j.images j.script.workers) (sym c.deref-2.ensures.value) is.can.steps

pub report-requires : goal.report-requires
report-requires g c =
    let j : Job = record { seed = c.args.loaded.placer.seed; fuel = c.args.fuel; script = c.args.script.now; images = c.args.loaded.images.items; steps = c.in_ok-steps.steps.items } in
    let is = is-ready j c.requires.range c.requires.loaded c.requires.each c.deref.ensures.value c.in_ok-steps.ensures.ready in
    let o : Outcome = record { books = map contents_of c.in_ok-ran.ran.books.items; moves = c.in_ok-ran.ran.moves.items; rows = c.in_ok-ran.ran.rows.items } in
    let ran = ran-beside c.args.sizes.slots c.args.sizes.frames j o c.in_ok-ran.ran.closed c.deref-2.ensures.value c.as_slice-lines.ensures c.in_ok-ran.ensures in
    subst AreMovesInOrder (sym c.deref-4.ensures.value) (beside-rises c.args.sizes.slots c.args.sizes.frames j o c.in_ok-ran.ran.closed is.can ran)

pub returns-clause-done : goal.returns-clause-done
returns-clause-done g c =
    let j : Job = record { seed = c.args.loaded.placer.seed; fuel = c.args.fuel; script = c.args.script.now; images = c.args.loaded.images.items; steps = c.in_ok-steps.steps.items } in
    let is = is-ready j c.requires.range c.requires.loaded c.requires.each c.deref.ensures.value c.in_ok-steps.ensures.ready in
    let o : Outcome = record { books = map contents_of c.in_ok-ran.ran.books.items; moves = c.in_ok-ran.ran.moves.items; rows = c.in_ok-ran.ran.rows.items } in
    let ran = ran-beside c.args.sizes.slots c.args.sizes.frames j o c.in_ok-ran.ran.closed c.deref-2.ensures.value c.as_slice-lines.ensures c.in_ok-ran.ensures in
    let text = c.in_ok-text.ensures ∙ (λ k. report j.script (map contents_of (c.deref-3.ensures.value k)) (c.deref-4.ensures.value k) (c.deref-5.ensures.value k)) in
    let to_run : IsToRun c.args.sizes.frames (lines_of j) j.script.steps = record {
      loaded = is.can.loaded;
      steps_are = is.can.steps;
      ready = is.ready;
      some_frame = omega (arith, c.requires.sizes.some_frames);
      few_frames = c.requires.sizes.few_frames;
    } in
    (j.steps, is.ready, (to_run, ran, text))
