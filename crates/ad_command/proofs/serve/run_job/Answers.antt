use Rattle.std.proofs.Common.{[], map, None, ◌∙◌, ap, refl, sym, arith}
use Rattle.ad_base.specs.Book.{contents_of}
use Rattle.ad_lines.specs.Ready.{ready_steps}
use Rattle.ad_command.specs.Command.{Job}
use Rattle.ad_command.specs.Ending.{CanRun, Ending}
use Rattle.ad_command.proofs.Done.{is-run, run-is-done}
use Rattle.ad_command.proofs.Jobs.{are-steps}
use Rattle.ad_command.proofs.serve.run_job.Goals as goal

pub run_text-requires : goal.run_text-requires
run_text-requires c =
    let j : Job = record { seed = c.args.loaded.placer.seed; fuel = c.args.fuel; script = c.args.script.now; images = c.args.loaded.images.items; steps = c.in_ok-steps.steps.items } in
    let end = c.in_ok-finished in
    let o : Ending = record { books = map contents_of end.finished.books.items; moves = end.finished.moves.items; rows = end.finished.rows.items; closed = None; text = [] } in
    let run = is-run j o c.requires.range c.requires.loaded c.requires.each c.deref.ensures.value c.deref-2.ensures.value c.in_ok-steps.ensures.ready end.ensures.books end.ensures.moves end.ensures.rows refl in
    run.rise

pub returns-clause-done : goal.returns-clause-done
returns-clause-done c =
    let j : Job = record { seed = c.args.loaded.placer.seed; fuel = c.args.fuel; script = c.args.script.now; images = c.args.loaded.images.items; steps = c.in_ok-steps.steps.items } in
    let end = c.in_ok-finished in
    let o : Ending = record { books = map contents_of end.finished.books.items; moves = end.finished.moves.items; rows = end.finished.rows.items; closed = None; text = c.in_ok-text.text.items } in
    let run = is-run j o c.requires.range c.requires.loaded c.requires.each c.deref.ensures.value c.deref-2.ensures.value c.in_ok-steps.ensures.ready end.ensures.books end.ensures.moves end.ensures.rows refl in
    let ready = ap (λ is. ready_steps is j.script.steps) (sym c.deref.ensures.value) ∙ c.in_ok-steps.ensures.ready in
    let can : CanRun j = record { loaded = c.requires.loaded; steps = are-steps j.images j.script j.steps c.requires.range (omega (arith, c.requires.each)) ready } in
    (j.steps, ready, run-is-done c.args.number j o can run.line run.sound c.in_ok-text.ensures)
