use Rattle.std.proofs.Common.{◌≡◌, ◌∙◌, ap, sym, subst, length, arith}
use Rattle.std.specs.List.{All}
use Rattle.ad_lines.specs.LineRun.{RunState}
use Rattle.ad_lines.specs.Opening.{opening_drawn, opening_run}
use Rattle.ad_lines.specs.Ready.{IsRunnable}
use Rattle.ad_lines.specs.Room.{images_of}
use Rattle.ad_lines.proofs.Opened.{opening-there}
use Rattle.ad_command.proofs.Jobs.{are-steps, few-steps}
use Rattle.ad_command.proofs.serve.run_lines.Goals as goal

pub open-requires-clause-lines : goal.open-requires-clause-lines
open-requires-clause-lines c = few-steps c.args.loaded.images.items c.args.script.now c.args.steps.now c.requires.range c.requires.ready

pub run-requires-clause-runnable : goal.run-requires-clause-runnable
run-requires-clause-runnable c =
    let images = c.args.loaded.images.items in
    let s = c.args.script.now in
    let steps = c.args.steps.now in
    let are = are-steps images s steps c.requires.range (omega (arith, c.requires.each)) c.requires.ready in
    let begun = opening-there c.args.loaded.placer.seed s.workers images c.requires.loaded in
    let run = c.in_ok-run.run' in
    let state : run.state ≡ opening_run s.workers images (opening_drawn c.args.loaded.placer.seed s.workers images) = c.in_ok-run.ensures.state ∙ ap (opening_run s.workers images) c.requires.drawn in
    let same = ap images_of state ∙ begun.images_are in
    let count = ap (λ (x : RunState). length x.stacks) state ∙ begun.stacks_are in
    let there : All (IsRunnable (images_of run.state) s.workers) steps = subst (λ is. All (IsRunnable is s.workers) steps) (sym same) are.runnable in
    subst (λ n. All (IsRunnable (images_of run.state) n) steps) (sym count) there
