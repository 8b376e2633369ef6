use Rattle.std.proofs.Common.{◌≡◌, ◌+◌, ◌∷◌, ◌∙◌, ap, sym, subst, length, drop}
use Rattle.ad_lines.specs.LineRun.{after_step, line_run}
use Rattle.ad_lines.specs.Ready.{IsRunnable}
use Rattle.ad_lines.specs.Room.{HasRoom, images_of}
use Rattle.ad_lines.proofs.Kept.{first-room, keeps-step}
use Rattle.ad_lines.proofs.Lists.{drop-next}
use Rattle.ad_lines.proofs.line_run.LineRun.run.Goals as goal

pub step-requires-clause-runnable : goal.step-requires-clause-runnable
step-requires-clause-runnable c =
    let l = c.loop-step in
    let x = c.step-item.result in
    let one = c.requires.runnable l.step-index x c.loop-step-test.true in
    let before = c.args.self.now.state in
    let here : IsRunnable (images_of before) (length before.stacks) x = subst (IsRunnable (images_of before) (length before.stacks)) (sym c.step-item.is) one in
    let seen : IsRunnable (images_of l.self.state) (length before.stacks) x = subst (λ is. IsRunnable is (length before.stacks) x) (sym l.invariant.images) here in
    subst (λ n. IsRunnable (images_of l.self.state) n x) (sym l.invariant.stacks) seen

pub step-requires-clause-room : goal.step-requires-clause-room
step-requires-clause-room c =
    let l = c.loop-step in
    let x = c.step-item.result in
    let rest = drop (l.step-index + 1) c.args.steps.now in
    let first = drop-next c.args.steps.now l.step-index x c.loop-step-test.true c.step-item.is in
    first-room x rest l.self (subst (λ xs. HasRoom xs l.self) first l.invariant.room)

pub loop-step-preserved : goal.loop-step-preserved
loop-step-preserved c =
    let l = c.loop-step in
    let steps = c.args.steps.now in
    let x = c.step-item.result in
    let rest = drop (l.step-index + 1) steps in
    let first : drop l.step-index steps ≡ x ∷ rest = drop-next steps l.step-index x c.loop-step-test.true c.step-item.is in
    let e = c.step.ensures in
    let fuel = c.args.self.now.fuel in
    let kept = keeps-step l.self.fuel l.self.state x in
    record {
      state =
          ap (λ s. line_run fuel s rest) (e.state ∙ ap (λ n. after_step n l.self.state x) l.invariant.fuel)
          ∙ sym (ap (line_run fuel l.self.state) first)
          ∙ l.invariant.state;
      fuel = e.fuel ∙ l.invariant.fuel;
      images = ap images_of e.state ∙ kept.images ∙ l.invariant.images;
      stacks = ap (λ s. length s.stacks) e.state ∙ kept.stacks ∙ l.invariant.stacks;
      room = e.room rest (subst (λ xs. HasRoom xs l.self) first l.invariant.room);
    }
