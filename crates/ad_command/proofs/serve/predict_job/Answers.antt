use Rattle.std.proofs.Common.{◌∙◌, ap, sym, subst, arith}
use Rattle.ad_predict.specs.Prediction.{prediction}
use Rattle.std.specs.List.{All}
use Rattle.ad_lines.specs.Ready.{IsRunnable, ready_steps}
use Rattle.ad_command.specs.Ending.{IsTextAlone}
use Rattle.ad_command.specs.Private.Asked.{prepared_ending}
use Rattle.ad_command.proofs.Jobs.{are-steps}
use Rattle.ad_command.proofs.serve.predict_job.Goals as goal

pub predict-requires-clause-runnable : goal.predict-requires-clause-runnable
predict-requires-clause-runnable c =
    let s = c.args.script.now in
    let images = c.args.loaded.now.images.items in
    let steps = c.in_ok-steps.steps.items in
    let are = are-steps images s steps c.requires.range (omega (arith, c.requires.each)) (ap (λ is. ready_steps is s.steps) (sym c.deref.ensures.value) ∙ c.in_ok-steps.ensures.ready) in
    subst (All (IsRunnable c.deref-2.result.now s.workers)) (sym c.deref-3.ensures.value) (subst (λ is. All (IsRunnable is s.workers) steps) (sym c.deref-2.ensures.value) are.runnable)

pub returns-clause-done : goal.returns-clause-done
returns-clause-done c =
    let s = c.args.script.now in
    let images = c.args.loaded.now.images.items in
    let steps = c.in_ok-steps.steps.items in
    let ready = ap (λ is. ready_steps is s.steps) (sym c.deref.ensures.value) ∙ c.in_ok-steps.ensures.ready in
    let text = c.in_ok-text.ensures ∙ (λ k. prediction s (c.deref-2.ensures.value k) c.args.fuel (c.deref-3.ensures.value k)) in (
      steps,
      ready,
      (
        record { loaded = c.requires.loaded; steps = are-steps images s steps c.requires.range (omega (arith, c.requires.each)) ready },
        subst (λ t. IsTextAlone t (prepared_ending c.text_alone.result)) text c.text_alone.ensures,
      ),
    )
