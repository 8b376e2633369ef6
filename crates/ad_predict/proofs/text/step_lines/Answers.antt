use Rattle.std.proofs.Common.{◌≡◌, ◌+◌, ◌++◌, ◌∙◌, length, take, drop, ap, refl, subst, arith}
use Rattle.std.proofs.lemmas.List.{length-take-le}
use Rattle.ad_predict.specs.Prediction.{step_text}
use Rattle.ad_predict.specs.Private.Asking.{HaveAnswered}
use Rattle.ad_predict.proofs.Answered.{none-answered}
use Rattle.ad_predict.proofs.Lines.{around, take-next}
use Rattle.ad_report.proofs.Numbered.{more-lines, no-more-lines}
use Rattle.ad_predict.proofs.text.step_lines.Goals as goal

pub loop-step-init : goal.loop-step-init
loop-step-init c = record { text = refl; answered = none-answered c.args.images.now c.args.fuel c.args.modules.now c.requires.opened }

pub loop-step-preserved : goal.loop-step-preserved
loop-step-preserved c =
    let a = c.args in
    let l = c.loop-step in
    let steps = a.steps.now in
    let i = l.step-index in
    let x = c.step-item.result in
    let within = c.loop-step-test.true in
    let before = take i steps in
    let whole = around steps i x within c.step-item.is in
    let long : length before ≡ i = length-take-le i steps (omega (arith, within)) in
    let line = c.in_ok-step_line.ensures.text before (drop (i + 1) steps) l.invariant.answered
    ∙ ap (λ ss. l.text.items ++ step_text a.script.now a.images.now a.fuel ss (length before) x) whole
    ∙ ap (λ n. l.text.items ++ step_text a.script.now a.images.now a.fuel steps n x) long in
    record {
      text = more-lines (λ p. step_text a.script.now a.images.now a.fuel steps p.0 p.1) l.text.items c.step_line.new.text.items _ steps i x within c.step-item.is line l.invariant.text;
      answered = subst (λ ss. HaveAnswered a.images.now a.fuel ss c.step_line.new.modules) (take-next steps i x within c.step-item.is) (c.in_ok-step_line.ensures.modules before l.invariant.answered);
    }

pub returns : goal.returns
returns c =
    let a = c.args in
    no-more-lines (λ p. step_text a.script.now a.images.now a.fuel a.steps.now p.0 p.1) c.loop-step.text.items _ a.steps.now c.loop-step.step-index (omega (arith, c.loop-step-test.false)) c.loop-step.invariant.text
