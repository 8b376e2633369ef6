use Rattle.std.proofs.Common.{◌≡◌, ◌++◌, take, drop}
use Rattle.std.specs.List.{enumerate_from, flat_map}
use Rattle.ad_predict.specs.Prediction.{step_text}
use Rattle.ad_predict.specs.Private.Asking.{HaveAnswered}
use Rattle.ad_predict.proofs.text.step_lines.Given as goal

-- the steps so far are printed, and the modules have answered them
abbrev pub invariant-loop-step : goal.invariant-loop-step
invariant-loop-step l = record {
  text : l.text.items ++ flat_map (λ p. step_text l.script l.images l.fuel l.steps p.0 p.1) (enumerate_from l.step-index (drop l.step-index l.steps))
      ≡ l.fn.text.items ++ flat_map (λ p. step_text l.script l.images l.fuel l.steps p.0 p.1) (enumerate_from 0 l.steps);
  answered : HaveAnswered l.images l.fuel (take l.step-index l.steps) l.modules;
}
