use Rattle.std.proofs.Common.{◌≡◌, ◌≤◌, length, drop, vec_len, vec_capacity}
use Rattle.ad_lines.specs.Ready.{ready_steps}
use Rattle.ad_lines.proofs.Resolved.{behind}
use Rattle.ad_lines.proofs.ready.ready_steps.Given as goal

-- the steps so far are ready, and what the others come to stands behind them
abbrev pub invariant-loop-step : goal.invariant-loop-step
invariant-loop-step l = record {
  ready : behind l.ready.items (ready_steps l.images (drop l.step-index l.steps)) ≡ ready_steps l.images l.steps;
  len : vec_len l.ready ≡ l.step-index;
  room : length l.steps ≤ vec_capacity l.ready;
}
