use Rattle.std.proofs.Common.{◌≡◌, ◌+◌, [], length, take}
use Rattle.std.specs.List.{sum_by}
use Rattle.ad_mover.specs.Moves.{MakesSteps}
use Rattle.ad_mover.specs.Seen.{moves_of, moving, IsMoverOf}
use Rattle.ad_mover.specs.Private.Lines.{KeepsRoom}
use Rattle.ad_mover.proofs.mover.run_moves.Given as goal

abbrev pub invariant-loop-step : goal.invariant-loop-step
invariant-loop-step g l = record {
  made : MakesSteps l.shared.maps.shape (take l.step-index l.steps) (moving l.initial.mover) (moving l.mover);
  mover : IsMoverOf l.shared l.mover;
  outs : l.mover.outs.items ≡ [];
  done : length l.mover.done.items ≡ length l.initial.mover.done.items + sum_by moves_of (take l.step-index l.steps);
  room : KeepsRoom l.initial.mover l.mover;
}
