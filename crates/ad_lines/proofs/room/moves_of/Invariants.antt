use Rattle.std.proofs.Common.{◌≡◌, ◌*◌, ◌≤◌, take}
use Rattle.std.specs.Prelude.{sum_by}
use Rattle.ad_lines.specs.Room.{moves_of}
use Rattle.ad_lines.proofs.room.moves_of.Given as goal

-- the moves of the steps so far
abbrev pub invariant-loop-step : goal.invariant-loop-step
invariant-loop-step l = record {
  moves : l.moves ≡ sum_by moves_of (take l.step-index l.steps);
  few : l.moves ≤ 8 * l.step-index;
}
