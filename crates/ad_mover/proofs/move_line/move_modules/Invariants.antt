use Rattle.std.proofs.Common.{◌≡◌, ◌+◌, ◌≤◌, length, take}
use Rattle.ad_maps.specs.Seen.{retires_of}
use Rattle.ad_mover.specs.Moves.{MovesModules}
use Rattle.ad_mover.specs.Seen.{moving, HasDrawn}
use Rattle.ad_mover.specs.Private.Lines.{HasSeats, KeepsRoom}
use Rattle.ad_mover.proofs.move_line.move_modules.Given as goal

abbrev pub invariant-loop-index : goal.invariant-loop-index
invariant-loop-index l = record {
  moved : MovesModules l.shared.maps.shape l.line (take l.index l.modules) (moving l.initial.mover) (retires_of l.line l.mover.outs.items) (moving l.mover);
  seats : HasSeats l.shared l.mover;
  drawn : HasDrawn l.shared.maps.shape l.shared.stacks.openings (moving l.mover);
  few : length l.mover.outs.items ≤ l.index;
  done : length l.mover.done.items ≡ length l.initial.mover.done.items + l.index;
  room : KeepsRoom l.initial.mover l.mover;
}
