use Rattle.std.proofs.Common.{◌≡◌, length, drop}
use Rattle.ad_lines.specs.LineRun.{line_run}
use Rattle.ad_lines.specs.Room.{HasRoom, images_of}
use Rattle.ad_lines.proofs.line_run.LineRun.run.Given as goal

-- the steps that are left, from the run so far, come to what all come to, and there is room for them
abbrev pub invariant-loop-step : goal.invariant-loop-step
invariant-loop-step l = record {
  state : line_run l.initial.self.fuel l.self.state (drop l.step-index l.steps) ≡ line_run l.initial.self.fuel l.initial.self.state l.steps;
  fuel : l.self.fuel ≡ l.initial.self.fuel;
  images : images_of l.self.state ≡ images_of l.initial.self.state;
  stacks : length l.self.state.stacks ≡ length l.initial.self.state.stacks;
  room : HasRoom (drop l.step-index l.steps) l.self;
}
