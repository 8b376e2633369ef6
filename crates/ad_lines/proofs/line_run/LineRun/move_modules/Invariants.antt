use Rattle.std.proofs.Common.{◌≡◌, ◌+◌, length, drop, fold}
use Rattle.ad_lines.specs.LineRun.{with_module_moved}
use Rattle.ad_lines.specs.Room.{images_of}
use Rattle.ad_lines.proofs.line_run.LineRun.move_modules.Given as goal

-- the modules that are left, from the run so far, come to what all come to
abbrev pub invariant-loop-module : goal.invariant-loop-module
invariant-loop-module l = record {
  state : fold (with_module_moved l.line) l.self.state (drop l.module-index l.modules) ≡ fold (with_module_moved l.line) l.initial.self.state l.modules;
  images : length (images_of l.self.state) ≡ length (images_of l.initial.self.state);
  fuel : l.self.fuel ≡ l.initial.self.fuel;
  move_room : l.self.move_room + l.module-index ≡ l.initial.self.move_room;
  call_room : l.self.call_room ≡ l.initial.self.call_room;
}
