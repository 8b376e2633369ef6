use Rattle.std.proofs.Common.{◌≡◌, []}
use Rattle.ad_lines.specs.Opening.{opening_drawn}
use Rattle.ad_command.proofs.load.draw_stacks.Given as goal

abbrev pub invariant-loop : goal.invariant-loop
invariant-loop l = l.placer ≡ opening_drawn l.fn.seed l.counter []
