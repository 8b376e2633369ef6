use Rattle.std.proofs.Common.{◌≡◌, map}
use Rattle.std.specs.List.{range_with_len}
use Rattle.ad_lines.specs.Private.Places.{stack_thing}
use Rattle.ad_lines.proofs.mappings.stack_things.Given as goal

-- the stacks of the workers so far
abbrev pub invariant-loop-who : goal.invariant-loop-who
invariant-loop-who l = l.things.items ≡ map stack_thing (range_with_len 0 l.who)
