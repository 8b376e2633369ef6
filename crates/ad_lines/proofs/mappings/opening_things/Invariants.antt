use Rattle.std.proofs.Common.{◌≡◌, map, take}
use Rattle.ad_lines.specs.Opening.{opening_requests}
use Rattle.ad_lines.specs.Private.Places.{thing_of}
use Rattle.ad_lines.proofs.mappings.opening_things.Given as goal

-- the stacks, and the parts of the modules so far
abbrev pub invariant-loop-number : goal.invariant-loop-number
invariant-loop-number l = l.things.items ≡ map thing_of (opening_requests l.workers (take l.number l.images))
