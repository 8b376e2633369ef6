use Rattle.std.proofs.Common.{◌+◌}
use Rattle.ad_maps.specs.Private.Laid.{Laying}
use Rattle.ad_maps.proofs.open.lay_cells.Given as goal

abbrev pub invariant-loop-entry : goal.invariant-loop-entry
invariant-loop-entry l = Laying l.shape (l.module + 1) l.module l.entry l.words
