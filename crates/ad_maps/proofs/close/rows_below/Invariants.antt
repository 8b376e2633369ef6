use Rattle.ad_maps.specs.Private.Numbered.{AreRowsBelow}
use Rattle.ad_maps.proofs.close.rows_below.Given as goal

abbrev pub invariant-loop-number : goal.invariant-loop-number
invariant-loop-number l = AreRowsBelow l.frames l.fn.lines l.fn.numbered l.number l.rows.items
