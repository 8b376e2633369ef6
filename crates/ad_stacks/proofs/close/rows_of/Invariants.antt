use Rattle.std.proofs.Common.{◌≡◌}
use Rattle.std.specs.Mem.Slots.{slots_items}
use Rattle.ad_stacks.specs.Private.Rows.{rows_in}
use Rattle.ad_stacks.proofs.close.rows_of.Given as goal

abbrev pub invariant-loop-number : goal.invariant-loop-number
invariant-loop-number l = l.rows.items ≡ rows_in (slots_items l.closed.words) l.number
