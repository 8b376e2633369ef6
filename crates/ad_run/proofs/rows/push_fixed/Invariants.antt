use Rattle.std.proofs.Common.{◌≡◌, ◌++◌, map, take}
use Rattle.std.specs.List.{enumerate_from}
use Rattle.ad_run.specs.Rows.{fixed_row}
use Rattle.ad_run.proofs.rows.push_fixed.Given as goal

-- the rows of the images so far
abbrev pub invariant-loop-number : goal.invariant-loop-number
invariant-loop-number l = l.rows.items ≡ l.initial.rows.items ++ map fixed_row (take l.number (enumerate_from 0 l.images))
