use Rattle.std.proofs.Common.{◌≡◌, take}
use Rattle.ad_report.specs.Private.Index.{lines_of}
use Rattle.ad_report.proofs.index.lines_of.Given as goal

-- the calls so far are listed
abbrev pub invariant-loop-position : goal.invariant-loop-position
invariant-loop-position l = l.lines.items ≡ lines_of (take l.position l.history)
