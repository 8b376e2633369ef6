use Rattle.std.proofs.Common.{length}
use Rattle.ad_symbolic.proofs.byte.+number_of.Given as goal

-- the bytes that are left
abbrev pub decreases-number_of : goal.decreases-number_of
decreases-number_of l = length l.bytes.now
