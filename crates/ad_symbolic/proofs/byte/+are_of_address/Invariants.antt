use Rattle.std.proofs.Common.{length}
use Rattle.ad_symbolic.proofs.byte.+are_of_address.Given as goal

-- the bytes that are left
abbrev pub decreases-are_of_address : goal.decreases-are_of_address
decreases-are_of_address l = length l.bytes.now
