use Rattle.std.proofs.Common.{◌≡◌, ◌++◌, drop}
use Rattle.ad_reloc.proofs.image.exports_of.Given as goal

-- the exports so far and those that are left are all
abbrev pub invariant-loop-k : goal.invariant-loop-k
invariant-loop-k l = l.out.items ++ drop l.k l.exports ≡ l.exports
