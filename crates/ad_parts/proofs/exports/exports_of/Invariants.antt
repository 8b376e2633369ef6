use Rattle.std.proofs.Common.{◌≡◌, drop, filter_map, take}
use Rattle.ad_parts.specs.Symbols.{export}
use Rattle.ad_parts.proofs.exports.exports_of.Given as goal

abbrev pub invariant-loop-k : goal.invariant-loop-k
invariant-loop-k l = l.exports.items ≡ filter_map (export l.spots) (drop 1 (take l.k l.symbols))
