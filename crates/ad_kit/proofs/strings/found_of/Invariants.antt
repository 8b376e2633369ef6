use Rattle.std.proofs.Common.{◌+◌, ◌≤◌, List, ℕ, length, sum_by, take}
use Rattle.ad_kit.specs.ObjectFile.{used}
use Rattle.ad_kit.specs.Private.Written.{AreFound}
use Rattle.ad_kit.proofs.strings.found_of.Given as goal

abbrev pub invariant-loop-k : goal.invariant-loop-k
invariant-loop-k l = record {
  found : AreFound (used (take l.k l.names)) l.found;
  size : length l.found.bytes.items ≤ sum_by (λ (n : List ℕ). length n + 1) (take l.k l.names) + 1;
}
