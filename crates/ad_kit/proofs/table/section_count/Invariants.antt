use Rattle.std.proofs.Common.{◌≡◌, ◌≤◌, ◌+◌, ◌*◌, take}
use Rattle.ad_kit.specs.ObjectFile.{number}
use Rattle.ad_kit.proofs.table.section_count.Given as goal

abbrev pub invariant-loop-k : goal.invariant-loop-k
invariant-loop-k l = record {
  count : l.count ≡ number (take l.k l.sections);
  small : l.count ≤ 2 * l.k + 1;
}
