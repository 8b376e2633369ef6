use Rattle.std.proofs.Common.{◌≡◌, ◌≤◌, ◌+◌, ◌*◌, ◌++◌, ◌∷◌, [], drop, length, take}
use Rattle.ad_kit.specs.ObjectFile.{headers_behind, null_header, number}
use Rattle.ad_kit.proofs.table.first_headers.Given as goal

abbrev pub invariant-loop-k : goal.invariant-loop-k
invariant-loop-k l = record {
  rest : l.headers.items ++ headers_behind l.sections (take l.k l.sections) (drop l.k l.sections) ≡ null_header ∷ headers_behind l.sections [] l.sections;
  count : length l.headers.items ≡ number (take l.k l.sections);
  small : length l.headers.items ≤ 2 * l.k + 1;
}
