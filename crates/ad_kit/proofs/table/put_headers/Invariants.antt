use Rattle.std.proofs.Common.{◌≡◌, ◌++◌, flat_map, take}
use Rattle.std.specs.List.{All}
use Rattle.ad_kit.specs.ObjectFile.{header}
use Rattle.ad_kit.specs.Private.Written.{IsHeaderFit}
use Rattle.ad_kit.proofs.table.put_headers.Given as goal

abbrev pub invariant-loop-k : goal.invariant-loop-k
invariant-loop-k l = record {
  bytes : l.file.items ≡ l.fn.file.items ++ flat_map header (take l.k l.headers);
  fit : All IsHeaderFit (take l.k l.headers);
}
