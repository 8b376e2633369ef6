use Rattle.std.proofs.Common.{◌≡◌, ◌++◌, flat_map, replicate, take}
use Rattle.std.specs.List.{All}
use Rattle.ad_kit.specs.ObjectFile.{symbol, symbol_names}
use Rattle.ad_kit.specs.ReadBack.{IsSymbolFit}
use Rattle.ad_kit.proofs.body.put_symbols.Given as goal

abbrev pub invariant-loop-k : goal.invariant-loop-k
invariant-loop-k l = record {
  bytes : l.body.items ≡ (l.fn.body.items ++ replicate 24 0) ++ flat_map (symbol (symbol_names l.symbols)) (take l.k l.symbols);
  fit : All IsSymbolFit (take l.k l.symbols);
}
