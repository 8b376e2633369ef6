use Rattle.std.proofs.Common.{◌≡◌, map, take}
use Rattle.ad_kit.specs.declared.object.KitSymbol.{KitSymbol}
use Rattle.ad_kit.proofs.strings.symbol_names.Given as goal

abbrev pub invariant-loop-k : goal.invariant-loop-k
invariant-loop-k l = l.names.items ≡ map (λ (y : KitSymbol). y.name) (take l.k l.symbols)
