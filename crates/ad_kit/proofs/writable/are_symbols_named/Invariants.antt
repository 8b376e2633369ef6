use Rattle.std.proofs.Common.{take}
use Rattle.std.specs.List.{All}
use Rattle.ad_kit.specs.Writable.{HasNoZero}
use Rattle.ad_kit.specs.declared.object.KitSymbol.{KitSymbol}
use Rattle.ad_kit.proofs.writable.are_symbols_named.Given as goal

abbrev pub invariant-loop-k : goal.invariant-loop-k
invariant-loop-k l = All (λ (y : KitSymbol). HasNoZero y.name) (take l.k l.symbols)
