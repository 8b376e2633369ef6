use Rattle.ad_kit.proofs.Tested.{AreLocalsFirst}
use Rattle.ad_kit.proofs.writable.are_locals_first.Given as goal

abbrev pub invariant-loop-k : goal.invariant-loop-k
invariant-loop-k l = AreLocalsFirst l.symbols l.k l.only_locals
