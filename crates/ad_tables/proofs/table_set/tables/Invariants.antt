use Rattle.std.proofs.Common.{◌≡◌}
use Rattle.ad_tables.proofs.Rows.{AreUpto}
use Rattle.ad_tables.proofs.table_set.tables.Given as goal

abbrev pub invariant-loop-k : goal.invariant-loop-k
invariant-loop-k l = record { same : l.relas ≡ l.object.relas; upto : AreUpto l.object l.layout l.k l.lists }
