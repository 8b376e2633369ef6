use Rattle.std.proofs.Common.{ltb, ltb-true, ltb-false, rules, tests}
use Rattle.std.proofs.lemmas.List.Sorted.{IsPartitionedBy-ltb, IsPartitionPoint-from_clause}
use Rattle.ad_report.proofs.line.first_from.Goals as goal

pub returns-clause-place : goal.returns-clause-place
returns-clause-place g c =
    let n = g.T.OfLine.line_number in
    let items = c.args.items.now in
    let point = IsPartitionPoint-from_clause (λ y. ltb (n y) c.args.line) items _ c.partition_point.ensures.partitioned (IsPartitionedBy-ltb n items c.args.line c.requires) (λ x r q k. search (rules, tests)) in
    (λ k d from to. ltb-true _ _ (point.0 k d from to), λ k d from to. ltb-false _ _ (point.1 k d from to))
