use Rattle.std.proofs.Common.{rules, subst}
use Rattle.std.proofs.lemmas.List.Sorted.{answers_always}
use Rattle.std.specs.List.Sorted.{IsStableByKey}
use Rattle.std.proofs.Common.{nat_cmp}
use Rattle.ad_report.specs.declared.index.CallAt.{CallAt}
use Rattle.ad_report.proofs.Indices.{is_index}
use Rattle.ad_report.proofs.index.index.Goals as goal

pub returns : goal.returns
returns c =
    let keys = answers_always _ _ _ (λ f a r next called. search rules) in
    is_index c.args.history.now c.sort_by_key.new.self.items (c.in_ok-sort_by_key.ensures.sorted (λ (e : CallAt). e.line) keys)
    (subst (λ xs. IsStableByKey (λ (e : CallAt). e.line) nat_cmp xs c.sort_by_key.new.self.items) c.in_ok-calls.ensures (c.sort_by_key.ensures.stable (λ (e : CallAt). e.line) keys))
