use Rattle.std.proofs.Common.{ap, sym, ◌∙◌, arith, unwrap_or, subst}
use Rattle.std.specs.FinMap as map
use Rattle.ad_events.specs.Inside.{IsCounted}
use Rattle.ad_events.proofs.FiniteMaps.{one_removed}
use Rattle.ad_events.proofs.InsideLemmas.{counted-some, IsCounted-remove, some_of_positive}
use Rattle.ad_events.proofs.inside.Inside.remove.Goals as goal

pub overflow_sub-count : goal.overflow_sub-count
overflow_sub-count c =
    let count = c.unwrap_or-count.ensures ∙ ap (λ o. unwrap_or o 0) c.get.ensures in
    let some = counted-some c.self.inside.counts c.self.inside.pairs.entries c.self.invariant c.in-Some.mapping c.unwrap_or-count.result count c.args.worker (sym c.in-Some.ensures.value) in
    omega arith

pub set-requires : goal.set-requires
set-requires c =
    let count = c.unwrap_or-count.ensures ∙ ap (λ o. unwrap_or o 0) c.get.ensures in
    let some = counted-some c.self.inside.counts c.self.inside.pairs.entries c.self.invariant c.in-Some.mapping c.unwrap_or-count.result count c.args.worker (sym c.in-Some.ensures.value) in
    some_of_positive (map.get c.self.inside.counts c.in-Some.mapping) (omega arith)

pub invariant_of-self : goal.invariant_of-self
invariant_of-self c =
    let count = c.unwrap_or-count.ensures ∙ ap (λ o. unwrap_or o 0) c.get.ensures in
    let less = IsCounted-remove c.self.inside.counts c.self.inside.pairs.entries c.self.invariant c.in-Some.mapping c.unwrap_or-count.result count c.args.worker c.remove.new.self.entries (sym c.in-Some.ensures.value) c.in-Some.ensures.entries c.in-Some.ensures.ordered in
    subst (λ m. IsCounted m c.remove.new.self.entries) (sym c.set.ensures) less

pub returns-in-Some : goal.returns-in-Some
returns-in-Some c =
    one_removed c.self.inside.pairs.entries c.remove.new.self.entries c.args.worker c.in-Some.ensures.updates.0
    ∙ ap (λ m. map.remove m c.args.worker) c.self.view_is

pub returns-in_default : goal.returns-in_default
returns-in_default c =
    one_removed c.self.inside.pairs.entries c.remove.new.self.entries c.args.worker c.in_default.ensures.updates.0
    ∙ ap (λ m. map.remove m c.args.worker) c.self.view_is
