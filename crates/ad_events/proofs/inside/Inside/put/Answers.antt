use Rattle.std.proofs.Common.{◌≡◌, ◌+◌, refl, ap, sym, ◌∙◌, None, unwrap_or, nat_cmp, subst}
use Rattle.std.specs.Option.{is_some}
use Rattle.std.specs.BTreeMap.{is_at}
use Rattle.std.specs.Map.{lookup}
use Rattle.std.specs.FinMap as map
use Rattle.ad_events.specs.Inside.{IsCounted}
use Rattle.ad_events.proofs.FiniteMaps.{get_number, one_given, get-insert_same}
use Rattle.ad_events.proofs.InsideLemmas.{IsCounted-kept, IsCounted-put}
use Rattle.ad_events.proofs.inside.Inside.put.Goals as goal

pub invariant_of-self-in_err-insert-2 : goal.invariant_of-self-in_err-insert-2
invariant_of-self-in_err-insert-2 c =
    let counts = c.self.inside.counts in
    let pairs = c.self.inside.pairs.entries in
    let count = c.unwrap_or-count.ensures ∙ ap (λ o. unwrap_or o 0) c.get.ensures in
    let kept = IsCounted-kept counts pairs c.self.invariant c.args.mapping c.unwrap_or-count.result count in
    subst (IsCounted c.insert.new.self) (sym c.in_err-insert-2.ensures.err) (subst (λ m. IsCounted m pairs) (sym c.in_ok-insert.ensures.ok) kept)

pub set-requires : goal.set-requires
set-requires c =
    ap is_some (ap (λ m. map.get m c.args.mapping) c.in_ok-insert.ensures.ok ∙ get-insert_same c.self.inside.counts c.args.mapping c.unwrap_or-count.result c.args.mapping refl)

pub invariant_of-self-2 : goal.invariant_of-self-2
invariant_of-self-2 c =
    let counts = c.self.inside.counts in
    let pairs = c.self.inside.pairs.entries in
    let n = c.unwrap_or-count.result in
    let count = c.unwrap_or-count.ensures ∙ ap (λ o. unwrap_or o 0) c.get.ensures in
    let none : lookup (is_at (nat_cmp c.args.worker)) pairs ≡ None = sym (get_number pairs c.args.worker) ∙ ap (λ m. map.get m c.args.worker) c.self.view_is ∙ c.requires in
    let new = IsCounted-put counts pairs c.self.invariant c.args.mapping n count c.args.worker c.insert-2.new.self.entries none c.in_ok-insert-2.ensures.entries c.in_ok-insert-2.ensures.ordered in
    subst (λ m. IsCounted m c.insert-2.new.self.entries) (sym (c.set.ensures ∙ ap (λ m. map.insert m c.args.mapping (n + 1)) c.in_ok-insert.ensures.ok)) new

pub returns-clause-ok : goal.returns-clause-ok
returns-clause-ok c =
    one_given c.self.inside.pairs.entries c.insert-2.new.self.entries c.args.worker c.args.mapping c.in_ok-insert-2.ensures.updates.0
    ∙ ap (λ m. map.insert m c.args.worker c.args.mapping) c.self.view_is
