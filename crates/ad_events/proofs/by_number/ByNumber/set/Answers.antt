use Rattle.std.proofs.Common.{ap, sym, ◌∙◌, true≢false}
use Rattle.std.specs.FinMap as map
use Rattle.std.specs.Ordering.{nat_cmp}
use Rattle.std.specs.Option.{IsSome, is_some}
use Rattle.std.specs.BTreeMap.{get_by}
use Rattle.ad_events.proofs.FiniteMaps.{one_given, get_number}
use Rattle.ad_events.proofs.by_number.ByNumber.set.Goals.{in-Some, in_default}
use Rattle.ad_events.proofs.by_number.ByNumber.set.Goals as goal

pub returns : goal.returns
returns g c =
    let es = c.self.inside.entries.entries in
    let some : IsSome (get_by (nat_cmp c.args.number) c.self.inside.entries) = ap is_some (sym (get_number es c.args.number) ∙ ap (λ m. map.get m c.args.number) c.self.view_is) ∙ c.requires in
    elim c.match-get_mut.branch [
      | in-Some w ↦
          ap (λ x. map.from_entries x.entries.entries) w.self-inside-is
          ∙ one_given es (c.get_mut.follows.lender c.args.value).entries c.args.number c.args.value ((c.get_mut.follows.holds c.args.value).3 some).0
          ∙ ap (λ m. map.insert m c.args.number c.args.value) c.self.view_is
      | in_default w ↦ absurd (true≢false (sym some ∙ sym (ap is_some w.in_default.ensures.value)))
    ]
