use Rattle.std.proofs.Common.{ap, ◌∙◌}
use Rattle.std.specs.FinMap as map
use Rattle.ad_events.proofs.FiniteMaps.{one_given}
use Rattle.ad_events.proofs.by_number.ByNumber.insert.Goals as goal

pub returns-clause-ok : goal.returns-clause-ok
returns-clause-ok g c =
    one_given c.self.inside.entries.entries c.insert.new.self.entries c.args.number c.args.value c.in_ok-insert.ensures.updates.0
    ∙ ap (λ m. map.insert m c.args.number c.args.value) c.self.view_is
