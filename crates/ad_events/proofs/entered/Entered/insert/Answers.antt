use Rattle.std.proofs.Common.{ap, ◌∙◌}
use Rattle.std.specs.FinSet as set
use Rattle.ad_events.proofs.FiniteMaps.{one_added}
use Rattle.ad_events.proofs.entered.Entered.insert.Goals as goal

pub returns-clause-ok : goal.returns-clause-ok
returns-clause-ok c =
    one_added c.self.inside.workers.keys c.insert.new.self.keys c.args.worker c.in_ok-insert.ensures.updates.0
    ∙ ap (λ s. set.insert s c.args.worker) c.self.view_is
