use Rattle.std.proofs.Common.{ap, ◌∙◌}
use Rattle.std.specs.FinSet as set
use Rattle.ad_events.proofs.FiniteMaps.{one_taken}
use Rattle.ad_events.proofs.entered.Entered.remove.Goals as goal

pub returns : goal.returns
returns c =
    one_taken c.self.inside.workers.keys c.remove.new.self.keys c.args.worker c.remove.ensures.updates.0
    ∙ ap (λ s. set.remove s c.args.worker) c.self.view_is
