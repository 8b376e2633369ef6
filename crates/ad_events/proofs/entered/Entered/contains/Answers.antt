use Rattle.std.proofs.Common.{ap, sym, ◌∙◌}
use Rattle.std.specs.FinSet as set
use Rattle.ad_events.proofs.FiniteMaps.{contains_number}
use Rattle.ad_events.proofs.entered.Entered.contains.Goals as goal

pub returns : goal.returns
returns c = c.contains.ensures ∙ sym (contains_number c.self.inside.workers.keys c.args.worker) ∙ ap (λ s. set.contains s c.args.worker) c.self.view_is
