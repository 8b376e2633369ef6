use Rattle.std.proofs.Common.{ap, sym, ◌∙◌}
use Rattle.std.specs.FinMap as map
use Rattle.ad_events.proofs.FiniteMaps.{get_number}
use Rattle.ad_events.proofs.inside.Inside.get.Goals as goal

pub returns : goal.returns
returns c =
    c.copied.ensures ∙ c.get.ensures.value ∙ sym (get_number c.self.inside.pairs.entries c.args.worker) ∙ ap (λ m. map.get m c.args.worker) c.self.view_is
