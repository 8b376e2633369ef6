use Rattle.std.proofs.Common.{sym, subst, refl, length}
use Rattle.ad_events.specs.declared.event.Event.TheVariants.{Unmap}
use Rattle.ad_events.specs.World.{WorldFits}
use Rattle.ad_events.proofs.Events.{WorldFits-after}
use Rattle.ad_events.proofs.world.World.unmap.Goals as goal

pub invariant_of-self : goal.invariant_of-self
invariant_of-self c =
    let s = c.self.inside in
    subst (λ ms. WorldFits s.current.items ms s.inside s.entered) (sym c.put_status.ensures)
    (WorldFits-after s.current.items (record { workers = s.workers; modules = length s.current.items; mappings = s.mappings; inside = s.inside; entered = s.entered }) c.args.self.now c.self.view_is refl c.self.invariant (Unmap c.args.mapping) c.requires)
