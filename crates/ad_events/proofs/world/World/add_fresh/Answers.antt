use Rattle.std.proofs.Common.{sym, subst, refl, length}
use Rattle.ad_events.specs.declared.event.Event.TheVariants.{Map}
use Rattle.ad_events.specs.World.{WorldFits}
use Rattle.ad_events.proofs.Events.{WorldFits-after}
use Rattle.ad_events.proofs.world.World.add_fresh.Goals as goal

pub invariant_of-self-2 : goal.invariant_of-self-2
invariant_of-self-2 c =
    let s = c.self.inside in
    subst (λ ms. WorldFits s.current.items ms s.inside s.entered) (sym c.in_ok-insert.ensures.ok)
    (WorldFits-after s.current.items (record { workers = s.workers; modules = length s.current.items; mappings = s.mappings; inside = s.inside; entered = s.entered }) c.args.self.now c.self.view_is refl c.self.invariant (Map c.args.module c.args.mapping) c.requires)
