use Rattle.std.proofs.Common.{sym, subst, refl, length}
use Rattle.std.specs.FinMap as map
use Rattle.ad_events.specs.declared.event.Event.TheVariants.{Enter, Read, Leave}
use Rattle.ad_events.specs.World.{IsLawful, WorldFits}
use Rattle.ad_events.proofs.Events.{WorldFits-after}
use Rattle.ad_events.proofs.world.World.apply.Goals as goal

pub invariant_of-self : goal.invariant_of-self
invariant_of-self c =
    let s = c.self.inside in
    subst (λ e. WorldFits s.current.items s.mappings s.inside e) (sym c.in_ok-insert-in-Enter.ensures.ok)
    (WorldFits-after s.current.items (record { workers = s.workers; modules = length s.current.items; mappings = s.mappings; inside = s.inside; entered = s.entered }) c.args.self.now c.self.view_is refl c.self.invariant
    (Enter c.in-Enter.worker) (subst (IsLawful c.args.self.now) c.in-Enter.is c.requires))

pub invariant_of-self-in-Read : goal.invariant_of-self-in-Read
invariant_of-self-in-Read c =
    let s = c.self-in-Read.inside in
    subst (λ p. WorldFits s.current.items s.mappings p c.remove.new.self) (sym c.in_ok-put-in-Read.ensures.ok)
    (subst (λ e. WorldFits s.current.items s.mappings (map.insert s.inside c.in-Read.worker c.in-Read.mapping) e) (sym c.remove.ensures)
    (WorldFits-after s.current.items (record { workers = s.workers; modules = length s.current.items; mappings = s.mappings; inside = s.inside; entered = s.entered }) c.args.self.now c.self-in-Read.view_is refl c.self-in-Read.invariant
    (Read c.in-Read.worker c.in-Read.module c.in-Read.mapping) (subst (IsLawful c.args.self.now) c.in-Read.is c.requires)))

pub invariant_of-self-in-Leave : goal.invariant_of-self-in-Leave
invariant_of-self-in-Leave c =
    let s = c.self-in-Leave.inside in
    subst (λ p. WorldFits s.current.items s.mappings p s.entered) (sym c.remove-in-Leave.ensures)
    (WorldFits-after s.current.items (record { workers = s.workers; modules = length s.current.items; mappings = s.mappings; inside = s.inside; entered = s.entered }) c.args.self.now c.self-in-Leave.view_is refl c.self-in-Leave.invariant
    (Leave c.in-Leave.worker) (subst (IsLawful c.args.self.now) c.in-Leave.is c.requires))
