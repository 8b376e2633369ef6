use Rattle.std.proofs.Common.{◌≢◌, ap, sym, subst, nat_cmp, ℕ, Some}
use Rattle.std.specs.FinMap as map
use Rattle.ad_events.specs.World.{EventWorld}
use Rattle.ad_events.proofs.world.World.may_unmap.Goals as goal

pub returns-then-has_status : goal.returns-then-has_status
returns-then-has_status c =
    let pairs = ap (λ (w : EventWorld). w.inside) c.self.view_is in (
      λ free. (
        c.has_status.ensures.0 c.if-has_status.true,
        λ worker. subst (λ (m : map.FinMap nat_cmp ℕ). map.get m worker ≢ Some c.args.mapping) pairs (c.is_free.ensures.0 free worker),
      ),
      λ lawful. c.is_free.ensures.1 (λ worker. subst (λ (m : map.FinMap nat_cmp ℕ). map.get m worker ≢ Some c.args.mapping) (sym pairs) (lawful.1 worker)),
    )
