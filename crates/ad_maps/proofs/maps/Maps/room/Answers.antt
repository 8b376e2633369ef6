use Rattle.ad_maps.proofs.Idle.{finds-idle}
use Rattle.ad_maps.proofs.maps.Maps.room.Goals as goal

pub invariant_of-mover : goal.invariant_of-mover
invariant_of-mover c = finds-idle _ _ _ c.mover.invariant _ _ _ c.find.result _ c.find.ensures.found c.find.ensures.none
