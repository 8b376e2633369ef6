use Rattle.std.proofs.Common.{ap}
use Rattle.ad_maps.specs.Seen.{OpenMaps, MoverSeen}
use Rattle.ad_maps.proofs.Ended.{closed_as}
use Rattle.ad_maps.proofs.maps.Maps.close.Goals as goal

pub returns-clause-each_made : goal.returns-clause-each_made
returns-clause-each_made c = (closed_as _ _ _ _ _ _ (ap (λ (o : OpenMaps). o.shape) c.self.view_is) (ap (λ (m : MoverSeen). m.deeds) c.mover.view_is) c.in_ok-rows.ensures).each_made

pub returns-clause-each_row : goal.returns-clause-each_row
returns-clause-each_row c = (closed_as _ _ _ _ _ _ (ap (λ (o : OpenMaps). o.shape) c.self.view_is) (ap (λ (m : MoverSeen). m.deeds) c.mover.view_is) c.in_ok-rows.ensures).each_row

pub returns-clause-unmaps : goal.returns-clause-unmaps
returns-clause-unmaps c = (closed_as _ _ _ _ _ _ (ap (λ (o : OpenMaps). o.shape) c.self.view_is) (ap (λ (m : MoverSeen). m.deeds) c.mover.view_is) c.in_ok-rows.ensures).unmaps

pub returns-clause-unmapped : goal.returns-clause-unmapped
returns-clause-unmapped c = (closed_as _ _ _ _ _ _ (ap (λ (o : OpenMaps). o.shape) c.self.view_is) (ap (λ (m : MoverSeen). m.deeds) c.mover.view_is) c.in_ok-rows.ensures).unmapped
