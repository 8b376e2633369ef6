use Rattle.std.proofs.Common.{ℕ, List, sym, ap, subst}
use Rattle.std.specs.List.{Contains}
use Rattle.ad_maps.specs.declared.shape.Shape.{Shape}
use Rattle.ad_maps.specs.declared.view.Made.{Made}
use Rattle.ad_maps.specs.Ledger.{all_made}
use Rattle.ad_maps.specs.MapPlace.{IsPlaceOf}
use Rattle.ad_maps.specs.Seen.{OpenMaps, MoverSeen, RoomSeen}
use Rattle.ad_maps.proofs.Idle.{mapped-idle}
use Rattle.ad_maps.proofs.maps.Maps.map.Goals as goal

pub make-requires-clause-may : goal.make-requires-clause-may
make-requires-clause-may c =
    let shape = ap (λ (m : OpenMaps). m.shape) c.self.view_is in
    let deeds = ap (λ (m : MoverSeen). m.deeds) c.mover.view_is in
    let rooms = ap (λ (m : MoverSeen). m.rooms) c.mover.view_is in
    let of = ap (λ (r : RoomSeen). r.of_module) c.room.view_is in
    let frame = ap (λ (r : RoomSeen). r.frame) c.room.view_is in record {
      form = subst (λ (k : Shape). IsPlaceOf k c.room.inside.of_module c.args.place) (sym shape) (subst (λ (m : ℕ). IsPlaceOf c.args.self.now.shape m c.args.place) (sym of) c.requires.place);
      room = subst (λ (fs : List ℕ). Contains fs c.args.place.frame) (sym rooms) (subst (Contains c.args.mover.now.rooms) (sym c.requires.frame) c.requires.room);
      above = λ x there. c.requires.above x (subst (λ (gs : List Made). Contains gs x) (λ i. all_made (shape i) (deeds i)) there);
      region = λ x there. c.requires.region x (subst (λ (gs : List Made). Contains gs x) (λ i. all_made (shape i) (deeds i)) there);
    }

pub invariant_of-mover : goal.invariant_of-mover
invariant_of-mover c = mapped-idle _ _ _ c.mover.invariant _ _ c.make.ensures.view
