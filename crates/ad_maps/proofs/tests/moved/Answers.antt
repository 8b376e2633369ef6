use Rattle.std.proofs.Common.{◌+◌, ◌<◌, List, ◌++◌, [], ◌∷◌, set, arith, ap, sym, subst, ◌∙◌}
use Rattle.std.specs.List.{Contains}
use Rattle.std.proofs.lemmas.List.Elements.{Contains-push}
use Rattle.ad_base.specs.declared.place.Place.{Place}
use Rattle.ad_maps.specs.declared.view.Made.{Made}
use Rattle.ad_maps.proofs.Ledgers.{all-after_looks}
use Rattle.ad_maps.proofs.Trials.{may-look, may-moved}
use Rattle.ad_maps.proofs.tests.moved.Goals as goal

pub map-mapped-requires-clause-above : goal.map-mapped-requires-clause-above
map-mapped-requires-clause-above c = all-after_looks (λ x. x.place.mapping < c.test_place-place.result.mapping) c.args.maps.now.shape c.args.mover.now.deeds c.room.new.mover.deeds _ _ c.in-Ok.ensures.found.looks (λ x m. let l = c.requires.may.above x m in let is = ap (λ (p : Place). p.mapping) c.test_place-place.ensures in omega arith)

pub map-mapped-requires-clause-region : goal.map-mapped-requires-clause-region
map-mapped-requires-clause-region c x there same =
    let below = all-after_looks (λ x. x.place.region < 2 + c.args.number) c.args.maps.now.shape c.args.mover.now.deeds c.room.new.mover.deeds _ _ c.in-Ok.ensures.found.looks c.requires.may.region x there in
    let is = ap (λ (p : Place). p.region) c.test_place-place.ensures in
    omega arith

pub switch-out-requires-clause-fresh : goal.switch-out-requires-clause-fresh
switch-out-requires-clause-fresh c = subst (λ (gs : List Made). Contains gs c.map-mapped.result) (sym c.map-mapped.ensures.fresh) (Contains-push c.room.new.mover.fresh c.map-mapped.result)

pub returns-in-Err : goal.returns-in-Err
returns-in-Err c = may-look c.args.maps.now c.args.mover.now c.room.new.mover c.args.outs.now.items c.args.number _ _ c.requires.may c.in-Err.ensures.table c.in-Err.ensures.current c.in-Err.ensures.outs c.in-Err.ensures.none.looks

pub returns : goal.returns
returns c = may-moved c.args.maps.now c.args.mover.now c.room.new.mover c.map-mapped.new.mover c.switch-out.new.mover c.args.outs.now.items c.push.new.self.items c.args.number _ _ _ _ _ _ c.switch-out.result c.requires.may
    c.in-Ok.ensures.found.looks c.map-mapped.ensures.deeds c.switch-out.ensures.deeds
    (c.switch-out.ensures.table ∙ (c.map-mapped.ensures.table ∙ c.in-Ok.ensures.table))
    (c.switch-out.ensures.current ∙ (λ i. set ((c.map-mapped.ensures.current ∙ c.in-Ok.ensures.current) i) c.map-mapped.result.of_module ((ap (λ (g : Made). g.place.mapping) c.map-mapped.ensures.mapped ∙ ap (λ (p : Place). p.mapping) c.test_place-place.ensures) i)))
    (c.switch-out.ensures.outs ∙ ap (λ (gs : List Made). gs ++ c.switch-out.result ∷ []) (c.map-mapped.ensures.outs ∙ c.in-Ok.ensures.outs))
    c.in_ok-push.ensures.items
    (ap (λ (p : Place). p.mapping) c.test_place-place.ensures)
    (ap (λ (p : Place). p.region) c.test_place-place.ensures)
    (λ g there. c.switch-out.ensures.new g (subst (λ (gs : List Made). Contains gs g) (sym (c.map-mapped.ensures.outs ∙ c.in-Ok.ensures.outs)) there))
