use Rattle.std.proofs.Common.{List, ap, sym, subst, ◌∙◌}
use Rattle.std.specs.List.{Contains}
use Rattle.ad_base.specs.declared.place.Place.{Place}
use Rattle.ad_maps.specs.declared.view.Made.{Made}
use Rattle.ad_maps.specs.Seen.{MoverSeen}
use Rattle.ad_maps.proofs.Idle.{switched-idle}
use Rattle.ad_maps.proofs.maps.Maps.switch.Goals as goal

pub invariant_of-mover : goal.invariant_of-mover
invariant_of-mover c = switched-idle _ _ _ c.mover.invariant _ _ c.switch-word.result c.switch-word.ensures.room c.switch-word.ensures.view

pub returns-clause-new : goal.returns-clause-new
returns-clause-new c g out same = c.switch-word.ensures.new g (subst (λ (gs : List Made). Contains gs g) (sym (ap (λ (m : MoverSeen). m.outs) c.mover.view_is)) out) (same ∙ ap (λ (p : Place). p.mapping) c.place_of-place.ensures)
