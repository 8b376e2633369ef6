use Rattle.std.proofs.Common.{◌∙◌, ap, sym, subst, length, map, vec_capacity}
use Rattle.std.specs.List.{zip}
use Rattle.ad_lines.specs.Opening.{opening_requests}
use Rattle.ad_lines.specs.Private.Places.{AreNumberedPlaces, IsMappingList, thing_row}
use Rattle.ad_lines.proofs.Opens.{rows-list, rows-of-things}
use Rattle.ad_lines.proofs.mappings.MappingList.open.Goals as goal

pub invariant_of-result-2 : goal.invariant_of-result-2
invariant_of-result-2 c =
    let requests = opening_requests c.args.workers c.args.images.now in
    let places = c.placer.inside.places.items in
    let same = ap (λ d. d.places) c.placer.view_is in
    let capacity = vec_capacity c.in_ok-rows.rows in
    let things = c.deref.ensures.value ∙ c.in_ok-things.ensures in
    let rows = c.in_ok-rows.ensures.rows ∙ (λ j. map thing_row (zip (things j) ((c.places.ensures ∙ sym same) j))) ∙ rows-of-things requests places in
    subst (λ rows. IsMappingList places rows capacity) (sym rows)
    (rows-list requests places (c.requires.each ∙ ap length (sym same)) capacity (subst AreNumberedPlaces (sym same) c.requires.numbered) c.in_ok-rows.ensures.room)

pub returns-clause-placement : goal.returns-clause-placement
returns-clause-placement c =
    let requests = opening_requests c.args.workers c.args.images.now in
    let things = c.deref.ensures.value ∙ c.in_ok-things.ensures in
    let rows = c.in_ok-rows.ensures.rows ∙ (λ j. map thing_row (zip (things j) (c.places.ensures j))) ∙ rows-of-things requests c.args.placer.places in
    λ j. record { drawn = c.placer.view_is j; moves = c.in_ok-with_capacity.ensures.items j; rows = rows j }
