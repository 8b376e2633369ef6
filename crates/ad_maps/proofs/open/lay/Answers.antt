use Rattle.std.proofs.Common.{ap, sym, ◌∙◌, subst}
use Rattle.ad_base.specs.Place.{packed, IsPlace}
use Rattle.ad_maps.specs.declared.shape.Opening.{Opening}
use Rattle.ad_maps.proofs.Openings.{lay_three_of}
use Rattle.ad_maps.proofs.open.lay.Goals as goal

pub lay_cells-requires-clause-laid : goal.lay_cells-requires-clause-laid
lay_cells-requires-clause-laid c =
    let shape = c.args.shape.now in
    let m = c.args.module in
    let is = c.requires.opening in
    let form = subst (λ (o : Opening). IsPlace o.place) (sym is) (c.requires.shape.each m c.requires.in_range).place.place in
    lay_three_of shape c.requires.shape m c.args.words.now c.pack-word.result c.from.result c.from-3.result c.from-2.result c.requires.in_range
    (c.pack-word.ensures.value form ∙ ap (λ (o : Opening). packed o.place) is)
    (c.from.ensures ∙ ap (λ (o : Opening). o.place.region) is)
    (c.from-3.ensures ∙ ap (λ (o : Opening). o.place.frame) is)
    (c.from-2.ensures ∙ ap (λ (o : Opening). o.place.mapping) is)
    c.requires.laid
