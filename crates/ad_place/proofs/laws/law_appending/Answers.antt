use Rattle.std.proofs.Common.{[], ◌∷◌, ◌++◌, ap, ◌∙◌}
use Rattle.ad_place.specs.Choice.{drawn_from, next_place, places_of, Drawn}
use Rattle.ad_place.proofs.Requests.{drawn_from-append, seed-drawn_from}
use Rattle.ad_place.proofs.laws.law_appending.Goals as goal

pub returns : goal.returns
unfolding places_of
returns c = λ seed requests kind pages.
    let start : Drawn = record { seed = seed; places = [] } in
    let before = (drawn_from start requests).places in
    let next = λ (seed : _). let d : Drawn = record { seed = seed; places = before } in before ++ next_place d kind pages ∷ [] in
    ap (λ (d : Drawn). d.places) (drawn_from-append start requests kind pages) ∙ ap next (seed-drawn_from start requests)
