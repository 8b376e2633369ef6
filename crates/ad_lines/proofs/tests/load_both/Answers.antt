use Rattle.std.proofs.Common.{◌∙◌, List, [], ◌∷◌, length, ap, sym, subst, arith}
use Rattle.ad_base.specs.declared.image.Image.{Image}
use Rattle.ad_lines.specs.Opening.{opening_drawn, AreLoaded}
use Rattle.ad_lines.proofs.LoadedPush.{length-stacks, loaded-none, seed-drawn}
use Rattle.ad_lines.proofs.Opens.{length-drawn}
use Rattle.ad_place.specs.Choice.{Drawn}
use Rattle.ad_lines.proofs.tests.load_both.Goals as goal

pub load-requires : goal.load-requires
load-requires c =
    let places = ap (λ (d : Drawn). length d.places) c.in_ok-placer.ensures in
    omega (arith, places, length-stacks 0 2)

pub load-requires-2 : goal.load-requires-2
load-requires-2 c =
    let first = c.in_ok-first.ensures.loaded 0 2 [] (loaded-none 0 2 (omega arith) (omega arith)) (omega arith) c.in_ok-placer.ensures in
    let places = ap (λ (d : Drawn). length d.places) (first.1) in
    omega (arith, places, length-drawn 0 2 (c.in_ok-first.first ∷ []) (first.0))

pub returns-clause-loaded : goal.returns-clause-loaded
returns-clause-loaded c =
    let images : List Image = c.in_ok-first.first ∷ c.in_ok-second.second ∷ [] in
    let first = c.in_ok-first.ensures.loaded 0 2 [] (loaded-none 0 2 (omega arith) (omega arith)) (omega arith) c.in_ok-placer.ensures in
    let second = c.in_ok-second.ensures.loaded 0 2 (c.in_ok-first.first ∷ []) (first.0) (omega arith) (first.1) in
    let seed = ap (λ (d : Drawn). d.seed) (second.1) ∙ seed-drawn 0 2 images in
    subst (λ n. AreLoaded n 2 images) (sym seed) (second.0)

pub returns-clause-drawn : goal.returns-clause-drawn
returns-clause-drawn c =
    let images : List Image = c.in_ok-first.first ∷ c.in_ok-second.second ∷ [] in
    let first = c.in_ok-first.ensures.loaded 0 2 [] (loaded-none 0 2 (omega arith) (omega arith)) (omega arith) c.in_ok-placer.ensures in
    let second = c.in_ok-second.ensures.loaded 0 2 (c.in_ok-first.first ∷ []) (first.0) (omega arith) (first.1) in
    let seed = ap (λ (d : Drawn). d.seed) (second.1) ∙ seed-drawn 0 2 images in
    second.1 ∙ (λ j. opening_drawn (sym seed j) 2 images)
