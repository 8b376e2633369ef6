use Rattle.std.proofs.Common.{◌≡◌, ◌+◌, ◌<◌, ◌≤◌, ◌∷◌, [], ◌++◌, ◌∙◌, Some, ap, get_or, length, map, refl, sym, arith}
use Rattle.std.specs.List.{enumerate_from, zip}
use Rattle.std.proofs.lemmas.List.{length-map, take_all}
use Rattle.std.proofs.lemmas.List.FromFn.{length-enumerate_from}
use Rattle.std.proofs.lemmas.Option.{slice_get-get_or, slice_get_read}
use Rattle.std.proofs.lemmas.Slice.Zip.{length-zip}
use Rattle.ad_base.specs.declared.place.Place.{Place}
use Rattle.ad_lines.proofs.ListReads.{read-enumerate, read-map}
use Rattle.ad_lines.proofs.Zips.{read-zip, take-next}
use Rattle.ad_run.specs.Opened.{opening_for}
use Rattle.ad_run.proofs.open.openings_of.Goals as goal

pub loop-module-preserved : goal.loop-module-preserved
loop-module-preserved c =
    let n = c.loop-module.«module» in
    let images = c.args.images.now in
    let parts = c.args.parts.now in
    let frames = c.args.frames in
    let image = c.index-images-module.result in
    let none : Place = record { region = 0; start = 0; pages = 0; mapping = 0; frame = 0 } in
    let part = get_or parts n none in
    let within : n < length images = omega arith in
    let found = slice_get_read images (length images) n image refl within c.index-images-module.is in
    let at : 0 + n ≡ n = omega arith in
    let numbered = read-enumerate 0 images n image found ∙ ap (λ k. Some (k, image)) at in
    let lies = slice_get-get_or parts n none (omega (arith, within, c.requires.each)) in
    let pairs = zip (enumerate_from 0 images) parts in
    let there = read-map (opening_for frames) pairs n ((n, image), part) (read-zip (enumerate_from 0 images) parts n (n, image) part numbered lies) in
    c.in_ok-push.ensures.items
    ∙ (λ j. c.loop-module.invariant j ++ c.in_ok-opening_at.ensures j ∷ [])
    ∙ sym (take-next (map (opening_for frames) pairs) n (opening_for frames ((n, image), part)) there)

pub returns : goal.returns
returns c =
    let images = c.args.images.now in
    let pairs = zip (enumerate_from 0 images) c.args.parts.now in
    let n = c.loop-module.«module» in
    let long : length (map (opening_for c.args.frames) pairs) ≤ n = omega (arith, length-map pairs (opening_for c.args.frames), length-zip (enumerate_from 0 images) c.args.parts.now, length-enumerate_from 0 images) in
    c.loop-module.invariant ∙ take_all n (map (opening_for c.args.frames) pairs) long
