use Rattle.std.proofs.Common.{◌≡◌, ◌+◌, ◌++◌, ◌∷◌, [], ◌∙◌, map, take, length, slice_get, Some, refl, sym, ap, append_assoc, arith}
use Rattle.std.specs.List.{enumerate_from}
use Rattle.std.proofs.lemmas.List.{map_push, take_all}
use Rattle.std.proofs.lemmas.List.FromFn.{length-enumerate_from}
use Rattle.std.proofs.lemmas.Option.{slice_get_read}
use Rattle.ad_lines.proofs.ListReads.{read-enumerate}
use Rattle.ad_lines.proofs.Zips.{take-next}
use Rattle.ad_run.specs.Rows.{fixed_row}
use Rattle.ad_run.proofs.rows.push_fixed.Goals as goal

pub loop-number-preserved : goal.loop-number-preserved
loop-number-preserved c =
    let l = c.loop-number in
    let n = l.number in
    let images = c.args.images.now in
    let image = c.index-images-number.result in
    let numbered = enumerate_from 0 images in
    let before = c.args.rows.now.items in
    let found : slice_get images n ≡ Some image = slice_get_read images (length images) n image refl c.loop-number-test.true c.index-images-number.is in
    let at : 0 + n ≡ n = omega arith in
    let there : slice_get numbered n ≡ Some (n, image) = read-enumerate 0 images n image found ∙ ap (λ k. Some (k, image)) at in
    c.in_ok-push.ensures.items
    ∙ (λ j. l.invariant j ++ c.fixed_row.ensures j ∷ [])
    ∙ append_assoc before (map fixed_row (take n numbered)) (fixed_row (n, image) ∷ [])
    ∙ ap (λ xs. before ++ xs) (sym (map_push fixed_row (take n numbered) (n, image)) ∙ ap (map fixed_row) (sym (take-next numbered n (n, image) there)))

pub returns : goal.returns
returns c =
    let l = c.loop-number in
    let images = c.args.images.now in
    let all = take_all l.number (enumerate_from 0 images) (omega (arith, c.loop-number-test.false, length-enumerate_from 0 images)) in
    l.invariant ∙ ap (λ xs. c.args.rows.now.items ++ map fixed_row xs) all
