use Rattle.std.proofs.Common.{◌≡◌, length, arith, ap, sym, ◌∙◌}
use Rattle.ad_base.specs.Place.{base_of}
use Rattle.ad_maps.specs.declared.shape.Opening.{Opening}
use Rattle.ad_maps.specs.MapPlace.{cell_word, cells_of}
use Rattle.ad_maps.specs.Private.Laid.{place_of_module}
use Rattle.ad_maps.proofs.Openings.{frame-low, word-at, lay_cell_of, lay_done}
use Rattle.ad_maps.proofs.open.lay_cells.Goals as goal

pub bounds-words-frame : goal.bounds-words-frame
bounds-words-frame c =
    let long = c.loop-entry.invariant.are.0 in
    let frame = c.from-frame.ensures in
    let place = ap (λ (o : Opening). o.place.frame) c.requires.opening in
    let low = frame-low c.args.shape.now c.requires.shape c.args.module c.requires.in_range in
    let cells = ap length (c.as_slice-cells.ensures ∙ ap (λ (o : Opening). o.cells) c.requires.opening) in
    let few = (c.requires.shape.each c.args.module c.requires.in_range).few_cells in
    let before = c.loop-entry-test.true in
    omega arith

pub loop-entry-preserved : goal.loop-entry-preserved
loop-entry-preserved c =
    let shape = c.args.shape.now in
    let m = c.args.module in
    let e = c.loop-entry.entry in
    let cells : c.as_slice-cells.result.now ≡ cells_of shape m = c.as_slice-cells.ensures ∙ ap (λ (o : Opening). o.cells) c.requires.opening in
    let base : c.base-base.result ≡ base_of (place_of_module shape m) = c.base-base.ensures.value ∙ ap (λ (o : Opening). base_of o.place) c.requires.opening in
    let before = c.loop-entry-test.true in
    let frame : c.from-frame.result ≡ (place_of_module shape m).frame = c.from-frame.ensures ∙ ap (λ (o : Opening). o.place.frame) c.requires.opening in
    lay_cell_of shape c.requires.shape m e c.loop-entry.words c.word_of.result c.from-frame.result frame c.requires.in_range
    (let long = ap length cells in omega arith)
    (c.word_of.ensures ∙ (sym (word-at c.as_slice-cells.result.now c.base-base.result e _ before) ∙ (λ i. cell_word (cells i) (base i) e)))
    c.loop-entry.invariant

pub returns : goal.returns
returns c =
    let shape = c.args.shape.now in
    let m = c.args.module in
    let cells = ap length (c.as_slice-cells.ensures ∙ ap (λ (o : Opening). o.cells) c.requires.opening) in
    let upper = c.loop-entry.auto.entry-end in
    let lower = c.loop-entry-test.false in
    lay_done shape c.requires.shape m c.loop-entry.entry c.loop-entry.words c.requires.in_range (omega arith) c.loop-entry.invariant
