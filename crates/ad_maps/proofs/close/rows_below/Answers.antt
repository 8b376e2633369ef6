use Rattle.std.proofs.Common.{◌+◌, ap, sym, ◌∙◌, ◌++◌, ◌∷◌, [], get_or, refl, subst}
use Rattle.ad_base.specs.declared.ledger.Row.{Row}
use Rattle.ad_maps.specs.Private.Numbered.{AreRowsBelow}
use Rattle.ad_maps.proofs.Numbering.{no_rows, one_row, same_rows}
use Rattle.ad_maps.proofs.close.rows_below.Goals as goal

pub loop-number-init : goal.loop-number-init
loop-number-init c = subst (AreRowsBelow c.args.frames c.args.lines.now c.args.numbered.now 0) (sym c.new-rows.ensures.items) (no_rows c.args.frames c.args.lines.now c.args.numbered.now)

pub loop-number-preserved : goal.loop-number-preserved
loop-number-preserved c =
    let rows = c.loop-number.rows.items in
    let k = c.loop-number.number in
    let numbered = c.args.numbered.now in
    subst (AreRowsBelow c.args.frames c.args.lines.now numbered (k + 1)) (sym (c.in_ok-push.ensures.items ∙ ap (λ (r : Row). rows ++ r ∷ []) c.row_of.ensures))
    (one_row c.args.frames k (get_or numbered k 0) c.args.lines.now numbered rows c.loop-number.invariant c.requires.numbered c.loop-number-test.true refl c.if-word-eq0.false)

pub loop-number-preserved-then-word-eq0 : goal.loop-number-preserved-then-word-eq0
loop-number-preserved-then-word-eq0 c = same_rows c.args.frames c.loop-number.number (get_or c.args.numbered.now c.loop-number.number 0) c.args.lines.now c.args.numbered.now c.loop-number.rows.items c.loop-number.invariant refl c.if-word-eq0.true
