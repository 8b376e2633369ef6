use Rattle.std.proofs.Common.{◌∙◌, sym, ◌++◌, ◌∷◌, [], ap, arith}
use Rattle.ad_base.specs.declared.ledger.Row.{Row}
use Rattle.std.specs.Mem.Slots.{slots_items}
use Rattle.ad_stacks.proofs.Closing.{none_in, one_in, rows_in-zero, word_of_stack}
use Rattle.ad_stacks.proofs.close.rows_of.Goals as goal

pub loop-number-init : goal.loop-number-init
loop-number-init c = c.new-rows.ensures.items ∙ sym (rows_in-zero (slots_items c.args.closed.now.words))

pub row_of-requires : goal.row_of-requires
row_of-requires c = word_of_stack (slots_items c.args.closed.now.words) c.loop-number.number c.word-word.result (omega arith) c.word-word.ensures c.if-word-eq0.false c.requires.records

pub loop-number-preserved : goal.loop-number-preserved
loop-number-preserved c = c.in_ok-push.ensures.items ∙ (ap (λ (r : Row). c.loop-number.rows.items ++ r ∷ []) c.row_of.ensures ∙ one_in (slots_items c.args.closed.now.words) c.loop-number.number c.word-word.result c.word-mark.result c.loop-number.rows.items c.loop-number.invariant c.word-word.ensures c.word-mark.ensures c.if-word-eq0.false)

pub loop-number-preserved-then-word-eq0 : goal.loop-number-preserved-then-word-eq0
loop-number-preserved-then-word-eq0 c = none_in (slots_items c.args.closed.now.words) c.loop-number.number c.word-word.result c.loop-number.rows.items c.loop-number.invariant c.word-word.ensures c.if-word-eq0.true
