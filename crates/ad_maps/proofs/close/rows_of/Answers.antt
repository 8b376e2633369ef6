use Rattle.std.proofs.Common.{subst, sym, ℕ, List}
use Rattle.std.proofs.lemmas.Result.{IfOk-weaker}
use Rattle.std.specs.Mem.Slots.{slots_items}
use Rattle.ad_maps.specs.Private.Numbered.{AreRowsBelow, IsByNumber}
use Rattle.ad_maps.proofs.Numbering.{by_number, rows_said}
use Rattle.ad_maps.proofs.close.rows_of.Goals as goal

pub rows_below-requires-clause-numbered : goal.rows_below-requires-clause-numbered
rows_below-requires-clause-numbered c = subst IsByNumber (sym c.as_slice.ensures.value) (by_number (slots_items c.args.words.now.words) c.in_ok-numbered.numbered.items c.in_ok-numbered.ensures c.requires.directory)

pub returns : goal.returns
returns c = IfOk-weaker c.rows_below.result _ _ (λ rows h. record {
  lines = c.in_ok-lines.lines.items;
  are = c.in_ok-lines.ensures;
  say = rows_said c.args.frames c.in_ok-lines.lines.items (slots_items c.args.words.now.words) c.in_ok-numbered.numbered.items rows.items c.requires.directory c.in_ok-numbered.ensures
      (subst (λ (ls : List ℕ). AreRowsBelow c.args.frames ls c.in_ok-numbered.numbered.items 4096 rows.items) c.as_slice-2.ensures.value (subst (λ (xs : List ℕ). AreRowsBelow c.args.frames c.as_slice-2.result.now xs 4096 rows.items) c.as_slice.ensures.value h));
}) c.rows_below.ensures
