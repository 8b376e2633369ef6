use Rattle.std.proofs.Common.{arith}
use Rattle.std.specs.Mem.Slots.{slots_items}
use Rattle.ad_maps.proofs.Numbering.{none_lined, one_lined, same_lined}
use Rattle.ad_maps.proofs.close.lined.Goals as goal

pub loop-index-init : goal.loop-index-init
loop-index-init c = none_lined (slots_items c.args.words.now.words) c.in_ok-lines.lines.items (let long = c.in_ok-lines.lines.ok.0 in let count = c.in_ok-lines.ensures.len in omega arith) c.in_ok-lines.ensures.zero

pub loop-index-preserved : goal.loop-index-preserved
loop-index-preserved c = one_lined (slots_items c.args.words.now.words) c.loop-index.index c.word-word.result c.loop-index.lines.items c.loop-index.invariant c.requires.members c.loop-index-test.true c.word-word.ensures c.if-word-eq0.false

pub loop-index-preserved-then-word-eq0 : goal.loop-index-preserved-then-word-eq0
loop-index-preserved-then-word-eq0 c = same_lined (slots_items c.args.words.now.words) c.loop-index.index c.word-word.result c.loop-index.lines.items c.loop-index.invariant c.word-word.ensures c.if-word-eq0.true
