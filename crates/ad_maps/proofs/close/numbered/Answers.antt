use Rattle.std.proofs.Common.{ap, ◌∙◌, arith}
use Rattle.std.specs.Mem.Slots.{slots_items}
use Rattle.ad_base.specs.declared.place.Place.{Place}
use Rattle.ad_maps.proofs.Numbering.{none_numbered, one_numbered, same_numbered, word_has_place}
use Rattle.ad_maps.proofs.close.numbered.Goals as goal

pub loop-region-init : goal.loop-region-init
loop-region-init c = none_numbered (slots_items c.args.words.now.words) c.in_ok-numbered.numbered.items (let long = c.in_ok-numbered.numbered.ok.0 in let count = c.in_ok-numbered.ensures.len in omega arith) c.in_ok-numbered.ensures.zero

pub place_of-requires : goal.place_of-requires
place_of-requires c = word_has_place (slots_items c.args.words.now.words) c.loop-region.region c.word-word.result c.requires.directory c.loop-region-test.true c.word-word.ensures c.if-word-eq0.false

pub loop-region-preserved : goal.loop-region-preserved
loop-region-preserved c = one_numbered (slots_items c.args.words.now.words) c.loop-region.region c.word-word.result c.loop-region.numbered.items c.from.result c.loop-region.invariant c.requires.directory c.loop-region-test.true c.word-word.ensures c.if-word-eq0.false
    (c.from.ensures ∙ ap (λ (p : Place). p.mapping) c.place_of.ensures.value) (let is = c.from.ensures in let few = c.place_of.ensures.number in omega arith)

pub loop-region-preserved-then-word-eq0 : goal.loop-region-preserved-then-word-eq0
loop-region-preserved-then-word-eq0 c = same_numbered (slots_items c.args.words.now.words) c.loop-region.region c.word-word.result c.loop-region.numbered.items c.loop-region.invariant c.word-word.ensures c.if-word-eq0.true
