use Rattle.std.proofs.Common.{◌<◌, arith, slice_index_or}
use Rattle.ad_stacks.specs.Private.Opening.{nowhere}
use Rattle.ad_stacks.proofs.Numbers.{number_fits}
use Rattle.ad_stacks.proofs.Openings.{none_laid, one_laid}
use Rattle.ad_stacks.proofs.OpeningWords.{words_are}
use Rattle.ad_stacks.proofs.open.words_of.Goals as goal

pub loop-lane-init : goal.loop-lane-init
loop-lane-init c = none_laid c.in_ok-words.words.items c.args.places.now (let o = c.in_ok-words.words.ok.0 in let l = c.in_ok-words.ensures.len in omega arith) (c.in_ok-words.ensures.zero)

pub loop-lane-preserved : goal.loop-lane-preserved
loop-lane-preserved c =
    let place = c.requires.places c.loop-lane.lane nowhere c.loop-lane-test.true in
    let few : c.loop-lane.lane < 64 = omega arith in
    one_laid c.loop-lane.words.items c.args.places.now c.loop-lane.lane c.pack-word.result c.from.result few (let m = number_fits (slice_index_or c.args.places.now c.loop-lane.lane nowhere) place in let is = c.from.ensures in omega arith) c.loop-lane.invariant (c.pack-word.ensures.value place.place) c.from.ensures

pub returns-clause-len : goal.returns-clause-len
returns-clause-len c = c.loop-lane.invariant.0

pub returns-clause-value : goal.returns-clause-value
returns-clause-value c =
    let places = c.args.places.now in
    words_are c.loop-lane.words.items places c.loop-lane.lane c.requires.numbers (let e = c.loop-lane.auto.lane-end in let f = c.loop-lane-test.false in omega arith) c.loop-lane.invariant
