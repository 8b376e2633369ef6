use Rattle.std.proofs.Common.{ap, arith, length}
use Rattle.ad_maps.proofs.Openings.{none_laid}
use Rattle.ad_maps.proofs.OpeningWords.{laid-is}
use Rattle.ad_maps.proofs.open.words_of.Goals as goal

pub loop-module-init : goal.loop-module-init
loop-module-init c = none_laid c.args.shape.now c.in_ok-words.words.items (let o = c.in_ok-words.words.ok.0 in let l = c.in_ok-words.ensures.len in omega arith) c.in_ok-words.ensures.zero

pub returns-clause-len : goal.returns-clause-len
returns-clause-len c = c.loop-module.invariant.are.0

pub returns-clause-value : goal.returns-clause-value
returns-clause-value c =
    let modules = c.as_slice-modules.ensures in
    let e = c.loop-module.auto.module-end in
    let f = c.loop-module-test.false in
    laid-is c.args.shape.now c.requires c.loop-module.module c.loop-module.words.items (let n = ap length modules in omega arith) c.loop-module.invariant
