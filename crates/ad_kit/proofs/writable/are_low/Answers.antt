use Rattle.std.proofs.Common.{◌<◌, ◌^◌, arith, refl}
use Rattle.std.proofs.lemmas.List.{take_all}
use Rattle.std.proofs.lemmas.List.Elements.{All-more}
use Rattle.ad_kit.specs.ReadBack.{no_rela}
use Rattle.ad_kit.specs.declared.object.KitRela.{KitRela}
use Rattle.ad_kit.proofs.writable.are_low.Goals as goal

pub loop-k-preserved : goal.loop-k-preserved
loop-k-preserved c =
    let P = λ (r : KitRela). r.symbol < 2 ^ 32 in
    All-more P c.args.relas.now c.loop-k.k no_rela c.loop-k-test.true c.loop-k.invariant (omega (arith, c.if-relas-k.false))

pub returns : goal.returns
returns c = (λ yes. rw (take_all c.loop-k.k c.args.relas.now c.loop-k-test.false) at c.loop-k.invariant, λ all. refl)
