use Rattle.std.proofs.lemmas.List.Elements.{All-more}
use Rattle.ad_kit.specs.ObjectFile.{rela}
use Rattle.ad_kit.specs.ReadBack.{IsRelaFit, no_rela}
use Rattle.ad_kit.proofs.Bytes.{pieces_more}
use Rattle.ad_kit.proofs.body.put_relas_of.Goals as goal

pub loop-k-preserved : goal.loop-k-preserved
loop-k-preserved c = record {
  bytes = pieces_more rela c.args.body.now.items c.args.relas.now c.loop-k.k no_rela c.loop-k.body.items _ c.loop-k-test.true c.loop-k.invariant.bytes c.in_ok-put_rela.ensures.bytes;
  fit = All-more IsRelaFit c.args.relas.now c.loop-k.k no_rela c.loop-k-test.true c.loop-k.invariant.fit c.in_ok-put_rela.ensures.fit;
}
