use Rattle.std.proofs.lemmas.List.Elements.{All-more}
use Rattle.ad_kit.specs.ObjectFile.{header, null_header}
use Rattle.ad_kit.specs.Private.Written.{IsHeaderFit}
use Rattle.ad_kit.proofs.Bytes.{pieces_more}
use Rattle.ad_kit.proofs.table.put_headers.Goals as goal

pub loop-k-preserved : goal.loop-k-preserved
loop-k-preserved c = record {
  bytes = pieces_more header c.args.file.now.items c.args.headers.now c.loop-k.k null_header c.loop-k.file.items _ c.loop-k-test.true c.loop-k.invariant.bytes c.in_ok-put_header.ensures.bytes;
  fit = All-more IsHeaderFit c.args.headers.now c.loop-k.k null_header c.loop-k-test.true c.loop-k.invariant.fit c.in_ok-put_header.ensures.fit;
}
