use Rattle.std.proofs.Common.{◌∙◌}
use Rattle.ad_maps.specs.Private.Handles.{acts_of}
use Rattle.ad_maps.proofs.Freed.{adds-more}
use Rattle.ad_maps.proofs.free.pay_batches.Goals as goal

pub loop-paid-preserved : goal.loop-paid-preserved
loop-paid-preserved c = record {
  at = c.pay_batch.ensures.at ∙ c.loop-paid.invariant.at;
  left = c.pay_batch.ensures.paid;
  worker = c.pay_batch.ensures.worker ∙ c.loop-paid.invariant.worker;
  acts = adds-more (acts_of c.args.seat.now.me.0) (acts_of c.loop-paid.seat.me.0) (acts_of c.pay_batch.new.seat.me.0) c.loop-paid.invariant.acts c.pay_batch.ensures.acts;
}
