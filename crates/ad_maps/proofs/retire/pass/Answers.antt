use Rattle.std.proofs.Common.{◌∙◌, ◌+◌}
use Rattle.ad_maps.specs.Private.Handles.{plan_of}
use Rattle.ad_maps.proofs.Retired.{passes-more}
use Rattle.ad_maps.proofs.retire.pass.Goals as goal

pub loop-slot-preserved : goal.loop-slot-preserved
loop-slot-preserved c = record {
  at = c.pass_slot.ensures.at ∙ c.loop-slot.invariant.at;
  passes = passes-more (plan_of c.args.seat.now.me.0) c.loop-slot.slot (c.loop-slot.slot + 1) c.loop-slot.seat.me c.pass_slot.new.seat.me c.loop-slot.invariant.passes c.pass_slot.ensures.passed;
}
