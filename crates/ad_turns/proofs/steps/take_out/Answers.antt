use Rattle.std.proofs.Common.{Some}
use Rattle.ad_turns.specs.Private.Handles.{held_by}
use Rattle.ad_turns.proofs.Lists.{own_slot}
use Rattle.ad_turns.proofs.steps.take_out.Goals as goal

pub exchange-found-requires : goal.exchange-found-requires
exchange-found-requires c = (c.requires.at.same, (Some (held_by c.args.seat.now.me.0), own_slot c.args.module _ _ c.requires.slot))
