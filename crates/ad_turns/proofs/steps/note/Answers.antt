use Rattle.std.proofs.Common.{◌+◌, ◌<◌, arith}
use Rattle.ad_turns.specs.Private.Handles.{held_by}
use Rattle.ad_turns.proofs.Allowed.{allows_note, inside}
use Rattle.ad_turns.proofs.steps.note.Goals as goal

pub load-requires : goal.load-requires
load-requires g c =
    let few : c.args.module < 8 = c.requires.of_module in
    (c.requires.at.same, inside (9 + c.args.module) c.requires.at (omega arith), allows_note _ _ _ _ _ _ c.args.module c.args.number (held_by c.args.seat.now.me.0) c.args.book.now _ _ c.requires.noted c.requires.holds c.requires.may)
