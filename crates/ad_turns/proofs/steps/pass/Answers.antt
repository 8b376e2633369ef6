use Rattle.std.proofs.Common.{◌+◌, ◌<◌, arith}
use Rattle.ad_turns.specs.Private.Handles.{held_by}
use mathlib.Core.Option.{none}
use Rattle.atomic_table.specs.Table.{step}
use Rattle.ad_turns.proofs.Allowed.{allows_pass, inside}
use Rattle.ad_turns.proofs.steps.pass.Goals as goal

pub fetch_add-requires : goal.fetch_add-requires
fetch_add-requires c =
    let few : c.args.module < 8 = c.requires.of_module in
    (c.requires.at.same, inside (9 + c.args.module) c.requires.at (omega arith), allows_pass _ _ _ _ (step c.args.table.now.shared.table_id.slots (9 + c.args.module) 1 0 none) _ c.args.module c.args.number (held_by c.args.seat.now.me.0) c.requires.gives)
