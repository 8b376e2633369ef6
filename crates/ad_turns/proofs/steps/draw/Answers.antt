use Rattle.std.proofs.Common.{◌+◌, ◌<◌, arith, refl}
use mathlib.Core.Option.{none}
use Rattle.atomic_table.specs.Table.{step}
use Rattle.ad_turns.proofs.Allowed.{allows_draw, inside}
use Rattle.ad_turns.proofs.steps.draw.Goals as goal

pub fetch_add-requires : goal.fetch_add-requires
fetch_add-requires c =
    let few : c.args.module < 8 = c.requires.of_module in
    (c.requires.at.same, inside (1 + c.args.module) c.requires.at (omega arith), allows_draw _ _ _ _ (step c.args.table.now.shared.table_id.slots (1 + c.args.module) 1 0 none) _ c.args.module refl c.requires.rests c.requires.left)
