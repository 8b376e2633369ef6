use Rattle.std.proofs.Common.{◌+◌, ◌%◌, arith, refl}
use Rattle.ad_maps.proofs.Allowed.{allows_unmap, stands}
use Rattle.ad_maps.proofs.steps.unmap.Goals as goal

pub fetch_add-requires : goal.fetch_add-requires
fetch_add-requires c =
    (c.requires.at.same, stands (24 + c.args.word % 65536) c.requires.at (omega arith), allows_unmap _ _ _ _ _ c.args.batch c.args.member c.args.word _ refl c.requires.found)
