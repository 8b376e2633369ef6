use Rattle.std.proofs.Common.{◌+◌, ◌<◌, ap, arith}
use Rattle.ad_maps.specs.Seen.{MoverSeen}
use Rattle.ad_maps.proofs.Retired.{room-more, retired-idle, retired-rest, retired-deeds}
use Rattle.ad_maps.proofs.maps.Maps.retire.Goals as goal

pub overflow_add-batch : goal.overflow_add-batch
overflow_add-batch c = let few : c.mover.inside.batches + 1 < 4096 = room-more _ _ _ _ _ c.mover.invariant (ap (λ (m : MoverSeen). m.outs) c.mover.view_is) c.requires.outs c.requires.some in omega arith

pub list_all-requires-clause-few_batches : goal.list_all-requires-clause-few_batches
list_all-requires-clause-few_batches c = room-more _ _ _ _ _ c.mover.invariant (ap (λ (m : MoverSeen). m.outs) c.mover.view_is) c.requires.outs c.requires.some

pub open-requires-clause-few : goal.open-requires-clause-few
open-requires-clause-few c = room-more _ _ _ _ _ c.mover.invariant (ap (λ (m : MoverSeen). m.outs) c.mover.view_is) c.requires.outs c.requires.some

pub pass-requires-clause-few : goal.pass-requires-clause-few
pass-requires-clause-few c = room-more _ _ _ _ _ c.mover.invariant (ap (λ (m : MoverSeen). m.outs) c.mover.view_is) c.requires.outs c.requires.some

pub invariant_of-mover : goal.invariant_of-mover
invariant_of-mover c = retired-idle _ _ _ _ _ _ c.args.line c.args.outs.now.items c.mover.invariant c.list_all.ensures.view c.open.ensures.view c.open.ensures.room c.pass.ensures.passed

pub returns-clause-owing_nothing : goal.returns-clause-owing_nothing
returns-clause-owing_nothing c = retired-rest _ _ _ _ _ _ c.args.line c.args.outs.now.items c.mover.invariant c.list_all.ensures.view c.open.ensures.view c.open.ensures.room c.pass.ensures.passed

pub returns-clause-deeds : goal.returns-clause-deeds
returns-clause-deeds c = retired-deeds _ _ _ _ _ _ c.args.line c.args.outs.now.items c.mover.invariant c.list_all.ensures.view c.open.ensures.view c.open.ensures.room c.pass.ensures.passed _ (ap (λ (m : MoverSeen). m.deeds) c.mover.view_is)
