use Rattle.std.proofs.Common.{◌≡◌}
use Rattle.ad_maps.specs.Private.Handles.{plan_of, HaveOwners}
use Rattle.ad_maps.specs.Private.Tells.{nothing_made}
use Rattle.ad_maps.proofs.moves.find.Given as goal

abbrev pub invariant-loop-index : goal.invariant-loop-index
invariant-loop-index l = record {
  at : l.seat.table_id ≡ l.fn.seat.table_id;
  looked : HaveOwners l.table.shared.key l.first l.index l.last (plan_of l.fn.seat.me.0) l.seat.me;
}

abbrev pub ghosts-look : goal.ghosts-look
ghosts-look a = record { shape = a.table.now.shared.key; number = a.frame; made = nothing_made }
