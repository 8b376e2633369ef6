use Rattle.std.proofs.Common.{◌≡◌, [], take}
use Rattle.ad_maps.specs.declared.view.Doing.TheVariants.{Mover}
use Rattle.ad_maps.specs.Private.Handles.{listed_all, plan_of}
use Rattle.ad_maps.specs.Private.Tells.{nothing_known}
use Rattle.ad_maps.proofs.retire.list_all.Given as goal

abbrev pub invariant-loop-member : goal.invariant-loop-member
invariant-loop-member l = record {
  at : l.seat.table_id ≡ l.fn.seat.table_id;
  view : l.seat.me ≡ (Mover (listed_all l.line (take l.member l.fn.outs.items) (plan_of l.fn.seat.me.0)), []);
}

abbrev pub ghosts-list : goal.ghosts-list
ghosts-list a = record { shape = nothing_known; number = a.line; made = a.made }
