use Rattle.std.proofs.Common.{List, [], ◌∷◌, ◌++◌, arith, ◌∙◌, sym, ap, append_assoc}
use Rattle.ad_maps.specs.Seen.{SeatSeen}
use Rattle.ad_maps.specs.Private.Handles.{plan_of}
use Rattle.ad_maps.proofs.Allowed.{stands}
use Rattle.ad_maps.proofs.Joined.{allows_join, joined, next_one}
use Rattle.ad_maps.proofs.close.gather.Goals as goal

pub join_seat-requires : goal.join_seat-requires
join_seat-requires c =
    let i = c.loop-one.invariant in
    let done = c.loop-one.yielded in
    let order = i.order ∙ ap (λ (xs : List SeatSeen). done ++ xs) c.in-Some.ensures.steps.0 in
    let is = next_one c.args.table.now.shared.table_id c.args.seats.items done c.next.new.self.rest.items c.in-Some.one c.requires.seats.each order in (
      i.at ∙ c.requires.at.same,
      ap (λ (s : SeatSeen). s.table) c.one.view_is ∙ is.0,
      ap (λ m. m.1) c.one.invariant.view,
      stands 0 c.requires.at (omega arith),
      allows_join (plan_of c.args.mover.now.me.0) done _ _ c.one.inside.slot i.back c.one.invariant _ _ _ (ap (λ (s : SeatSeen). s.worker) c.one.view_is ∙ is.1),
    )

pub loop-one-preserved : goal.loop-one-preserved
loop-one-preserved c =
    let i = c.loop-one.invariant in
    let done = c.loop-one.yielded in record {
      at = c.join_seat.ensures.0 ∙ i.at;
      order = i.order ∙ (ap (λ (xs : List SeatSeen). done ++ xs) c.in-Some.ensures.steps.0 ∙ sym (append_assoc done (c.in-Some.one ∷ []) c.next.new.self.rest.items));
      back = joined (plan_of c.args.mover.now.me.0) done _ _ c.one.inside.slot i.back c.one.invariant _ c.in-Some.one c.join_seat.ensures.2 (ap (λ (s : SeatSeen). s.acts) c.one.view_is);
    }
