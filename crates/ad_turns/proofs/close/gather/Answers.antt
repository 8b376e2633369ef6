use Rattle.std.proofs.Common.{List, [], ◌∷◌, ◌++◌, map, arith, ◌∙◌, sym, ap, append_assoc}
use Rattle.ad_turns.specs.Seen.{SeatSeen}
use Rattle.ad_turns.specs.Private.Handles.{back_of, turns_in}
use Rattle.ad_turns.proofs.Allowed.{allows_join, joined_view, inside}
use Rattle.ad_turns.proofs.Closing.{next_one, same_count, turns_more_back, gathers}
use Rattle.ad_turns.proofs.close.gather.Goals as goal

pub join_seat-requires : goal.join_seat-requires
join_seat-requires c =
    let i = c.loop-one.invariant in
    let order = i.order ∙ ap (λ (xs : List SeatSeen). c.loop-one.yielded ++ xs) c.in-Some.ensures.steps.0 in
    let is = next_one c.args.table.now.shared.table_id c.args.seats.items c.loop-one.yielded c.next.new.self.rest.items c.in-Some.one c.requires.seats.each order in
    let worker = c.one.invariant.worker ∙ (ap (λ (s : SeatSeen). s.worker) c.one.view_is ∙ (is.1 ∙ same_count (back_of c.loop-one.gatherer.me.0) c.loop-one.yielded i.turns)) in (
      i.at ∙ c.requires.at.same,
      ap (λ (s : SeatSeen). s.table) c.one.view_is ∙ is.0,
      ap (λ m. m.1) c.one.invariant.view,
      inside 0 c.requires.at (omega arith),
      allows_join _ _ (back_of c.loop-one.gatherer.me.0) i.gatherer c.one.invariant.view _ _ _ _ worker,
    )

pub loop-one-preserved : goal.loop-one-preserved
loop-one-preserved c =
    let i = c.loop-one.invariant in
    let view = c.join_seat.ensures.2 ∙ joined_view _ _ (back_of c.loop-one.gatherer.me.0) i.gatherer c.one.invariant.view in record {
      at = c.join_seat.ensures.0 ∙ i.at;
      order = i.order ∙ (ap (λ (xs : List SeatSeen). c.loop-one.yielded ++ xs) c.in-Some.ensures.steps.0 ∙ sym (append_assoc c.loop-one.yielded (c.in-Some.one ∷ []) c.next.new.self.rest.items));
      gatherer = gathers _ _ view;
      turns = ap (λ m. map turns_in (back_of m.0)) view ∙ turns_more_back (back_of c.loop-one.gatherer.me.0) c.loop-one.yielded _ c.in-Some.one i.turns (ap (λ (s : SeatSeen). s.turns) c.one.view_is);
    }
