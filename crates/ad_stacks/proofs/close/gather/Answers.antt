use Rattle.std.proofs.Common.{◌≡◌, ℕ, List, [], ◌∷◌, ◌++◌, map, length, arith, ◌∙◌, sym, ap, subst, Option, slice_get, IfSome, append_assoc}
use Rattle.atomic_table.specs.Seated.{TableId}
use Rattle.ad_stacks.specs.declared.view.Hand.{Hand}
use Rattle.ad_stacks.specs.declared.view.Doing.TheVariants.{Mover}
use Rattle.ad_stacks.specs.Seen.{SeatSeen}
use Rattle.ad_stacks.specs.Private.Handles.{plan_of, gathered_plan}
use Rattle.ad_stacks.specs.Private.Rows.{hand_of}
use Rattle.ad_stacks.proofs.Allowed.{allows_join, joined_view, stands}
use Rattle.ad_stacks.proofs.Closing.{at_seam, map_one_more, length_map}
use Rattle.ad_stacks.proofs.close.gather.Goals as goal

-- the seat that comes next is the next worker's
next_one : (table : TableId) (seats done rest : List SeatSeen) (one : SeatSeen) → ((w : ℕ) → IfSome (slice_get seats w) (λ s. (s.table ≡ table) × (s.worker ≡ w))) → seats ≡ done ++ one ∷ rest → (one.table ≡ table) × (one.worker ≡ length done)
next_one table seats done rest one each e = subst (λ (o : Option SeatSeen). IfSome o (λ s. (s.table ≡ table) × (s.worker ≡ length done))) (ap (λ (xs : List SeatSeen). slice_get xs (length done)) e ∙ at_seam done one rest) (each (length done))

pub join_seat-requires : goal.join_seat-requires
join_seat-requires c =
    let i = c.loop-one.invariant in
    let order = i.order ∙ ap (λ (xs : List SeatSeen). c.loop-one.yielded ++ xs) c.in-Some.ensures.steps.0 in
    let is = next_one c.args.table.now.shared.table_id c.args.seats.items c.loop-one.yielded c.next.new.self.rest.items c.in-Some.one c.requires.seats.each order in
    let worker : c.one.inside.worker ≡ length (map hand_of c.loop-one.yielded) = ap (λ (s : SeatSeen). s.worker) c.one.view_is ∙ (is.1 ∙ sym (length_map hand_of c.loop-one.yielded)) in (
      i.at ∙ c.requires.at.same,
      ap (λ (s : SeatSeen). s.table) c.one.view_is ∙ is.0,
      ap (λ m. m.1) c.one.invariant.view,
      stands 0 c.requires.at (omega arith),
      allows_join _ _ _ _ _ (plan_of c.args.mover.now.me.0) (map hand_of c.loop-one.yielded) c.one.inside.worker i.view c.one.invariant.view worker,
    )

pub loop-one-preserved : goal.loop-one-preserved
loop-one-preserved c =
    let i = c.loop-one.invariant in record {
      at = c.join_seat.ensures.0 ∙ i.at;
      order = i.order ∙ (ap (λ (xs : List SeatSeen). c.loop-one.yielded ++ xs) c.in-Some.ensures.steps.0 ∙ sym (append_assoc c.loop-one.yielded (c.in-Some.one ∷ []) c.next.new.self.rest.items));
      view = c.join_seat.ensures.2 ∙ (joined_view _ _ (plan_of c.args.mover.now.me.0) (map hand_of c.loop-one.yielded) c.one.inside.worker i.view c.one.invariant.view
          ∙ ap (λ (hs : List Hand). (Mover (gathered_plan (plan_of c.args.mover.now.me.0) hs), [])) (map_one_more hand_of c.loop-one.yielded c.in-Some.one _ (ap (λ (s : SeatSeen). hand_of s) c.one.view_is)));
    }
