use Rattle.std.proofs.Common.{◌+◌, ℕ, List, [], ◌∷◌, ◌++◌, length, length-append, arith, ◌∙◌, ap, sym, subst, append_assoc}
use Rattle.ad_turns.specs.Seen.{AreNew, SeatSeen}
use Rattle.ad_turns.specs.Steps.{after_deal, given_off, turns_of_view, Sat}
use Rattle.ad_turns.proofs.Allowed.{allows_split, inside}
use Rattle.ad_turns.proofs.Closing.{next_inside}
use Rattle.ad_turns.proofs.Openings.{one_new}
use Rattle.ad_turns.proofs.open.deal.Goals as goal

pub split_seat-seat-requires : goal.split_seat-seat-requires
split_seat-seat-requires c =
    let i = c.loop-left.invariant in
    let order = i.order ∙ ap (λ (xs : List (List ℕ)). c.loop-left.yielded ++ xs) c.in-Some.ensures.steps.0 in
    let before = next_inside c.args.calls.items c.loop-left.yielded c.next.new.self.rest.items c.in-Some.left order in
    let same = ap length c.requires.calls in
    let count = i.count in
    (i.at ∙ c.requires.at.same, inside 0 c.requires.at (omega arith), allows_split _ _ _ _ c.loop-left.worker _ i.view (omega arith))

pub loop-left-preserved : goal.loop-left-preserved
loop-left-preserved c =
    let i = c.loop-left.invariant in
    let done = c.loop-left.yielded in
    let split = c.split_seat-seat.ensures in
    let turns = ap (λ (m : Sat). turns_of_view m.0) split.4 ∙ ap (λ (m : Sat). turns_of_view (given_off m.0)) i.view in
    let table = split.3 ∙ (i.at ∙ c.requires.at.same) in record {
      at = split.0 ∙ i.at;
      order = i.order ∙ (ap (λ (xs : List (List ℕ)). done ++ xs) c.in-Some.ensures.steps.0 ∙ sym (append_assoc done (c.in-Some.left ∷ []) c.next.new.self.rest.items));
      count = ap (λ (n : ℕ). n + 1) i.count ∙ sym (length-append done (c.in-Some.left ∷ []));
      view = split.2 ∙ (λ j. (after_deal (i.view j).0, (i.view j).1));
      seats = subst (λ (xs : List SeatSeen). AreNew c.args.table.now.shared.table_id (done ++ c.in-Some.left ∷ []) xs) (sym c.in_ok-push.ensures.items)
          (one_new c.args.table.now.shared.table_id done c.in-Some.left c.loop-left.seats.items _ i.seats (λ j. record { table = table j; worker = i.count j; left = c.in-Some.left; turns = turns j }));
    }
