use Rattle.std.proofs.Common.{◌≡◌, ◌++◌, ◌∷◌, [], ◌∙◌, map, length, Option, Some, sym, ap, subst, append_assoc, arith}
use Rattle.std.specs.Prelude.{option_to_list}
use Rattle.std.specs.List.{All}
use Rattle.std.proofs.lemmas.Grind.{flat_map-append}
use Rattle.std.proofs.lemmas.List.{map_push}
use Rattle.std.proofs.lemmas.List.Elements.{All-tail}
use Rattle.ad_lines.proofs.Opens.{next-item}
use Rattle.ad_run.specs.declared.threads.Job.{Job}
use Rattle.ad_run.specs.Ended.{hands_in, HasHands}
use Rattle.ad_wrapper.specs.declared.hands.Hands.{Hands}
use Rattle.ad_run.proofs.close.seats_of.Goals as goal

pub push_reserved-requires : goal.push_reserved-requires
push_reserved-requires c =
    let l = c.loop-job in
    let rest = c.next.new.self.rest.items in
    let next : l.job-iterator.rest.items ≡ c.in-Some.job ∷ rest = next-item c.next.result c.in-Some.job l.job-iterator.rest.items rest l.job-iterator.rest.len c.next.new.self.rest.len c.in-Some.is c.next.ensures.steps in
    omega (arith, l.invariant.seats, ap length next)

pub push_reserved-requires-in-loop-job : goal.push_reserved-requires-in-loop-job
push_reserved-requires-in-loop-job c =
    let l = c.loop-job in
    let rest = c.next.new.self.rest.items in
    let next : l.job-iterator.rest.items ≡ c.in-Some.job ∷ rest = next-item c.next.result c.in-Some.job l.job-iterator.rest.items rest l.job-iterator.rest.len c.next.new.self.rest.len c.in-Some.is c.next.ensures.steps in
    omega (arith, l.invariant.stack_seats, ap length next)

pub push_reserved-requires-in-loop-job-2 : goal.push_reserved-requires-in-loop-job-2
push_reserved-requires-in-loop-job-2 c =
    let l = c.loop-job in
    let rest = c.next.new.self.rest.items in
    let next : l.job-iterator.rest.items ≡ c.in-Some.job ∷ rest = next-item c.next.result c.in-Some.job l.job-iterator.rest.items rest l.job-iterator.rest.len c.next.new.self.rest.len c.in-Some.is c.next.ensures.steps in
    omega (arith, l.invariant.turn_seats, ap length next)

pub loop-job-preserved : goal.loop-job-preserved
loop-job-preserved c =
    let l = c.loop-job in
    let job = c.in-Some.job in
    let hands = c.unwrap-seat.result in
    let rest = c.next.new.self.rest.items in
    let before = hands_in l.yielded in
    let next : l.job-iterator.rest.items ≡ job ∷ rest = next-item c.next.result job l.job-iterator.rest.items rest l.job-iterator.rest.len c.next.new.self.rest.len c.in-Some.is c.next.ensures.steps in
    let has : job.hands ≡ Some hands = c.unwrap-seat.ensures in
    let more : hands_in (l.yielded ++ job ∷ []) ≡ before ++ hands ∷ [] =
    flat_map-append (λ (j : Job). option_to_list j.hands) l.yielded (job ∷ []) ∙ ap (λ (o : Option Hands). before ++ (option_to_list o ++ [])) has in
    let so_far = l.invariant.seats_are in record {
      left = append_assoc l.yielded (job ∷ []) rest ∙ ap (λ xs. l.yielded ++ xs) (sym next) ∙ l.invariant.left;
      others = All-tail HasHands job rest (subst (All HasHands) next l.invariant.others);
      seats_are = record {
        seats = c.push_reserved.ensures.items ∙ ap (λ xs. xs ++ hands.seat ∷ []) so_far.seats ∙ sym (map_push (λ (h : Hands). h.seat) before hands) ∙ ap (map (λ (h : Hands). h.seat)) (sym more);
        stack_seats = c.push_reserved-in-loop-job.ensures.items ∙ ap (λ xs. xs ++ hands.stack_seat ∷ []) so_far.stack_seats ∙ sym (map_push (λ (h : Hands). h.stack_seat) before hands) ∙ ap (map (λ (h : Hands). h.stack_seat)) (sym more);
        turn_seats = c.push_reserved-in-loop-job-2.ensures.items ∙ ap (λ xs. xs ++ hands.turn_seat ∷ []) so_far.turn_seats ∙ sym (map_push (λ (h : Hands). h.turn_seat) before hands) ∙ ap (map (λ (h : Hands). h.turn_seat)) (sym more);
      };
      seats = omega (arith, l.invariant.seats, ap length next, c.push_reserved.ensures.len, c.push_reserved.ensures.capacity);
      stack_seats = omega (arith, l.invariant.stack_seats, ap length next, c.push_reserved-in-loop-job.ensures.len, c.push_reserved-in-loop-job.ensures.capacity);
      turn_seats = omega (arith, l.invariant.turn_seats, ap length next, c.push_reserved-in-loop-job-2.ensures.len, c.push_reserved-in-loop-job-2.ensures.capacity);
    }
