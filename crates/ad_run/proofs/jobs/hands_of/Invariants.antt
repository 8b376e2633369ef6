use Rattle.std.proofs.Common.{◌≡◌, map, length, ◌++◌}
use Rattle.std.specs.List.{range_with_len}
use Rattle.ad_wrapper.specs.declared.hands.Hands.{Hands}
use Rattle.ad_run.proofs.jobs.hands_of.Given as goal

-- the seats of the hands so far, and those that are left
abbrev pub invariant-loop-seat : goal.invariant-loop-seat
invariant-loop-seat l = record {
  workers_are : map (λ (h : Hands). h.worker) l.hands.items ≡ range_with_len 0 (length l.hands.items);
  seats_are : map (λ (h : Hands). h.seat) l.hands.items ++ l.seat-iterator.rest.items ≡ l.fn.seats.items;
  stack_seats_are : map (λ (h : Hands). h.stack_seat) l.hands.items ++ l.stack_seats.rest.items ≡ l.fn.stack_seats.items;
  turn_seats_are : map (λ (h : Hands). h.turn_seat) l.hands.items ++ l.turn_seats.rest.items ≡ l.fn.turn_seats.items;
}
