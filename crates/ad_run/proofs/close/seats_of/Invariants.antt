use Rattle.std.proofs.Common.{◌≡◌, ◌+◌, ◌≤◌, ◌++◌, length, vec_capacity, vec_len}
use Rattle.std.specs.List.{All}
use Rattle.ad_run.specs.Ended.{hands_in, AreSeatsOf, HasHands}
use Rattle.ad_run.proofs.close.seats_of.Given as goal

-- the seats of the workers so far, and room for the others
abbrev pub invariant-loop-job : goal.invariant-loop-job
invariant-loop-job l = record {
  left : l.yielded ++ l.job-iterator.rest.items ≡ l.fn.jobs.items;
  others : All HasHands l.job-iterator.rest.items;
  seats_are : AreSeatsOf (hands_in l.yielded) l.lists;
  seats : vec_len l.lists.seats + length l.job-iterator.rest.items ≤ vec_capacity l.lists.seats;
  stack_seats : vec_len l.lists.stack_seats + length l.job-iterator.rest.items ≤ vec_capacity l.lists.stack_seats;
  turn_seats : vec_len l.lists.turn_seats + length l.job-iterator.rest.items ≤ vec_capacity l.lists.turn_seats;
}
