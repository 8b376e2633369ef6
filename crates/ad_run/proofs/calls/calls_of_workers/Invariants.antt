use Rattle.std.proofs.Common.{◌≡◌, length, map}
use Rattle.std.specs.List.{range_with_len}
use Rattle.ad_run.specs.Calls.{calls_of_worker}
use Rattle.ad_run.proofs.calls.calls_of_workers.Given as goal

-- the calls of the workers so far
abbrev pub invariant-loop-worker : goal.invariant-loop-worker
invariant-loop-worker l = record {
  count : length l.lists.items ≡ l.worker;
  calls : map (λ list. list.items) l.lists.items ≡ map (λ w. calls_of_worker w l.steps) (range_with_len 0 l.worker);
}
