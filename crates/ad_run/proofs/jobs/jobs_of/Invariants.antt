use Rattle.std.proofs.Common.{◌≡◌, map, Some, ◌++◌}
use Rattle.ad_run.specs.declared.threads.Job.{Job}
use Rattle.ad_wrapper.specs.declared.hands.Hands.{Hands}
use Rattle.ad_run.proofs.jobs.jobs_of.Given as goal

-- the workers so far, and the calls that are left
abbrev pub invariant-loop-hands : goal.invariant-loop-hands
invariant-loop-hands l = record {
  hands_are : map (λ (j : Job). j.hands) l.jobs.items ≡ map (λ (h : Hands). Some h) l.yielded;
  calls_are : map (λ (j : Job). j.calls) l.jobs.items ++ l.lists.rest.items ≡ l.fn.lists.items;
  left : l.yielded ++ l.hands-iterator.rest.items ≡ l.fn.hands.items;
}
