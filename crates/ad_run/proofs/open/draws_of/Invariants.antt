use Rattle.std.proofs.Common.{◌≡◌, map, take}
use Rattle.std.specs.List.{range_with_len}
use Rattle.ad_run.specs.Calls.{calls_at}
use Rattle.ad_run.proofs.open.draws_of.Given as goal

-- the draws of the workers so far
abbrev pub invariant-loop-list : goal.invariant-loop-list
invariant-loop-list l = l.draws.items ≡ map (λ list. map (λ m. calls_at m list.items) (range_with_len 0 l.modules)) (take l.list-index l.calls)
