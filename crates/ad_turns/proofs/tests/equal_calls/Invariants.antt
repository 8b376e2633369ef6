use Rattle.std.proofs.Common.{◌≡◌, length, List, ℕ}
use Rattle.std.specs.List.{All}
use Rattle.ad_turns.proofs.tests.equal_calls.Given as goal

abbrev pub invariant-loop-worker : goal.invariant-loop-worker
invariant-loop-worker l = record {
  count : length l.calls.items ≡ l._worker;
  each : All (λ (left : List ℕ). left ≡ l.numbers) l.calls.items;
}
