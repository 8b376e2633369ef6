use Rattle.std.proofs.Common.{◌≡◌}
use Rattle.ad_turns.proofs.steps.await_turn.Given as goal

abbrev pub invariant-loop : goal.invariant-loop
invariant-loop g l = record {
  at : l.seat.table_id ≡ l.fn.seat.table_id;
  same : l.seat.me ≡ l.fn.seat.me;
}

abbrev pub ghosts-look : goal.ghosts-look
ghosts-look g a = record { openings = a.table.now.shared.key.books.value.items }
