use Rattle.std.proofs.Common.{ap, ◌∙◌, sym, length, ℕ, List, subst, ◌≡◌}
use Rattle.std.specs.List.{All}
use Rattle.ad_turns.proofs.Opened.{rooms_for, all_of_new, all_left, if_ok}
use Rattle.ad_turns.proofs.tests.open_equal.Goals as goal

pub open-requires-clause-room : goal.open-requires-clause-room
open-requires-clause-room c = rooms_for _ c.args.numbers.now _ c.args.most c.args.workers (ap length c.as_slice.ensures.value ∙ c.in_ok-calls.ensures.count)
    (subst (All (λ (left : List ℕ). left ≡ c.args.numbers.now)) (sym c.as_slice.ensures.value) c.in_ok-calls.ensures.each) c.requires.numbers c.in_ok-books.ensures.room

pub returns-clause-seats : goal.returns-clause-seats
returns-clause-seats c = if_ok _ _ (λ o new. all_of_new _ _ _ new c.args.workers (ap length c.as_slice.ensures.value ∙ c.in_ok-calls.ensures.count)) _ c.open.ensures.seats

pub returns-clause-left : goal.returns-clause-left
returns-clause-left c = if_ok _ _ (λ o new. all_left _ _ _ new c.args.numbers.now (subst (All (λ (left : List ℕ). left ≡ c.args.numbers.now)) (sym c.as_slice.ensures.value) c.in_ok-calls.ensures.each)) _ c.open.ensures.seats
