use Rattle.std.proofs.Common.{◌≡◌, ◌++◌, map}
use Rattle.ad_turns.specs.Private.Handles.{some_book}
use Rattle.ad_turns.proofs.open.slots_of.Given as goal

abbrev pub invariant-loop-book : goal.invariant-loop-book
invariant-loop-book l = record {
  order : l.fn.books.items ≡ l.yielded ++ l.book-iterator.rest.items;
  slots : l.slots.items ≡ map some_book l.yielded;
}
