use Rattle.std.proofs.Common.{◌≡◌, [], length}
use Rattle.std.specs.List.{All}
use Rattle.ad_base.specs.declared.book.Book.{Book}
use Rattle.ad_turns.proofs.tests.empty_books.Given as goal

abbrev pub invariant-loop-module : goal.invariant-loop-module
invariant-loop-module l = record {
  count : length l.books.items ≡ l._module;
  empty : All (λ (b : Book). b.history.entries ≡ []) l.books.items;
  room : All (λ (b : Book). b.history.room ≡ l.room) l.books.items;
}
