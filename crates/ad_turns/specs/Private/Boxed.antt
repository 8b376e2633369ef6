-- A boxed book is lent, and what is written to it is in the box.
use Rattle.std.specs.Borrow.{Lends, MutBor, Fml}
use Rattle.ad_base.specs.declared.book.Book.{Book}
use Rattle.ad_base.specs.contracts.book.Book.{the_row as book_row}
use Rattle.ad_turns.specs.contracts.boxed.BoxedBook.{the_row}

-- once the loan is over, the boxed book is the last one behind the reference
abbrev pub LendsBoxed : MutBor Book → MutBor Book → Fml
LendsBoxed b r = Lends the_row book_row b r (λ last. last)
