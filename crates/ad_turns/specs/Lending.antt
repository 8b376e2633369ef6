-- The book of a turn is lent, and what is written to it is in the book that is given back.
use Rattle.std.specs.Borrow.{Lends, MutBor, Fml}
use Rattle.ad_base.specs.declared.book.Book.{Book}
use Rattle.ad_base.specs.contracts.book.Book.{the_row as book_row}
use Rattle.ad_turns.specs.Seen.{HeldSeen}
use Rattle.ad_turns.specs.contracts.turns.Held.{the_row}

-- once the loan is over, the book of the turn is the last one behind the reference
abbrev pub LendsBook : MutBor HeldSeen → MutBor Book → Fml
LendsBook h r = Lends the_row book_row h r (λ b. record h.now { book = b })
