-- What is seen of a history.
use Rattle.std.specs.Prelude.{ℕ, List}
use Rattle.ad_base.specs.declared.book.Entry.{Entry}

-- the calls that were made, in order, and for how many more there is room
pub record Calls : Type 0 where
  pub entries : List Entry
  pub room : ℕ
