-- What a book holds.
use Rattle.std.specs.Prelude.{ℕ, List}
use Rattle.ad_base.specs.declared.book.Book.{Book}
use Rattle.ad_base.specs.declared.book.Entry.{Entry}

-- the data of the movable and of the immovable part, the words of the device queue, and the calls that were
-- made, in order
pub record Contents : Type 0 where
  pub writable : List ℕ
  pub fixed : List ℕ
  pub device : List ℕ
  pub entries : List Entry

abbrev pub contents_of : Book → Contents
contents_of b = record { writable = b.writable; fixed = b.fixed; device = b.device; entries = b.history.entries }
