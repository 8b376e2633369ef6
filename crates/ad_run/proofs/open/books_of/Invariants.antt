use Rattle.std.proofs.Common.{◌≡◌, map, take}
use Rattle.std.specs.List.{range_with_len, sum_by}
use Rattle.ad_base.specs.declared.book.Book.{Book}
use Rattle.ad_base.specs.Book.{contents_of}
use Rattle.ad_core.specs.Turn.{opening_contents}
use Rattle.ad_lines.specs.Room.{calls_of}
use Rattle.ad_run.proofs.open.books_of.Given as goal

-- the books of the images so far
abbrev pub invariant-loop-module : goal.invariant-loop-module
invariant-loop-module l = record {
  contents : map contents_of l.books.items ≡ take l.«module» (map opening_contents l.images);
  room : map (λ (b : Book). b.history.room) l.books.items ≡ map (λ m. sum_by (calls_of m) l.steps) (range_with_len 0 l.«module»);
}
