use Rattle.std.proofs.Common.{◌≡◌, ◌≤◌, ◌*◌, ◌^◌, length, take, map, sum_by}
use Rattle.ad_base.specs.Book.{contents_of}
use Rattle.ad_report.proofs.text.calls.Given as goal

-- the calls of the books so far are counted, and no book has 2^64
abbrev pub invariant-loop-book : goal.invariant-loop-book
invariant-loop-book l = record {
  counted : l.calls ≡ sum_by (λ b. length b.entries) (map contents_of (take l.book-index l.books));
  few : l.calls ≤ l.book-index * 2 ^ 64;
}
