use Rattle.std.proofs.Common.{◌≡◌, ◌%◌, ◌^◌, take, map, sum_by}
use Rattle.ad_base.specs.Book.{contents_of}
use Rattle.ad_report.specs.Summary.{returned_sum}
use Rattle.ad_report.proofs.totals.returned_by_all.Given as goal

-- what the books so far returned is summed
abbrev pub invariant-loop-book : goal.invariant-loop-book
invariant-loop-book l = l.sum ≡ sum_by (λ b. returned_sum b.entries) (map contents_of (take l.book-index l.books)) % 2 ^ 64
