use Rattle.std.proofs.Common.{map, take}
use Rattle.ad_base.specs.Book.{contents_of}
use Rattle.ad_report.specs.Private.Index.{AreIndices}
use Rattle.ad_report.proofs.index.indices.Given as goal

-- the books so far have their index
abbrev pub invariant-loop-book : goal.invariant-loop-book
invariant-loop-book l = AreIndices (map contents_of (take l.book-index l.books)) (map (λ v. v.items) l.indices.items)
