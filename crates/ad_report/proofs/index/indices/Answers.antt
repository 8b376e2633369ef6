use Rattle.std.proofs.Common.{◌+◌, map, take, sym, subst}
use Rattle.ad_base.specs.Book.{contents_of}
use Rattle.ad_report.specs.Private.Index.{AreIndices, IsIndex}
use Rattle.ad_report.proofs.Indices.{indexed_more}
use Rattle.ad_report.proofs.index.indices.Goals as goal

pub loop-book-preserved : goal.loop-book-preserved
loop-book-preserved c =
    let l = c.loop-book in
    let indices = l.indices.items in
    let index = c.in_ok-index.field-0 in
    let here = subst (λ h. IsIndex h index.items) c.as_slice.ensures c.in_ok-index.ensures in
    subst (λ xs. AreIndices (map contents_of (take (l.book-index + 1) c.args.books.now)) (map (λ v. v.items) xs)) (sym c.in_ok-push.ensures.items)
    (indexed_more contents_of (λ v. v.items) c.args.books.now indices l.book-index c.book-item.result index c.loop-book-test.true c.book-item.is l.invariant here)
