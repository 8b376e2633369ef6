use Rattle.std.proofs.Common.{map, sym, subst}
use Rattle.ad_base.specs.Book.{contents_of}
use Rattle.ad_report.specs.Report.{history_of}
use Rattle.ad_report.specs.Private.Index.{IsIndex}
use Rattle.ad_report.proofs.Indices.{index_at}
use Rattle.ad_report.proofs.text.step_text.Goals as goal

pub call_lines-requires : goal.call_lines-requires
call_lines-requires c =
    let module_number = c.in-Call.module in
    subst (λ h. IsIndex h c.calls_of-calls.result.now) (sym c.history-history.ensures)
    (subst (IsIndex (history_of (map contents_of c.args.books.now) module_number)) (sym c.calls_of-calls.ensures)
    (index_at (λ v. v.items) (map contents_of c.args.books.now) c.args.indices.now module_number c.requires.indices))
