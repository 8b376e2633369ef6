use Rattle.std.proofs.Common.{◌≡◌, [], ◌∷◌, ◌++◌, ◌∙◌, ap}
use Rattle.std.specs.Prelude.{codes}
use Rattle.std.specs.Fmt.{decimal}
use Rattle.ad_report.specs.Report.{notes_text}
use Rattle.ad_predict.specs.Private.Asking.{reply_text}
use Rattle.ad_predict.proofs.Lines.{line-appended, line-prints}
use Rattle.ad_predict.proofs.line.call_line.Goals as goal

-- each part is appended to those before it
pub returns : goal.returns
returns c answer is =
    let call = c.args.called.now in
    let reply = c.args.reply.now in
    let written : c.extend_from_slice-5.new.self.items ≡ c.args.text.now.items
    ++ (codes "call " ++ decimal call.line ++ codes " w" ++ decimal call.worker ++ codes " " ++ call.«module».now ++ codes "." ++ call.export.now ++ codes ": " ++ (reply_text reply.end ++ notes_text reply.notes) ++ 0x0a ∷ []) =
    rw (c.in_ok-extend_from_slice-5.ensures.items, c.in_ok-notes.ensures, c.in_ok-end.ensures, c.in_ok-extend_from_slice-4.ensures.items, c.in_ok-extend_from_slice-3.ensures.items, c.in_ok-extend_from_slice-2.ensures.items, c.in_ok-extend_from_slice.ensures.items, c.in_ok-print.ensures)
    (line-appended c.args.text.now.items (codes "call ") (decimal call.line) (codes " w") (decimal call.worker) (codes " ") call.«module».now (codes ".") call.export.now (codes ": ") (reply_text reply.end) (notes_text reply.notes) (0x0a ∷ [])) in
    written ∙ ap (λ text. c.args.text.now.items ++ text) (line-prints call.line call.worker call.«module».now call.export.now reply answer is)
