use Rattle.std.proofs.Common.{◌∙◌, ◌++◌, ◌∷◌, [], ap, sym}
use Rattle.ad_report.proofs.Indices.{lines_more}
use Rattle.ad_report.proofs.index.lines_of.Goals as goal

pub loop-position-preserved : goal.loop-position-preserved
loop-position-preserved c =
    let l = c.loop-position in
    c.in_ok-push.ensures.items ∙ ap (λ xs. xs ++ record { line = c.index-history-position.result.line; position = l.position } ∷ []) l.invariant
    ∙ sym (lines_more c.args.history.now l.position c.index-history-position.result c.loop-position-test.true c.index-history-position.is)
