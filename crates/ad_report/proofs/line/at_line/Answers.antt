use Rattle.std.proofs.Common.{◌≤◌, rules}
use Rattle.ad_report.proofs.AtLine.{items_between, first_le_end}
use Rattle.ad_report.proofs.line.at_line.Goals as goal

pub slice_bounds-result-count : goal.slice_bounds-result-count
slice_bounds-result-count g c = first_le_end g.T.OfLine.line_number c.args.line c.args.items.now _ _ c.first_from-first.ensures.bound c.first_from-first.ensures.place c.first_behind-end.ensures.place

pub slice_bounds-result-start : goal.slice_bounds-result-start
slice_bounds-result-start g c =
    let le : c.first_from-first.result ≤ c.first_behind-end.result = first_le_end g.T.OfLine.line_number c.args.line c.args.items.now _ _ c.first_from-first.ensures.bound c.first_from-first.ensures.place c.first_behind-end.ensures.place in
    search rules

pub returns : goal.returns
returns g c = items_between g.T.OfLine.line_number c.args.line c.args.items.now _ _ c.first_from-first.ensures.place c.first_behind-end.ensures.place
