use Rattle.std.proofs.Common.{◌≡◌, ◌+◌, ◌-◌, ◌∙◌, ap, map, arith}
use Rattle.std.proofs.Math.ListN.{set}
use Rattle.ad_lines.specs.LineRun.{retired}
use Rattle.ad_lines.proofs.Rows.{retired-at}
use Rattle.ad_lines.proofs.mappings.retire.Goals as goal

pub returns-clause-rows : goal.returns-clause-rows
returns-clause-rows c =
    let rows = c.args.rows.now.items in
    let old = c.index_mut-row.result.now in
    let k = c.from.result - 1 in
    let same : k + 1 ≡ c.args.old.mapping = omega arith in
    ap (λ unmaps. set rows k (record { mapping = old.mapping; kind = old.kind; who = old.who; place = old.place; line = c.args.line; unmaps = unmaps })) c.saturating_add-row.ensures
    ∙ retired-at 1 rows k c.args.line old c.requires.numbered (omega arith) c.index_mut-row.ensures.value
    ∙ ap (λ m. map (retired m c.args.line) rows) same
