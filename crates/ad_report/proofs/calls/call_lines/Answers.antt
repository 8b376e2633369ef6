use Rattle.std.proofs.Common.{◌<◌, ◌++◌, ◌∙◌, ap, sym, length, take, slice_get, slice_index_or, append_assoc, rules}
use Rattle.std.specs.List.{flat_map}
use Rattle.ad_report.specs.Report.{call_line}
use Rattle.ad_report.proofs.Indices.{found_within, read_text, found_texts, texts_more}
use Rattle.ad_report.proofs.calls.call_lines.Goals as goal

pub bounds-history-position : goal.bounds-history-position
bounds-history-position c = found_within c.args.history.now c.args.calls.now c.args.line c.at_line-call-items.result.now c.requires c.at_line-call-items.ensures c.loop-call.call-index (record { line = 0; position = 0 }) c.loop-call-test.true

pub offset_bounds-history-position : goal.offset_bounds-history-position
offset_bounds-history-position c =
    let found = slice_index_or c.at_line-call-items.result.now c.loop-call.call-index (record { line = 0; position = 0 }) in
    let within : found.position < length c.args.history.now = found_within c.args.history.now c.args.calls.now c.args.line c.at_line-call-items.result.now c.requires c.at_line-call-items.ensures c.loop-call.call-index (record { line = 0; position = 0 }) c.loop-call-test.true in
    search rules

pub loop-call-preserved : goal.loop-call-preserved
loop-call-preserved c =
    let l = c.loop-call in
    let history = c.args.history.now in
    let calls = c.at_line-call-items.result.now in
    let found = slice_index_or calls l.call-index (record { line = 0; position = 0 }) in
    let within : found.position < length history = found_within history c.args.calls.now c.args.line calls c.requires c.at_line-call-items.ensures l.call-index (record { line = 0; position = 0 }) c.loop-call-test.true in
    let entry = c.index-history-position.result in
    let so_far = flat_map (read_text (call_line c.args.name.now c.args.export.now) c.args.line (slice_get history)) (take l.call-index calls) in
    let line = call_line c.args.name.now c.args.export.now found.position entry in
    c.in_ok-call_line.ensures ∙ ap (λ t. t ++ line) l.invariant ∙ append_assoc c.args.text.now.items so_far line
    ∙ ap (λ t. c.args.text.now.items ++ t) (sym (texts_more (call_line c.args.name.now c.args.export.now) c.args.line history calls l.call-index (record { line = 0; position = 0 }) entry c.loop-call-test.true within c.index-history-position.is))

pub returns : goal.returns
returns c = c.loop-call.invariant ∙ ap (λ t. c.args.text.now.items ++ t) (found_texts (call_line c.args.name.now c.args.export.now) c.args.line c.args.history.now c.args.calls.now c.at_line-call-items.result.now c.loop-call.call-index c.requires c.at_line-call-items.ensures c.loop-call-test.false)
