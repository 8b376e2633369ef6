use Rattle.std.proofs.Common.{◌≡◌, ◌++◌, take, slice_get}
use Rattle.std.specs.List.{flat_map}
use Rattle.ad_report.specs.Report.{call_line}
use Rattle.ad_report.proofs.Indices.{read_text}
use Rattle.ad_report.proofs.calls.call_lines.Given as goal

-- the calls so far are printed
abbrev pub invariant-loop-call : goal.invariant-loop-call
invariant-loop-call l = l.text.items ≡ l.fn.text.items ++ flat_map (read_text (call_line l.name l.export) l.line (slice_get l.history)) (take l.call-index l.call-items)
