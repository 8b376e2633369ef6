use Rattle.std.proofs.Common.{◌≡◌, ◌++◌, take, map}
use Rattle.std.specs.List.{flat_map}
use Rattle.ad_base.specs.Book.{contents_of}
use Rattle.ad_report.specs.Report.{step_text}
use Rattle.ad_report.proofs.text.step_lines.Given as goal

-- the steps so far are printed
abbrev pub invariant-loop-step : goal.invariant-loop-step
invariant-loop-step l = l.text.items ≡ l.fn.text.items ++ flat_map (step_text l.script (map contents_of l.books) l.moves) (take l.step-index l.script.steps)
