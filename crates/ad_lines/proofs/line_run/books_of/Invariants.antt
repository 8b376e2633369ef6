use Rattle.std.proofs.Common.{◌≡◌, map}
use Rattle.ad_lines.specs.declared.line_run.ModuleRun.{ModuleRun}
use Rattle.ad_lines.proofs.line_run.books_of.Given as goal

-- the books of the modules so far
abbrev pub invariant-loop-module : goal.invariant-loop-module
invariant-loop-module l = l.books.items ≡ map (λ (m : ModuleRun). m.book) l.yielded
