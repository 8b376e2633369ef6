use Rattle.std.proofs.Common.{◌∙◌, ap, map}
use Rattle.ad_base.specs.Book.{contents_of}
use Rattle.ad_lines.specs.LineRun.{ModuleState}
use Rattle.ad_lines.specs.Room.{Running}
use Rattle.ad_lines.proofs.Steps.{books-map}
use Rattle.ad_lines.proofs.line_run.LineRun.finish.Goals as goal

pub returns-clause-books : goal.returns-clause-books
returns-clause-books c =
    ap (map contents_of) c.in_ok-books.ensures
    ∙ books-map c.self.inside.modules.items
    ∙ ap (λ (v : Running). map (λ (m : ModuleState). m.book) v.state.modules) c.self.view_is
