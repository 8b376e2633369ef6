use Rattle.std.proofs.Common.{◌∷◌, [], ◌++◌, ap, sym, ◌∙◌}
use Rattle.std.proofs.lemmas.Bool.{not-false, not-true}
use Rattle.ad_tables.specs.Private.Entries.{with_symbol}
use Rattle.ad_tables.proofs.Listed.{with_symbol-new, with_symbol-old}
use Rattle.ad_tables.proofs.entries.Entries.add.Goals as goal

pub returns-then-branch : goal.returns-then-branch
returns-then-branch c =
    let absent = sym (c.self.invariant.each_one c.args.symbol) ∙ not-true _ (sym c.in_ok-insert.ensures.added ∙ c.if-branch.true) in
    c.push_reserved.ensures.items ∙ ap (λ xs. xs ++ c.args.symbol ∷ []) c.in_ok-reserve.ensures.items ∙ sym (with_symbol-new c.self.inside.symbols.items c.args.symbol absent) ∙ ap (λ xs. with_symbol xs c.args.symbol) c.self.view_is

pub returns-else-branch : goal.returns-else-branch
returns-else-branch c =
    let there = sym (c.self.invariant.each_one c.args.symbol) ∙ not-false _ (sym c.in_ok-insert.ensures.added ∙ c.if-branch.false) in
    c.in_ok-reserve.ensures.items ∙ sym (with_symbol-old c.self.inside.symbols.items c.args.symbol there) ∙ ap (λ xs. with_symbol xs c.args.symbol) c.self.view_is
