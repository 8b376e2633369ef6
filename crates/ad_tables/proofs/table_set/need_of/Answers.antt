use Rattle.std.proofs.Common.{inr, ap, sym, ◌∙◌, Some}
use Rattle.ad_tables.specs.declared.refusal.TableRefusal.TheVariants.{Unresolved}
use Rattle.ad_tables.specs.Tables.{need}
use Rattle.ad_tables.proofs.Needs.{need_of-some, need_of-unused, unresolved_row-none, unresolved_row-some, unresolved_row-unused}
use Rattle.ad_tables.proofs.table_set.need_of.Goals as goal

pub returns-then-not-uses_symbol-clause-need : goal.returns-then-not-uses_symbol-clause-need
returns-then-not-uses_symbol-clause-need c = sym (need_of-unused c.args.object.now c.args.layout.now c.args.rela.now (sym c.uses_symbol.ensures ∙ c.if-not-uses_symbol.true))

pub returns-then-not-uses_symbol-clause-fine : goal.returns-then-not-uses_symbol-clause-fine
returns-then-not-uses_symbol-clause-fine c = unresolved_row-unused c.args.object.now c.args.layout.now c.args.rela.now (sym c.uses_symbol.ensures ∙ c.if-not-uses_symbol.true)

pub returns-in_ok-name_of-in-None-clause-refused : goal.returns-in_ok-name_of-in-None-clause-refused
returns-in_ok-name_of-in-None-clause-refused c =
    inr (unresolved_row-none c.args.object.now c.args.layout.now c.args.rela.now (sym c.uses_symbol.ensures ∙ c.if-not-uses_symbol.false) (sym c.resolve.ensures ∙ c.in-None.is) ∙ ap (λ name. Some (Unresolved name)) (sym c.in_ok-name_of-in-None.ensures))

pub returns-in-Some-clause-need : goal.returns-in-Some-clause-need
returns-in-Some-clause-need c =
    let part = ap (λ b. need b c.args.rela.now.typ c.in-Some.symbol) c.in_movable.ensures in
    c.needed.ensures ∙ part ∙ sym (need_of-some c.args.object.now c.args.layout.now c.args.rela.now c.in-Some.symbol (sym c.resolve.ensures ∙ c.in-Some.is))

pub returns-in-Some-clause-fine : goal.returns-in-Some-clause-fine
returns-in-Some-clause-fine c = unresolved_row-some c.args.object.now c.args.layout.now c.args.rela.now c.in-Some.symbol (sym c.resolve.ensures ∙ c.in-Some.is)
