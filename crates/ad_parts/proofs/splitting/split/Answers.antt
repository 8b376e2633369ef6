use Rattle.std.proofs.Common.{inl, inr}
use Rattle.std.specs.List.{AllZip}
use Rattle.std.proofs.lemmas.Result.{IfOk-weaker}
use Rattle.ad_parts.specs.declared.layout.Layout.{Layout}
use Rattle.ad_parts.specs.Parts.{IsLayout}
use Rattle.ad_parts.specs.Symbols.{AreInAreas, AreInOrder, LiesInArea}
use Rattle.ad_parts.proofs.Arranged.{refused_by_sections}
use Rattle.ad_parts.proofs.Fitted.{law_order, law_sections, law_symbols, lie_in_order, symbols_inside}
use Rattle.ad_parts.proofs.splitting.split.Goals as goal

pub returns-in-Err-clause-refused : goal.returns-in-Err-clause-refused
returns-in-Err-clause-refused c =
    elim c.in-Err.ensures.refused [
      | inl memory ↦ inl memory
      | inr row ↦ inr (refused_by_sections c.args.object.now c.in-Err.refusal row)
    ]

pub with_exports-requires-clause-order : goal.with_exports-requires-clause-order
with_exports-requires-clause-order c = lie_in_order c.in-Ok.placed.sizes c.args.object.now.sections _ c.requires.indexes_rise c.in-Ok.ensures.lie

pub with_exports-requires-clause-symbols : goal.with_exports-requires-clause-symbols
with_exports-requires-clause-symbols c = symbols_inside c.in-Ok.placed.sizes c.args.object.now _ c.requires c.in-Ok.ensures.lie

pub returns-in-Ok-clause-order : goal.returns-in-Ok-clause-order
returns-in-Ok-clause-order c =
    IfOk-weaker c.with_exports.result (IsLayout c.args.object.now) (λ (l : Layout). AreInOrder l.spots)
    (λ l laid. law_order c.args.object.now l c.requires laid) c.with_exports.ensures.laid

pub returns-in-Ok-clause-sections : goal.returns-in-Ok-clause-sections
returns-in-Ok-clause-sections c =
    IfOk-weaker c.with_exports.result (IsLayout c.args.object.now) (λ (l : Layout). AllZip (LiesInArea l.sizes) c.args.object.now.sections l.spots)
    (λ l laid. law_sections c.args.object.now l c.requires laid) c.with_exports.ensures.laid

pub returns-in-Ok-clause-symbols : goal.returns-in-Ok-clause-symbols
returns-in-Ok-clause-symbols c =
    IfOk-weaker c.with_exports.result (IsLayout c.args.object.now) (λ (l : Layout). AreInAreas l.sizes l.spots c.args.object.now.symbols)
    (λ l laid. law_symbols c.args.object.now l c.requires laid) c.with_exports.ensures.laid
