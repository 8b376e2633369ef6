use Rattle.std.proofs.Common.{inl, inr, ap, ap₂, sym, ◌∙◌}
use Rattle.ad_parts.specs.Parts.{export_row}
use Rattle.ad_parts.specs.Symbols.{exports}
use Rattle.ad_parts.proofs.Arranged.{refused_by_exports}
use Rattle.ad_parts.proofs.splitting.with_exports.Goals as goal

pub returns-in-Err-clause-refused : goal.returns-in-Err-clause-refused
returns-in-Err-clause-refused c =
    elim c.in-Err.ensures.refused [
      | inl memory ↦ inl memory
      | inr row ↦ (let found = c.in_ok-exports.ensures ∙ ap₂ exports c.as_slice.ensures.value c.as_slice-2.ensures in inr (refused_by_exports c.args.object.now c.args.placed.spots.items c.in_ok-exports.exports.items c.in-Err.refusal c.requires.fine c.requires.spots found (ap export_row (sym c.as_slice-3.ensures.value) ∙ row)))
    ]
