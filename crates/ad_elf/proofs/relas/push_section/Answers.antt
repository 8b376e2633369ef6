use Rattle.std.proofs.Common.{ap, sym, refl, ◌∙◌}
use Rattle.ad_elf.proofs.Tables.{has_kept_relas-typ, inside_by_type}
use Rattle.ad_elf.specs.declared.elf.TheConstants.{SHT_RELA}
use Rattle.ad_elf.specs.File.{has_kept_relas}
use Rattle.ad_elf.proofs.relas.push_section.Goals as goal

pub push_relas-requires-clause-inside : goal.push_relas-requires-clause-inside
push_relas-requires-clause-inside c =
    let kept = ap (has_kept_relas c.args.file.now) (sym c.header-section.ensures) ∙ sym c.has_kept_relas.ensures ∙ c.if-has_kept_relas.true in
    rw c.header-section.ensures (inside_by_type SHT_RELA _ _ c.requires.inside refl c.requires.number (has_kept_relas-typ _ _ kept))
