use Rattle.std.proofs.Common.{arith, nat_le, ◌&&◌, ◌==◌, ap, sym, ◌∙◌}
use Rattle.std.proofs.lemmas.Bool.{and_from, eq-eqb, le-leb}
use Rattle.ad_elf.proofs.Below.{first_here}
use Rattle.ad_elf.specs.Fields.{header}
use Rattle.ad_elf.specs.declared.elf.TheConstants.{SHT_SYMTAB}
use Rattle.ad_elf.proofs.symbols.table_from.Goals as goal

pub returns-then-header-eq-SHT_SYMTAB-clause-value : goal.returns-then-header-eq-SHT_SYMTAB-clause-value
returns-then-header-eq-SHT_SYMTAB-clause-value c =
    let typ = ap (λ h. h.typ) (sym c.header.ensures) ∙ c.if-header-eq-SHT_SYMTAB.true in
    first_here (λ i. nat_le c.args.from i && ((header c.args.file.now i).typ == SHT_SYMTAB)) _ _ c.loop-i.invariant (and_from _ _ (le-leb _ _ c.if-from-i.true) (eq-eqb _ _ typ)) (omega arith)
