use Rattle.std.proofs.Common.{◌≡◌, None, nat_le, ◌&&◌, ◌==◌}
use Rattle.ad_elf.specs.Below.{first}
use Rattle.ad_elf.specs.Fields.{header}
use Rattle.ad_elf.specs.declared.elf.TheConstants.{SHT_SYMTAB}
use Rattle.ad_elf.proofs.symbols.table_from.Given as goal

abbrev pub invariant-loop-i : goal.invariant-loop-i
invariant-loop-i l = first (λ i. nat_le l.from i && ((header l.file i).typ == SHT_SYMTAB)) l.i ≡ None
