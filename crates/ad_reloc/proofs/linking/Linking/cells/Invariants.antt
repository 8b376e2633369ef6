use Rattle.std.proofs.Common.{◌≡◌, ◌+◌, length, take}
use Rattle.ad_elf.specs.Below.{each}
use Rattle.ad_tables.specs.Tables.{section_words}
use Rattle.ad_reloc.specs.Image.{cell_at}
use Rattle.ad_reloc.specs.Private.Linking.{tables_of}
use Rattle.ad_reloc.proofs.linking.Linking.cells.Given as goal

abbrev pub invariant-loop-k : goal.invariant-loop-k
invariant-loop-k l = record {
  same : l.relas ≡ l.self.object.now.relas;
  made : l.cells.items ≡ each (cell_at l.self.object.now l.self.layout.now (tables_of l.self) l.fn.movable (take l.k l.relas)) (section_words l.self.layout.now + length (tables_of l.self).local);
}
