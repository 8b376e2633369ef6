use Rattle.std.proofs.Common.{◌≡◌, ◌+◌}
use Rattle.ad_elf.specs.Below.{each}
use Rattle.ad_tables.specs.Tables.{section_words}
use Rattle.ad_reloc.specs.Image.{local_at, other_cell}
use Rattle.ad_reloc.specs.Private.Linking.{tables_of}
use Rattle.ad_reloc.proofs.linking.Linking.other_cells.Given as goal

abbrev pub invariant-loop-k : goal.invariant-loop-k
invariant-loop-k l = record {
  same : l.symbols ≡ l.self.local;
  words : l.words ≡ section_words l.self.layout.now;
  from : l.from ≡ local_at l.self.layout.now 0;
  made : l.cells.items ≡ each (other_cell l.self.object.now l.self.layout.now (tables_of l.self) l.movable) l.k;
}

abbrev pub invariant-loop-k-2 : goal.invariant-loop-k-2
invariant-loop-k-2 l = record {
  same : l.symbols ≡ l.self.local;
  words : l.words ≡ section_words l.self.layout.now;
  made : l.cells.items ≡ each (other_cell l.self.object.now l.self.layout.now (tables_of l.self) l.fn.movable) (section_words l.self.layout.now + l.k);
}
