use Rattle.std.proofs.Common.{ap, length, ◌∙◌, arith, rules}
use Rattle.ad_elf.specs.Below.{each}
use Rattle.ad_reloc.specs.Image.{other_cell}
use Rattle.ad_reloc.specs.Private.Linking.{tables_of}
use Rattle.ad_reloc.proofs.Celled.{no_cells, one_number, one_offset}
use Rattle.ad_reloc.proofs.linking.Linking.other_cells.Goals as goal

pub loop-k-init : goal.loop-k-init
loop-k-init c = record {
  same = c.symbols-symbols.ensures;
  words = c.section_words-words.ensures;
  from = c.local_from-from.ensures.value;
  made = no_cells c.args.self.now.object.now c.args.self.now.layout.now (tables_of c.args.self.now) c.args.movable.now c.new-cells.result.items c.new-cells.ensures.items;
}

pub loop-k-preserved : goal.loop-k-preserved
loop-k-preserved c = record {
  same = c.loop-k.invariant.same;
  words = c.loop-k.invariant.words;
  from = c.loop-k.invariant.from;
  made = one_number c.args.self.now.object.now c.args.self.now.layout.now (tables_of c.args.self.now) c.args.movable.now c.loop-k.k c.local_from-from.result c.field_u64.result c.loop-k.cells.items c.push.new.self.items (omega (arith, c.loop-k-test.true, c.section_words-words.ensures)) c.local_from-from.ensures.value c.field_u64.ensures c.loop-k.invariant.made c.in_ok-push.ensures.items;
}

pub loop-k-2-init : goal.loop-k-2-init
loop-k-2-init c = record {
  same = c.symbols-symbols.ensures;
  words = c.section_words-words.ensures;
  made = c.loop-k.invariant.made ∙ ap (each (other_cell c.args.self.now.object.now c.args.self.now.layout.now (tables_of c.args.self.now) c.args.movable.now)) (omega (arith, c.loop-k.auto.k-end, c.loop-k-test.false, c.section_words-words.ensures));
}

pub loop-k-2-preserved : goal.loop-k-2-preserved
loop-k-2-preserved c = record {
  same = c.loop-k-2.invariant.same;
  words = c.loop-k-2.invariant.words;
  made = one_offset c.args.self.now.object.now c.args.self.now.layout.now (tables_of c.args.self.now) c.args.movable.now c.loop-k-2.k _ c.offset_of.result c.symbols-symbols.result.now c.loop-k-2.cells.items _ c.symbols-symbols.ensures (search rules) c.offset_of.ensures c.loop-k-2.invariant.made c.in_ok-push-2.ensures.items;
}

pub returns : goal.returns
returns c = c.loop-k-2.invariant.made ∙ ap (each (other_cell c.args.self.now.object.now c.args.self.now.layout.now (tables_of c.args.self.now) c.args.movable.now)) (omega (arith, c.loop-k-2.auto.k-end, c.loop-k-2-test.false, ap length c.symbols-symbols.ensures))
