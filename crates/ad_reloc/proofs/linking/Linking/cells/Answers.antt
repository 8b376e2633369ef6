use Rattle.std.proofs.Common.{◌+◌, List, length, ap, ◌∙◌, arith, rules}
use Rattle.ad_tables.specs.Tables.{section_words}
use Rattle.ad_elf.specs.Below.{each}
use Rattle.ad_elf.specs.declared.object.Rela.{Rela}
use Rattle.ad_reloc.specs.Image.{cell_at}
use Rattle.ad_reloc.specs.Private.Linking.{tables_of}
use Rattle.ad_reloc.proofs.Pointed.{all_entries, fine_pointer, no_entries, no_rela, point_more, set_back}
use Rattle.ad_reloc.proofs.linking.Linking.cells.Goals as goal

pub loop-k-init : goal.loop-k-init
loop-k-init c = record {
  same = c.as_slice-relas.ensures;
  made = no_entries c.args.self.now.object.now c.args.self.now.layout.now (tables_of c.args.self.now) c.args.movable.now c.as_slice-relas.result.now _ c.in_ok-cells.cells.items c.in_ok-cells.ensures;
}

pub point-requires-clause-fine : goal.point-requires-clause-fine
point-requires-clause-fine c =
    fine_pointer c.args.self.now.object.now c.args.self.now.layout.now (tables_of c.args.self.now) c.args.movable.now c.as_slice-relas.result.now c.loop-k.k no_rela _ c.deref_mut.result.now c.as_slice-relas.ensures c.loop-k-test.true c.requires.pointers
    (c.deref_mut.ensures.value ∙ c.loop-k.invariant.made)

pub loop-k-preserved : goal.loop-k-preserved
loop-k-preserved c =
    let long = ap length c.deref_mut.ensures.value in
    let back = set_back c.loop-k.cells.len c.point.new.cells c.loop-k.cells.items (search rules) (c.point.ensures.whole ∙ long) in
    record {
      same = c.loop-k.invariant.same;
      made = back ∙ point_more c.args.self.now.object.now c.args.self.now.layout.now (tables_of c.args.self.now) c.args.movable.now c.as_slice-relas.result.now c.loop-k.k no_rela _ c.deref_mut.result.now c.point.new.cells c.loop-k-test.true (c.deref_mut.ensures.value ∙ c.loop-k.invariant.made) c.point.ensures.other c.point.ensures.word
          (λ makes. (fine_pointer c.args.self.now.object.now c.args.self.now.layout.now (tables_of c.args.self.now) c.args.movable.now c.as_slice-relas.result.now c.loop-k.k no_rela _ c.deref_mut.result.now c.as_slice-relas.ensures c.loop-k-test.true c.requires.pointers (c.deref_mut.ensures.value ∙ c.loop-k.invariant.made) makes));
    }

pub returns : goal.returns
returns c = c.loop-k.invariant.made ∙ ap (λ (rs : List Rela). each (cell_at c.args.self.now.object.now c.args.self.now.layout.now (tables_of c.args.self.now) c.args.movable.now rs) (section_words c.args.self.now.layout.now + length (tables_of c.args.self.now).local))
    (all_entries c.as_slice-relas.result.now c.loop-k.k (omega (arith, c.loop-k.auto.k-end, c.loop-k-test.false)) ∙ c.as_slice-relas.ensures)
