use Rattle.std.proofs.Common.{ℕ, List, ap, length, ◌∙◌, arith, get_or, rules}
use Rattle.ad_reloc.specs.Image.{with_section}
use Rattle.ad_reloc.proofs.Laid.{no_spot, all_laid, fits_at, laid_begin, laid_more, same_length, written_back}
use Rattle.ad_reloc.proofs.parts.laid_part.Goals as goal

pub loop-k-init : goal.loop-k-init
loop-k-init c = record {
  sections_same = c.as_slice-sections.ensures;
  spots_same = c.as_slice-spots.ensures;
  whole = search rules;
  left = laid_begin c.args.object.now c.args.layout.now c.args.movable c.resize.new.self.items (search rules);
}

pub bounds-spots-k : goal.bounds-spots-k
bounds-spots-k c = same_length c.args.layout.now.sizes _ _ _ _ c.loop-k.k c.requires c.as_slice-sections.ensures c.as_slice-spots.ensures c.loop-k-test.true

pub put_section-requires : goal.put_section-requires
put_section-requires c =
    fits_at c.args.layout.now.sizes _ _ _ _ c.loop-k.k c.args.movable _ c.index-sections-k.result _ c.requires c.as_slice-sections.ensures c.as_slice-spots.ensures c.loop-k-test.true c.index-sections-k.is
    (ap length c.deref_mut.ensures.value ∙ c.loop-k.invariant.whole)

pub loop-k-preserved : goal.loop-k-preserved
loop-k-preserved c =
    let long = ap length c.deref_mut.ensures.value in
    let back = written_back c.loop-k.part.len c.put_section.new.part c.loop-k.part.items (search rules) (c.put_section.ensures.whole ∙ long) in
    record {
      sections_same = c.loop-k.invariant.sections_same;
      spots_same = c.loop-k.invariant.spots_same;
      whole = ap length back ∙ c.put_section.ensures.whole ∙ long ∙ c.loop-k.invariant.whole;
      left = laid_more c.args.object.now c.args.layout.now c.args.movable _ _ c.loop-k.k c.index-sections-k.result no_spot c.loop-k.part.items _ c.requires c.as_slice-sections.ensures c.as_slice-spots.ensures c.loop-k-test.true c.index-sections-k.is
          (back ∙ c.put_section.ensures.bytes ∙ ap (λ (p : List ℕ). with_section c.args.movable p (c.index-sections-k.result, get_or c.as_slice-spots.result.now c.loop-k.k no_spot)) c.deref_mut.ensures.value) c.loop-k.invariant.left;
    }

pub returns-clause-bytes : goal.returns-clause-bytes
returns-clause-bytes c = all_laid c.args.object.now c.args.layout.now c.args.movable c.loop-k.part.items c.loop-k.k (omega (arith, c.loop-k.auto.k-end, c.loop-k-test.false, ap length c.as_slice-sections.ensures)) c.loop-k.invariant.left

pub returns-clause-whole : goal.returns-clause-whole
returns-clause-whole c = c.loop-k.invariant.whole
