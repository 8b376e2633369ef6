use Rattle.std.proofs.Common.{List, refl, subst, ◌∙◌, arith}
use Rattle.ad_elf.specs.declared.object.Rela.{Rela}
use Rattle.ad_reloc.specs.Image.{AreApplied}
use Rattle.ad_reloc.specs.Private.Linking.{tables_of}
use Rattle.ad_reloc.specs.Private.Parts.{lists_of}
use Rattle.ad_reloc.proofs.Applying.{all_at, applied_all, apply_more, field_in, fine_entry}
use Rattle.ad_reloc.proofs.linking.Linking.apply_all.Goals as goal

pub loop-k-init : goal.loop-k-init
loop-k-init c = record { same = c.as_slice-relas.ensures; movable = refl; fixed = refl; left = λ after more. more }

pub apply-requires-clause-fine : goal.apply-requires-clause-fine
apply-requires-clause-fine c =
    (c.loop-k.k, fine_entry c.args.self.now.object.now c.args.self.now.layout.now (tables_of c.args.self.now) c.args.self.now.fixed c.as_slice-relas.result.now c.loop-k.k _ c.as_slice-relas.ensures c.requires.fine c.loop-k-test.true)

pub apply-requires-clause-field : goal.apply-requires-clause-field
apply-requires-clause-field c =
    field_in c.args.self.now.layout.now (lists_of c.args.parts.now) (lists_of c.loop-k.parts) _ c.loop-k.invariant.movable c.loop-k.invariant.fixed
    (all_at (lists_of c.args.parts.now) c.args.self.now.layout.now c.as_slice-relas.result.now c.args.self.now.object.now.relas c.loop-k.k _ c.as_slice-relas.ensures c.requires.fields c.loop-k-test.true)

pub loop-k-preserved : goal.loop-k-preserved
loop-k-preserved c = record {
  same = c.loop-k.invariant.same;
  movable = c.apply.ensures.movable ∙ c.loop-k.invariant.movable;
  fixed = c.apply.ensures.fixed ∙ c.loop-k.invariant.fixed;
  left = λ after more. c.loop-k.invariant.left after (apply_more c.args.self.now.object.now c.args.self.now.layout.now (tables_of c.args.self.now) c.args.self.now.fixed c.as_slice-relas.result.now c.loop-k.k _ (lists_of c.loop-k.parts) (lists_of c.apply.new.parts) after c.loop-k-test.true c.apply.ensures.applied more);
}

pub returns-clause-applied : goal.returns-clause-applied
returns-clause-applied c =
    let o = c.args.self.now.object.now in
    let l = c.args.self.now.layout.now in
    let t = tables_of c.args.self.now in
    let fixed = c.args.self.now.fixed in
    subst (λ (rs : List Rela). AreApplied o l t fixed rs (lists_of c.args.parts.now) (lists_of c.loop-k.parts)) c.as_slice-relas.ensures
    (c.loop-k.invariant.left (lists_of c.loop-k.parts) (applied_all o l t fixed c.as_slice-relas.result.now c.loop-k.k (lists_of c.loop-k.parts) (omega (arith, c.loop-k.auto.k-end, c.loop-k-test.false))))

pub returns-clause-movable : goal.returns-clause-movable
returns-clause-movable c = c.loop-k.invariant.movable

pub returns-clause-fixed : goal.returns-clause-fixed
returns-clause-fixed c = c.loop-k.invariant.fixed
