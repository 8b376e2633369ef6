use Rattle.std.proofs.Common.{refl, subst}
use Rattle.std.proofs.lemmas.List.{take_all}
use Rattle.std.proofs.lemmas.List.Elements.{All-more}
use Rattle.ad_kit.specs.Private.Written.{IsSectionWritable}
use Rattle.ad_kit.proofs.writable.are_sections_writable.Goals as goal

pub loop-k-preserved : goal.loop-k-preserved
loop-k-preserved c = All-more IsSectionWritable c.args.sections.now c.loop-k.k c.index-sections-k.result c.loop-k-test.true c.loop-k.invariant (subst IsSectionWritable c.index-sections-k.is (c.is_section_writable.ensures.0 c.if-not-is_section_writable.false))

pub returns : goal.returns
returns c = (λ yes. rw (take_all c.loop-k.k c.args.sections.now c.loop-k-test.false) at c.loop-k.invariant, λ all. refl)
