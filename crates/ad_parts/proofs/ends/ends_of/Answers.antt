use Rattle.std.proofs.Common.{ap, ◌∙◌}
use Rattle.ad_parts.specs.Ends.{is_aligned}
use Rattle.ad_parts.proofs.Laid.{AreEnds-none, AreEnds-push, AreShort-none, AreShort-push, taken_more}
use Rattle.ad_parts.proofs.ends.ends_of.Goals as goal

pub loop-k-init : goal.loop-k-init
loop-k-init c = record { ends = AreEnds-none; short = AreShort-none }

pub loop-k-preserved : goal.loop-k-preserved
loop-k-preserved c =
    let more = taken_more c.args.sections.now c.loop-k.k c.index-sections-k.result c.loop-k-test.true c.index-sections-k.is in
    let fine = ap is_aligned c.index-sections-k.is ∙ c.requires.aligned c.loop-k.k c.index-sections-k.result c.loop-k-test.true in
    rw (c.behind-ends.ensures, more)
    (record { ends = AreEnds-push _ _ c.index-sections-k.result c.loop-k.invariant.ends; short = AreShort-push _ _ c.index-sections-k.result fine c.loop-k.invariant.short })
