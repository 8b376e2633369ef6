use Rattle.std.proofs.Common.{ap, refl, ◌∙◌}
use Rattle.ad_parts.specs.Area.{area_of}
use Rattle.ad_parts.specs.Ends.{is_aligned}
use Rattle.ad_parts.specs.Layout.{spot_at}
use Rattle.ad_parts.proofs.Laid.{AreEnds-none, AreEnds-push, AreShort-none, AreShort-push, spots_all, spots_more, taken_more}
use Rattle.ad_parts.proofs.pages.spots_of.Goals as goal

pub loop-k-init : goal.loop-k-init
loop-k-init c = record { ends = AreEnds-none; short = AreShort-none; rest = rw c.new-spots.ensures.items refl }

pub loop-k-preserved : goal.loop-k-preserved
loop-k-preserved c =
    let section = c.index-sections-k.result in
    let old = c.loop-k.invariant in
    let more = taken_more c.args.sections.now c.loop-k.k section c.loop-k-test.true c.index-sections-k.is in
    let fine = ap is_aligned c.index-sections-k.is ∙ c.requires.aligned c.loop-k.k section c.loop-k-test.true in
    let here = c.spot.ensures ∙ ap (λ n. spot_at c.args.sizes n section) (old.ends.each_one (area_of section)) in
    record {
      ends = rw (c.behind-ends.ensures, more) (AreEnds-push _ _ section old.ends);
      short = rw (c.behind-ends.ensures, more) (AreShort-push _ _ section fine old.short);
      rest = spots_more c.args.sizes c.args.sections.now c.loop-k.k section _ _ c.spot.result c.loop-k-test.true c.index-sections-k.is here c.in_ok-push.ensures.items old.rest;
    }

pub returns : goal.returns
returns c = spots_all c.args.sizes c.args.sections.now c.loop-k.k _ _ c.loop-k-test.false c.loop-k.invariant.rest
