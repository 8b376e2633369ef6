use Rattle.std.proofs.Common.{◌≡◌, ◌<◌, ℕ, ◌+◌, ◌%◌, slice_index_or, false, ap, sym, ◌∙◌, Some, arith}
use Rattle.ad_place.specs.Choice.{candidate, region_count}
use Rattle.ad_place.proofs.Regions.{first_unused_is, first_unused_none}
use Rattle.ad_place.proofs.region.first_unused.Goals as goal

pub returns-then-not-used-region : goal.returns-then-not-used-region
returns-then-not-used-region c =
    let used = λ (region : ℕ). slice_index_or c.args.used.now region false in
    let same : c.first_region-first.result + (c.from.result + c.loop-i.i) % c.region_count-count.result ≡ candidate c.args.kind c.args.word c.loop-i.i = cc in
    let inside : c.loop-i.i < region_count c.args.kind = omega arith in
    ap Some same ∙ sym (first_unused_is used c.args.kind c.args.word c.loop-i.i inside c.loop-i.invariant (sym (ap used same) ∙ c.if-not-used-region.true))

pub returns : goal.returns
returns c =
    let used = λ (region : ℕ). slice_index_or c.args.used.now region false in
    sym (first_unused_none used c.args.kind c.args.word (λ j inside. c.loop-i.invariant j (omega arith)))
