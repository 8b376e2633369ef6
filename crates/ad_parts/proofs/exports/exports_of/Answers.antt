use Rattle.ad_parts.specs.Symbols.{export}
use Rattle.ad_parts.proofs.Listed.{exports_more}
use Rattle.ad_parts.proofs.exports.exports_of.Goals as goal

pub loop-k-preserved : goal.loop-k-preserved
loop-k-preserved c = exports_more (export c.args.spots.now) c.args.symbols.now c.loop-k.k c.index-symbols-k.result _ _ c.loop-k.auto.k c.loop-k-test.true c.index-symbols-k.is c.loop-k.invariant c.in_ok-push_export.ensures
