use Rattle.std.proofs.Common.{refl, ◌∙◌, ◌+◌}
use Rattle.ad_maps.specs.Private.Handles.{plan_of}
use Rattle.ad_maps.proofs.Looking.{one-looked, free-found}
use Rattle.ad_maps.proofs.moves.find.Goals as goal

pub loop-index-preserved : goal.loop-index-preserved
loop-index-preserved c = record {
  at = c.look-owner.ensures.at ∙ c.loop-index.invariant.at;
  looked = one-looked c.args.table.now.shared.key c.args.first c.loop-index.index c.loop-index.last (plan_of c.args.seat.now.me.0) c.loop-index.seat.me c.look-owner.new.seat.me c.look-owner.result c.loop-index.invariant.looked c.if-owner-eq0.false (c.look-owner.ensures.last c.if-owner-eq0.false) c.look-owner.ensures.view c.look-owner.result refl;
}

pub returns-then-owner-eq0-clause-found : goal.returns-then-owner-eq0-clause-found
returns-then-owner-eq0-clause-found c = free-found c.args.table.now.shared.key c.args.first c.args.frames c.loop-index.index c.loop-index.last (plan_of c.args.seat.now.me.0) c.loop-index.seat.me c.look-owner.new.seat.me c.look-owner.result (c.args.first + c.loop-index.index) c.loop-index.invariant.looked c.if-owner-eq0.true c.loop-index-test.true refl c.look-owner.ensures.view
