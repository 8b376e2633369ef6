use Rattle.ad_call.proofs.PiecesAt.{clear-stack-at}
use Rattle.ad_call.proofs.bus.ModuleBusBus.store.Goals as goal

pub store-requires-clause-spot : goal.store-requires-clause-spot
store-requires-clause-spot g c = (clear-stack-at c.args.self.now.pieces c.args.at c.ranges.at.fits c.if-offset-self.true).spot

pub store-requires-clause-behind : goal.store-requires-clause-behind
store-requires-clause-behind g c = (clear-stack-at c.args.self.now.pieces c.args.at c.ranges.at.fits c.if-offset-self.true).behind
