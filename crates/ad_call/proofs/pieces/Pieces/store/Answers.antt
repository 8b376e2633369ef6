use Rattle.std.proofs.Common.{◌∙◌, Some}
use Rattle.ad_base.specs.declared.role.Role.TheVariants.{Data, FixedData, Stack}
use Rattle.ad_call.proofs.PiecesAt.{fits-at, fits-of, held-at}
use Rattle.ad_call.proofs.Replaced.{as-long, put-stored}
use Rattle.ad_call.proofs.pieces.Pieces.store.Goals as goal

pub put-requires-clause-stack : goal.put-requires-clause-stack
put-requires-clause-stack c = fits-of c.args.self.now c.args.size c.args.at c.args.spot Stack c.requires.size c.requires.aligned c.requires.spot

pub put-requires-clause-fixed : goal.put-requires-clause-fixed
put-requires-clause-fixed c = fits-of c.args.self.now c.args.size c.args.at c.args.spot FixedData c.requires.size c.requires.aligned c.requires.spot

pub put-requires-clause-writable : goal.put-requires-clause-writable
put-requires-clause-writable c = fits-of c.args.self.now c.args.size c.args.at c.args.spot Data c.requires.size c.requires.aligned c.requires.spot

pub invariant_of-self : goal.invariant_of-self
invariant_of-self c =
    let b = c.args.self.now in
    let inside = fits-at b c.args.size c.args.at c.args.spot c.requires.size c.requires.aligned c.requires.spot in
    let long = as-long b.image.now b.under b.stack c.args.at c.args.size c.args.value c.args.spot b.bytes inside c.put.result c.put.new.self c.put.ensures in
    record { whole = b.whole; sized = b.sized; bounded = b.bounded; low = b.low; fresh = long.stack ∙ b.fresh; «data» = record { movable = long.writable ∙ b.data.movable; immovable = long.fixed ∙ b.data.immovable } }

pub returns-clause-segments : goal.returns-clause-segments
returns-clause-segments c =
    let b = c.args.self.now in
    let inside = fits-at b c.args.size c.args.at c.args.spot c.requires.size c.requires.aligned c.requires.spot in
    put-stored b.image.now b.under b.stack c.args.at c.args.size c.args.value c.args.spot b.bytes inside c.put.result c.put.new.self c.requires.aligned c.requires.behind (held-at b c.args.at (Some c.args.spot) c.requires.spot) c.put.ensures
