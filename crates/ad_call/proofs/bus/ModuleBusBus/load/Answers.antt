use Rattle.std.proofs.Common.{◌+◌, ◌-◌, ◌%◌, ◌^◌, ◌∙◌, sym, ap, drop, Some, Ok}
use Rattle.byteorder.specs.Endian.{little_number}
use Rattle.ad_base.specs.declared.role.Role.TheVariants.{Stack}
use Rattle.ad_call.specs.declared.spot.Spot.{Spot}
use Rattle.ad_call.specs.Private.InPieces.{segments_in}
use Rattle.ad_call.proofs.PiecesAt.{bytes_in, clear-stack-at, held-at}
use Rattle.ad_call.proofs.Reached.{loaded-some}
use Rattle.ad_call.proofs.bus.ModuleBusBus.load.Goals as goal

pub returns-then-offset-self-clause-found : goal.returns-then-offset-self-clause-found
returns-then-offset-self-clause-found g c =
    let b = c.args.self.now.pieces in
    let at = c.args.at in
    let clear = clear-stack-at b at c.ranges.at.fits c.if-offset-self.true in
    let offset = (at + (2 ^ 64 - b.bounds.stack_base)) % 2 ^ 64 in
    let spot : Spot = record { role = Stack; offset = offset } in
    loaded-some c.args.size (segments_in b) at c.requires.aligned (bytes_in b) spot clear.behind (held-at b at (Some spot) clear.spot)
    ∙ ap Ok (sym (c.number_at.ensures.found ∙ ap (λ bytes. little_number c.args.size (drop offset bytes)) c.stack.ensures))
