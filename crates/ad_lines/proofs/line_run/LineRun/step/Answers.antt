use Rattle.std.proofs.Common.{◌∷◌, subst, sym}
use Rattle.ad_lines.specs.Room.{HasRoom}
use Rattle.ad_lines.proofs.Kept.{room-after}
use Rattle.ad_lines.proofs.line_run.LineRun.step.Goals as goal

pub returns-in-Call-clause-room : goal.returns-in-Call-clause-room
returns-in-Call-clause-room c = λ rest h.
    let v = c.args.self.now in
    let w = c.call.new.self in
    let i = c.in-Call in
    let first = subst (λ s. HasRoom (s ∷ rest) v) i.is h in
    let after = room-after v.fuel v.move_room v.call_room v.state w.state i.line i.worker i.«module» i.export i.args rest first in
    let e = c.call.ensures in
    subst (HasRoom rest) (λ j. record { state = w.state; fuel = sym e.fuel j; call_room = sym e.call_room j; move_room = sym e.move_room j }) after
