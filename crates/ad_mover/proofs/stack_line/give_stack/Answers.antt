use Rattle.std.proofs.Common.{◌≡◌, [], ◌∷◌, ◌++◌, refl, sym, ap, ◌∙◌, arith}
use Rattle.ad_base.specs.declared.place.Place.{Place}
use Rattle.ad_mover.specs.Seen.{moving}
use Rattle.ad_mover.proofs.Drawing.{drawn-above, drawn-stack}
use Rattle.ad_place.specs.Choice.{Drawn}
use Rattle.ad_mover.proofs.stack_line.give_stack.Goals as goal

pub refresh-requires-clause-above : goal.refresh-requires-clause-above
refresh-requires-clause-above c =
    drawn-above c.args.shared.now.maps.shape c.args.shared.now.stacks.openings (moving c.args.mover.now) c.next-place.result.mapping c.requires.mover.drawn (let n = c.next-place.ensures.mapping in omega arith)

pub returns-clause-drawn : goal.returns-clause-drawn
returns-clause-drawn c =
    let before = moving c.args.mover.now in
    let places : c.next-place.new.self.places ≡ before.drawn.places ++ c.next-place.result ∷ [] =
    ap (λ (d : Drawn). d.places) c.next-place.ensures.after ∙ ap (λ (p : Place). before.drawn.places ++ p ∷ []) (sym c.next-place.ensures.drawn) in
    drawn-stack c.args.shared.now.maps.shape c.args.shared.now.stacks.openings before (record before { drawn = c.next-place.new.self; refreshes = c.refresh.new.mover.refreshes }) c.next-place.result c.requires.mover.drawn
    (let v = c.left.ensures.value in let some = c.if-left-eq0.false in omega arith) places c.next-place.ensures.mapping c.args.worker c.args.line refl c.refresh.ensures.refreshes refl
