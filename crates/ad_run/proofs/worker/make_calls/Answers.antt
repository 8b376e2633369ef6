use Rattle.std.proofs.Common.{◌≡◌, ◌+◌, ◌∷◌, sym, ap, subst, drop}
use Rattle.ad_lines.proofs.Lists.{drop-next}
use Rattle.ad_run.specs.Calls.{HaveDraws, PerformsAll}
use Rattle.ad_run.proofs.Working.{draw-left, draws-after}
use Rattle.ad_wrapper.proofs.HandsAgain.{hands-again}
use Rattle.ad_run.proofs.worker.make_calls.Goals as goal

pub perform-hands-requires-clause-left : goal.perform-hands-requires-clause-left
perform-hands-requires-clause-left g c =
    let l = c.loop-call in
    let call = c.call-item.result in
    let rest = drop (l.call-index + 1) c.args.calls.now in
    let next : drop l.call-index c.args.calls.now ≡ call ∷ rest = drop-next c.args.calls.now l.call-index call c.loop-call-test.true c.call-item.is in
    draw-left l.hands.turn_seat.left call rest (subst (HaveDraws l.hands.turn_seat.left) next l.invariant.draws)

pub loop-call-preserved : goal.loop-call-preserved
loop-call-preserved g c =
    let l = c.loop-call in
    let shared = c.args.shared.now in
    let call = c.call-item.result in
    let rest = drop (l.call-index + 1) c.args.calls.now in
    let next : drop l.call-index c.args.calls.now ≡ call ∷ rest = drop-next c.args.calls.now l.call-index call c.loop-call-test.true c.call-item.is in
    let made = c.perform-hands.ensures in
    let after = c.perform-hands.result in
    let draws = draws-after l.hands.turn_seat.left call rest (subst (HaveDraws l.hands.turn_seat.left) next l.invariant.draws) in record {
      of_worker = hands-again shared l.hands call after l.invariant.of_worker made;
      draws = subst (λ left. HaveDraws left rest) (sym (ap (λ seat. seat.left) made.turn_seat)) draws;
      made = λ last all. l.invariant.made last (subst (λ calls. PerformsAll shared l.hands calls last) (sym next) (after, made, all));
    }
