use Rattle.std.proofs.Common.{◌≡◌, ◌+◌, [], ◌∷◌, ◌∙◌, ap, sym, drop, Some, None, Err, arith}
use Rattle.std.proofs.lemmas.List.{drop_all}
use Rattle.ad_lines.specs.Ready.{ready_step, ready_steps}
use Rattle.ad_lines.proofs.Lists.{drop-next}
use Rattle.ad_lines.proofs.Resolved.{behind, behind-all, behind-missing, behind-ready}
use Rattle.ad_lines.proofs.ready.ready_steps.Goals as goal

pub returns-in_default-clause-missing : goal.returns-in_default-clause-missing
returns-in_default-clause-missing c = λ line e.
    let l = c.loop-step in
    let images = c.args.images.now in
    let steps = c.args.steps.now in
    let x = c.step-item.result in
    let rest = drop (l.step-index + 1) steps in
    let first : drop l.step-index steps ≡ x ∷ rest = drop-next steps l.step-index x c.loop-step-test.true c.step-item.is in
    let none : ready_step images x ≡ None = sym c.ready_step.ensures ∙ c.in_default.is in
    let this : c.line.result ≡ line = cc in
    sym l.invariant.ready ∙ ap (λ xs. behind l.ready.items (ready_steps images xs)) first ∙ behind-missing images l.ready.items x rest none ∙ ap Err (sym c.line.ensures ∙ this)

pub loop-step-preserved : goal.loop-step-preserved
loop-step-preserved c =
    let l = c.loop-step in
    let images = c.args.images.now in
    let steps = c.args.steps.now in
    let x = c.step-item.result in
    let rest = drop (l.step-index + 1) steps in
    let first : drop l.step-index steps ≡ x ∷ rest = drop-next steps l.step-index x c.loop-step-test.true c.step-item.is in
    let some : ready_step images x ≡ Some c.in-Some.next = sym c.ready_step.ensures ∙ c.in-Some.is in
    let pushed = c.push_reserved.ensures in
    record {
      ready =
          ap (λ done. behind done (ready_steps images rest)) pushed.items
          ∙ sym (behind-ready images l.ready.items x c.in-Some.next rest some)
          ∙ ap (λ xs. behind l.ready.items (ready_steps images xs)) (sym first)
          ∙ l.invariant.ready;
      len = omega (arith, pushed.len, l.invariant.len);
      room = omega (arith, pushed.capacity, l.invariant.room);
    }

pub returns-clause-ready : goal.returns-clause-ready
returns-clause-ready c =
    let l = c.loop-step in
    let images = c.args.images.now in
    let end : drop l.step-index c.args.steps.now ≡ [] = drop_all l.step-index c.args.steps.now c.loop-step-test.false in
    sym l.invariant.ready ∙ ap (λ xs. behind l.ready.items (ready_steps images xs)) end ∙ behind-all images l.ready.items
