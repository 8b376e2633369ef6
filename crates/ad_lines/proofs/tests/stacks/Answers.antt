use Rattle.std.proofs.Common.{◌∙◌, ap, sym}
use Rattle.ad_base.specs.declared.ledger.Kind.TheVariants.{Stack}
use Rattle.ad_lines.proofs.LoadedPush.{drawn-none, drawn-worker}
use Rattle.ad_place.specs.Choice.{Drawn, with_next}
use Rattle.ad_lines.proofs.tests.stacks.Goals as goal

pub returns : goal.returns
returns c =
    let e = c.in_ok-placer.ensures in
    let none = (λ j. record { seed = e.seed j; places = e.none j }) ∙ sym (drawn-none 0) in
    let one = c.next-first.ensures.after ∙ ap (λ (d : Drawn). with_next d Stack 4) none ∙ sym (drawn-worker 0 0) in
    c.next-second.ensures.after ∙ ap (λ (d : Drawn). with_next d Stack 4) one ∙ sym (drawn-worker 0 1)
