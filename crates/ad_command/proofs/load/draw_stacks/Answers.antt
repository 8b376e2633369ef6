use Rattle.std.proofs.Common.{◌≡◌, ◌∙◌, [], length, ap, sym, arith}
use Rattle.ad_base.specs.declared.layout.TheConstants.{STACK_PAGES}
use Rattle.ad_base.specs.declared.ledger.Kind.TheVariants.{Stack}
use Rattle.ad_lines.specs.Opening.{opening_drawn}
use Rattle.ad_lines.proofs.LoadedPush.{drawn-none, drawn-worker, length-stacks}
use Rattle.ad_place.specs.Choice.{Drawn, with_next}
use Rattle.ad_command.proofs.load.draw_stacks.Goals as goal

pub loop-init : goal.loop-init
loop-init c =
    let e = c.in_ok-placer.ensures in
    (λ j. record { seed = e.seed j; places = e.none j }) ∙ sym (drawn-none c.args.seed)

pub next-requires-clause-left : goal.next-requires-clause-left
next-requires-clause-left c =
    let few = ap (λ (d : Drawn). length d.places) c.loop.invariant in
    omega (arith, length-stacks c.args.seed c.loop.counter, few)

pub loop-preserved : goal.loop-preserved
loop-preserved c =
    c.next.ensures.after ∙ ap (λ (d : Drawn). with_next d Stack STACK_PAGES) c.loop.invariant ∙ sym (drawn-worker c.args.seed c.loop.counter)

pub returns : goal.returns
returns c =
    let end : c.loop.counter ≡ c.args.workers = omega arith in
    c.loop.invariant ∙ ap (λ n. opening_drawn c.args.seed n []) end
