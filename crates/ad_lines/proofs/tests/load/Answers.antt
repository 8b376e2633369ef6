use Rattle.std.proofs.Common.{◌≡◌, ◌∙◌, ap, sym}
use Rattle.ad_base.specs.declared.ledger.Kind.TheVariants.{Code, Fixed}
use Rattle.ad_base.specs.Image.{fixed_pages}
use Rattle.ad_lines.specs.Opening.{opening_drawn}
use Rattle.ad_lines.proofs.LoadedPush.{drawn-push, loaded-push}
use Rattle.ad_place.specs.Choice.{Drawn, next_place, with_next}
use Rattle.ad_lines.proofs.tests.load.Goals as goal

pub returns-clause-loaded : goal.returns-clause-loaded
returns-clause-loaded c = λ seed workers before loaded few at.
    let drawn = c.next-fixed.ensures in
    let i = c.in_ok-image.image in
    let e = c.in_ok-image.ensures in
    let there : i.fixed ≡ next_place (opening_drawn seed workers before) Fixed (fixed_pages i) =
    e.fixed ∙ drawn.drawn ∙ (λ j. next_place (at j) Fixed (sym e.fixed_pages j)) in
    let after = c.next-movable.ensures.after ∙ ap (λ (d : Drawn). with_next d Code 4) drawn.after
    ∙ (λ j. with_next (with_next (at j) Fixed (sym e.fixed_pages j)) Code (sym e.movable_pages j)) in
    (loaded-push seed workers before i loaded few e.whole e.offsets there, after ∙ sym (drawn-push seed workers before i))
