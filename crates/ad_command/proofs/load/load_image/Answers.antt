use Rattle.std.proofs.Common.{◌∙◌, Ok, Err, ap}
use Rattle.ad_base.specs.declared.ledger.Kind.TheVariants.{Code, Fixed}
use Rattle.ad_link.specs.Plan.{movable_pages}
use Rattle.ad_place.specs.Choice.{next_place, with_next}
use Rattle.ad_command.specs.Private.Asked.{module_from}
use Rattle.ad_command.proofs.Loads.{handed_on, image-judged, image-made, image-refused, module-loaded}
use Rattle.ad_command.proofs.load.load_image.Goals as goal

pub returns-in_err-plan-clause-serves : goal.returns-in_err-plan-clause-serves
returns-in_err-plan-clause-serves g c = λ workers before at.
    let t = c.in_err-plan.field-0.0 in
    let same = handed_on c.from_residual.result t c.from_residual.ensures.1 in
    let step = rw c.file_text-name.ensures at c.in_err-plan.ensures in
    rw same (image-refused (module_from c.args.source) c.args.placer.now.seed workers before c.args.load.now (g.F.Files.outside c.args.files.now) (g.F.Files.outside c.plan_from.new.files) t step)

pub returns-in_err-image-clause-serves : goal.returns-in_err-image-clause-serves
returns-in_err-image-clause-serves g c = λ workers before at.
    let t = c.in_err-image.field-0.0 in
    let same = handed_on c.from_residual-in_err-image.result t c.from_residual-in_err-image.ensures.1 in
    let new = g.F.Files.outside c.plan_from.new.files in
    let p = c.in_ok-plan.plan in
    let fixed = c.next-fixed.ensures.drawn ∙ (λ j. next_place (at j) Fixed (c.fixed_pages.ensures.pages j)) in
    let step = rw c.file_text-name.ensures at c.in_ok-plan.ensures in
    let fault = rw c.file_text-name.ensures at c.in_err-image.ensures.fault in
    rw same (image-made (module_from c.args.source) c.args.placer.now.seed workers before c.args.load.now (g.F.Files.outside c.args.files.now) new p (Err t) c.next-fixed.result fixed step
    (image-judged c.args.load.now.file p c.next-fixed.result new (Err t) tt fault))

pub returns-clause-serves : goal.returns-clause-serves
returns-clause-serves g c = λ workers before at.
    let new = g.F.Files.outside c.plan_from.new.files in
    let p = c.in_ok-plan.plan in
    let fixed = c.next-fixed.ensures.drawn ∙ (λ j. next_place (at j) Fixed (c.fixed_pages.ensures.pages j)) in
    let step = rw c.file_text-name.ensures at c.in_ok-plan.ensures in
    image-made (module_from c.args.source) c.args.placer.now.seed workers before c.args.load.now (g.F.Files.outside c.args.files.now) new p (Ok c.in_ok-image.image) c.next-fixed.result fixed step
    (image-judged c.args.load.now.file p c.next-fixed.result new (Ok c.in_ok-image.image) c.in_ok-image.ensures.image tt)

pub returns-clause-loaded : goal.returns-clause-loaded
returns-clause-loaded g c = λ workers before loaded few at.
    let placer = c.args.placer.now in
    let z = c.in_ok-plan.plan.layout.sizes in
    let drawn = c.next-fixed.ensures in
    let said = c.in_ok-image.ensures in
    let pages = c.fixed_pages.ensures.pages in
    let chosen = drawn.drawn ∙ ap (λ n. next_place placer Fixed n) pages in
    let all = module-loaded placer.seed workers before z placer c.next-fixed.result c.in_ok-image.image at chosen said.whole said.offsets said.fixed (drawn.pages ∙ pages) said.movable_pages loaded few in
    let after = c.next.ensures.after ∙ (λ j. with_next (drawn.after j) Code (c.movable_pages-movable_pages.ensures.pages j)) ∙ ap (λ n. with_next (with_next placer Fixed n) Code (movable_pages z)) pages in
    (all.0, after ∙ all.1)
