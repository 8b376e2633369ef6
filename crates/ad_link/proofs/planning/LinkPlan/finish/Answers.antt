use Rattle.std.proofs.Common.{◌≡◌, ◌∙◌, ap, sym}
use Rattle.ad_link.specs.Plan as plan
use Rattle.ad_link.specs.Plan.{Planned}
use Rattle.ad_link.proofs.Finished.{image_exports, image_pages, image_place}
use Rattle.ad_link.proofs.planning.LinkPlan.finish.Goals as goal

pub returns-in-Ok-clause-fixed : goal.returns-in-Ok-clause-fixed
returns-in-Ok-clause-fixed c =
    let p = c.self.inside in
    image_place p.object p.layout p.tables c.args.fixed c.in-Ok.image c.in-Ok.ensures.image

pub returns-in-Ok-clause-movable_pages : goal.returns-in-Ok-clause-movable_pages
returns-in-Ok-clause-movable_pages c =
    let p = c.self.inside in
    image_pages p.object p.layout p.tables c.args.fixed c.in-Ok.image c.in-Ok.ensures.image ∙ ap (λ (x : Planned). plan.movable_pages x.layout.sizes) c.self.view_is

pub returns-in-Ok-clause-exports : goal.returns-in-Ok-clause-exports
returns-in-Ok-clause-exports c =
    let p = c.self.inside in
    let sound = c.self.invariant in
    image_exports p.object p.layout p.tables c.args.fixed c.in-Ok.image c.in-Ok.ensures.image sound.range sound.layout sound.tables
