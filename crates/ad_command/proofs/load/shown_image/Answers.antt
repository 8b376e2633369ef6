use Rattle.std.proofs.Common.{◌∙◌, ap}
use Rattle.ad_command.specs.Command.{shown_at}
use Rattle.ad_command.proofs.Loads.{handed_on, image-judged, show-made, show-refused}
use Rattle.ad_command.proofs.load.shown_image.Goals as goal

pub returns-in_err-plan-clause-serves : goal.returns-in_err-plan-clause-serves
returns-in_err-plan-clause-serves g c =
    let t = c.in_err-plan.field-0.0 in
    let same = handed_on c.from_residual.result t c.from_residual.ensures.1 in
    rw same (show-refused c.args.name.now (g.F.Files.outside c.args.files.now) (g.F.Files.outside c.plan_of.new.files) t c.in_err-plan.ensures)

pub returns-clause-serves : goal.returns-clause-serves
returns-clause-serves g c =
    let new = g.F.Files.outside c.plan_of.new.files in
    let said = c.image_at.ensures in
    show-made c.args.name.now (g.F.Files.outside c.args.files.now) new c.in_ok-plan.plan c.image_at.result c.shown_at-fixed.result (c.shown_at-fixed.ensures ∙ ap shown_at c.fixed_pages.ensures.pages) c.in_ok-plan.ensures
    (image-judged c.args.name.now c.in_ok-plan.plan c.shown_at-fixed.result new c.image_at.result said.image said.fault)
