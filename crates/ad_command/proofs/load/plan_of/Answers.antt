use Rattle.std.proofs.Common.{sym}
use Rattle.ad_command.proofs.Loads.{handed_on, module-read, module-unread}
use Rattle.ad_command.proofs.load.plan_of.Goals as goal

pub returns-in_err-file : goal.returns-in_err-file
returns-in_err-file g c =
    let t = c.in_err-file.field-0.0 in
    let same = handed_on c.from_residual.result t c.from_residual.ensures.1 in
    rw same (module-unread (g.F.Files.outside c.args.files.now) (g.F.Files.outside c.file_of.new.files) c.args.name.now t c.in_err-file.ensures)

pub returns : goal.returns
returns g c =
    let said = c.parse_module.ensures in
    let bytes = sym c.deref.ensures.value in
    let read = rw bytes at c.in_ok-file.ensures in
    module-read (g.F.Files.outside c.args.files.now) (g.F.Files.outside c.file_of.new.files) c.args.name.now c.deref.result.now c.parse_module.result read said.planned said.fault
