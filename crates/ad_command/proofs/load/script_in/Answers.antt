use Rattle.std.proofs.Common.{sym}
use Rattle.ad_command.proofs.Loads.{handed_on, script-read, script-unread}
use Rattle.ad_command.proofs.load.script_in.Goals as goal

pub returns-in_err-text-clause-serves : goal.returns-in_err-text-clause-serves
returns-in_err-text-clause-serves g c =
    let t = c.in_err-text.field-0.0 in
    let same = handed_on c.from_residual.result t c.from_residual.ensures.1 in
    rw same (script-unread (g.F.Files.outside c.args.files.now) (g.F.Files.outside c.file_of.new.files) c.args.name.now t c.in_err-text.ensures)

pub returns-clause-serves : goal.returns-clause-serves
returns-clause-serves g c =
    let said = c.parse_script.ensures in
    let bytes = sym c.deref.ensures.value in
    let old = g.F.Files.outside c.args.files.now in
    let new = g.F.Files.outside c.file_of.new.files in
    let read = rw bytes at c.in_ok-text.ensures in
    script-read old new c.args.name.now c.deref.result.now c.parse_script.result read said.script said.fault
