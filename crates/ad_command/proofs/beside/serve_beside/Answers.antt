use Rattle.std.proofs.Common.{Err, refl}
use Rattle.std.proofs.lemmas.Result.{err_from_is_err_and}
use Rattle.ad_command.specs.Command.{Beside}
use Rattle.ad_command.specs.Ending.{IsDone}
use Rattle.ad_command.specs.Loading.{module_of, script_in}
use Rattle.ad_command.specs.Private.Asked.{prepared_ending}
use Rattle.ad_command.proofs.Commands.{job-ran, job-unloaded, job-unread}
use Rattle.ad_command.proofs.beside.serve_beside.Goals as goal

pub returns-in_err-script : goal.returns-in_err-script
returns-in_err-script g c =
    let t = c.in_err-script.field-0.0 in
    let p = err_from_is_err_and c.from_residual.result c.from_residual.ensures.1 in
    rw (p.1, p.2) (Err t, job-unread (script_in c.args.name.now) module_of c.args.seed c.args.fuel (g.F.Files.outside c.args.files.now) (g.F.Files.outside c.script_from.new.files) t c.in_err-script.ensures.serves, refl)

pub returns-in_err-loaded : goal.returns-in_err-loaded
returns-in_err-loaded g c =
    let t = c.in_err-loaded.field-0.0 in
    let p = err_from_is_err_and c.from_residual-in_err-loaded.result c.from_residual-in_err-loaded.ensures.1 in
    rw (p.1, p.2) (
      Err t,
      job-unloaded (script_in c.args.name.now) module_of c.args.seed c.args.fuel (g.F.Files.outside c.args.files.now) (g.F.Files.outside c.script_from.new.files) c.in_ok-script.script c.in_ok-script.ensures.serves (g.F.Files.outside c.load_images.new.files) t c.in_err-loaded.ensures.serves,
      refl,
    )

pub returns : goal.returns
returns g c =
    let loaded = c.in_ok-loaded.loaded in
    job-ran (script_in c.args.name.now) module_of c.args.seed c.args.fuel (g.F.Files.outside c.args.files.now) (g.F.Files.outside c.script_from.new.files) c.in_ok-script.script c.in_ok-script.ensures.serves (g.F.Files.outside c.load_images.new.files) loaded.images.items c.in_ok-loaded.ensures.serves
    (λ j. IsDone (Beside c.args.sizes.slots c.args.sizes.frames j)) prepared_ending c.beside_job.result loaded.placer.seed c.in_ok-loaded.ensures.seed c.beside_job.ensures.done c.beside_job.ensures.fault
