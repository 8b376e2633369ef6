use Rattle.std.proofs.Common.{Err, Ok, refl, subst}
use Rattle.std.proofs.lemmas.Result.{err_from_is_err_and}
use Rattle.ad_command.specs.declared.trouble.Trouble.TheVariants.{Memory}
use Rattle.ad_command.specs.Command.{Shown}
use Rattle.ad_command.specs.Ending.{IsTextAlone}
use Rattle.ad_command.specs.Private.Asked.{prepared_ending}
use Rattle.ad_command.proofs.Commands.{show-done, show-unlinked, show-wanting}
use Rattle.ad_command.proofs.Loads.{handed_on}
use Rattle.ad_command.proofs.serve.shown.Goals as goal

pub returns-in_err-image : goal.returns-in_err-image
returns-in_err-image g c =
    let t = c.in_err-image.field-0.0 in
    let p = err_from_is_err_and c.from_residual.result c.from_residual.ensures.1 in
    rw (p.1, p.2) (Err t, show-unlinked (g.F.Files.outside c.args.files.now) (g.F.Files.outside c.shown_image.new.files) c.args.file.now t c.in_err-image.ensures.serves, refl)

pub returns-in_err-text : goal.returns-in_err-text
returns-in_err-text g c =
    let same = handed_on c.from_residual-in_err-text.result Memory c.from_residual-in_err-text.ensures.1 in
    rw same (Err Memory, show-wanting (g.F.Files.outside c.args.files.now) (g.F.Files.outside c.shown_image.new.files) c.args.file.now c.in_ok-image.image c.in_ok-image.ensures.serves, refl)

pub returns : goal.returns
returns g c =
    let i = c.in_ok-image.image in (
      Ok (Shown i),
      show-done (g.F.Files.outside c.args.files.now) (g.F.Files.outside c.shown_image.new.files) c.args.file.now i c.in_ok-image.ensures.serves,
      (Shown i, refl, (c.in_ok-image.ensures.whole, subst (λ text. IsTextAlone text (prepared_ending c.text_alone.result)) c.in_ok-text.ensures c.text_alone.ensures)),
    )
