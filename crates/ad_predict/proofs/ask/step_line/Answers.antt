use Rattle.std.proofs.Common.{◌≡◌, ◌++◌, ◌∷◌, [], ◌∙◌, length, get_or, slice_get, Some, ap, sym, subst}
use Rattle.std.specs.Prelude.{slice_set}
use Rattle.std.proofs.lemmas.Option.{get_or_from_slice_get}
use Rattle.ad_symbolic.specs.Reply.{answer_to}
use Rattle.ad_predict.specs.Prediction.{call_line, export_name, step_text}
use Rattle.ad_report.specs.Mapping.{module_name}
use Rattle.ad_predict.specs.Private.Asking.{HaveAnswered}
use Rattle.ad_predict.proofs.Answered.{Finds, answered-more, finds, line-of-call, on-ok}
use Rattle.ad_predict.proofs.ask.step_line.Goals as goal

pub returns-in-Call-clause-text : goal.returns-in-Call-clause-text
returns-in-Call-clause-text c =
    let a = c.args in
    let k = c.in-Call in
    let n = k.«module» in
    let at = c.index-modules-module.is in
    let m = get_or a.modules.now n c.index-modules-module.result in
    let found = finds a.images.now a.modules.now a.script.now.workers k.line k.worker n k.export k.args a.step.now c.index-modules-module.result c.requires.modules k.is c.requires.runnable at in
    let f = subst (λ y. (slice_get a.modules.now n ≡ Some y) × Finds a.images.now a.modules.now n k.export y) at found in
    let answer = answer_to a.fuel m (record { offset = f.1.x.offset; args = k.args }) in
    let image : c.index-images-module.result ≡ m.image = c.index-images-module.is ∙ get_or_from_slice_get a.images.now n m.image c.index-images-module.result f.1.image in
    on-ok c.call_line.result (λ said before after h.
    said answer (c.call-reply.ensures.reply f.1.x f.1.found)
    ∙ ap (λ text. a.text.now.items ++ text)
    ((λ j. call_line k.line k.worker (c.module_name.ensures j) (c.export_name.ensures j) answer)
    ∙ ap (λ i. call_line k.line k.worker (module_name a.script.now n) (export_name i k.export) answer) image
    ∙ sym (line-of-call a.images.now a.fuel before a.modules.now h k.line k.worker n k.export k.args m f.0 f.1.x f.1.found a.script.now after)
    ∙ ap (λ step. step_text a.script.now a.images.now a.fuel (before ++ step ∷ after) (length before) step) (sym k.is)))
    c.call_line.ensures

pub returns-in-Call-clause-modules : goal.returns-in-Call-clause-modules
returns-in-Call-clause-modules c =
    let a = c.args in
    let k = c.in-Call in
    let n = k.«module» in
    let at = c.index-modules-module.is in
    let m = get_or a.modules.now n c.index-modules-module.result in
    let found = finds a.images.now a.modules.now a.script.now.workers k.line k.worker n k.export k.args a.step.now c.index-modules-module.result c.requires.modules k.is c.requires.runnable at in
    let f = subst (λ y. (slice_get a.modules.now n ≡ Some y) × Finds a.images.now a.modules.now n k.export y) at found in
    on-ok c.call_line.result (λ said before h.
    subst (λ step. HaveAnswered a.images.now a.fuel (before ++ step ∷ []) (slice_set a.modules.now n c.call-reply.new.self)) (sym k.is)
    (answered-more a.images.now a.fuel before a.modules.now h k.line k.worker n k.export k.args m f.0 f.1.x f.1.found c.call-reply.new.self c.call-reply.ensures.image (c.call-reply.ensures.kept f.1.x f.1.found)))
    c.call_line.ensures
