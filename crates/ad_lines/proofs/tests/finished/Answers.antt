use Rattle.std.proofs.Common.{◌≡◌, ◌∙◌, List, [], ◌∷◌, length, ap, sym, subst, arith}
use Rattle.std.specs.List.{All}
use Rattle.std.proofs.lemmas.List.Elements.{All-cons, All-nil}
use Rattle.ad_base.specs.declared.image.Image.{Image}
use Rattle.ad_lines.specs.declared.ready.ReadyStep.{ReadyStep}
use Rattle.ad_lines.specs.declared.ready.ReadyStep.TheVariants.{Stack}
use Rattle.ad_lines.specs.LineRun.{RunState}
use Rattle.ad_lines.specs.Opening.{opening_run}
use Rattle.ad_lines.specs.Ready.{IsRunnable}
use Rattle.ad_lines.specs.Room.{images_of}
use Rattle.ad_lines.proofs.Opened.{opening-there}
use Rattle.ad_lines.proofs.tests.finished.Goals as goal

pub run-requires-clause-runnable : goal.run-requires-clause-runnable
run-requires-clause-runnable c =
    let l = c.in_ok-first.field-0 in
    let e = c.in_ok-first.ensures in
    let a = l.first in
    let b = l.second in
    let images : List Image = a ∷ b ∷ [] in
    let run = c.in_ok-run.run' in
    let opened : run.state ≡ opening_run 2 images l.placer = rw (c.in_ok-push-2.ensures.items, c.in_ok-push.ensures.items, c.new-images.ensures.items) at c.in_ok-run.ensures.state in
    let begun = opening-there l.placer.seed 2 images e.loaded in
    let state = opened ∙ ap (opening_run 2 images) e.drawn in
    let same = ap images_of state ∙ begun.images_are in
    let count = ap (λ (x : RunState). length x.stacks) state ∙ begun.stacks_are in
    let P : ReadyStep → Type 0 = IsRunnable images 2 in
    let stack : ReadyStep = Stack 8 1 in
    let from7 : List ReadyStep = c.call-6.result ∷ [] in
    let are7 : All P from7 = All-cons P (c.call-6.result) [] (c.call-6.ensures a b e.first e.second) (All-nil P) in
    let from6 : List ReadyStep = c.call-5.result ∷ from7 in
    let are6 : All P from6 = All-cons P (c.call-5.result) from7 (c.call-5.ensures a b e.first e.second) are7 in
    let from5 : List ReadyStep = stack ∷ from6 in
    let are5 : All P from5 = All-cons P stack from6 (omega arith) are6 in
    let from4 : List ReadyStep = c.call-4.result ∷ from5 in
    let are4 : All P from4 = All-cons P (c.call-4.result) from5 (c.call-4.ensures a b e.first e.second) are5 in
    let from3 : List ReadyStep = c.call-3.result ∷ from4 in
    let are3 : All P from3 = All-cons P (c.call-3.result) from4 (c.call-3.ensures a b e.first e.second) are4 in
    let from2 : List ReadyStep = c.move_second.result ∷ from3 in
    let are2 : All P from2 = All-cons P (c.move_second.result) from3 (c.move_second.ensures a b) are3 in
    let from1 : List ReadyStep = c.call-2.result ∷ from2 in
    let are1 : All P from1 = All-cons P (c.call-2.result) from2 (c.call-2.ensures a b e.first e.second) are2 in
    let from0 : List ReadyStep = c.call.result ∷ from1 in
    let are0 : All P from0 = All-cons P (c.call.result) from1 (c.call.ensures a b e.first e.second) are1 in
    let known = subst (λ is. All (IsRunnable is 2) from0) (sym same) are0 in
    subst (λ n. All (IsRunnable (images_of run.state) n) from0) (sym count) known
