use Rattle.std.proofs.Common.{IfSome, subst}
use Rattle.ad_generator.specs.Generated.{generated_script}
use Rattle.ad_generator.specs.Modules.{modules}
use Rattle.ad_words.specs.Laws.{IsInRange}
use Rattle.ad_command.proofs.Built.{built-images, steps-ready}
use Rattle.ad_command.proofs.Complete.{right-gen-is-done, right-predict-is-done, right-run-is-done, right-seq-is-done, right-show-is-done}
use Rattle.ad_command.proofs.laws.law_right_commands_are_done.Goals as goal

pub returns-clause-run : goal.returns-clause-run
returns-clause-run c = λ files words operand seed fuel slots frames s images steps said short script right ready.
    right-run-is-done files words operand seed fuel s images steps short script right ready slots frames said

pub returns-clause-seq : goal.returns-clause-seq
returns-clause-seq c = λ files words operand seed fuel s images steps said short script right ready.
    right-seq-is-done files words operand seed fuel s images steps short script right ready said

pub returns-clause-predict : goal.returns-clause-predict
returns-clause-predict c = λ files words operand seed fuel s images steps said short script right ready.
    right-predict-is-done files words operand seed fuel s images steps short script right ready said

pub returns-clause-show : goal.returns-clause-show
returns-clause-show c = λ files words operand p i said short plan is. right-show-is-done files words operand p i short plan is said

pub returns-clause-built : goal.returns-clause-built
returns-clause-built c = λ files words number seed fuel said.
    let range = subst (λ o. IfSome o IsInRange) said (c.law_in_range.ensures words) in
    let law = c.law_script.ensures in
    let s = generated_script number in
    let all = built-images seed s.workers s.loads modules (law.loads number) c.law_plans.ensures c.law_images.ensures c.law_files.ensures.short in
    let ready = steps-ready all.0 all.2 s.steps (law.steps number) in
    (all.0, ready.0, all.1, ready.1, right-gen-is-done files words number seed fuel s all.0 ready.0 (law.read number range.0 range.1) all.1 ready.1 said)
