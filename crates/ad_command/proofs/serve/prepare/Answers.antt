use Rattle.std.proofs.Common.{map, string_bytes, IfSome, Some, Err, refl, ap, subst, sym, ◌∙◌}
use Rattle.ad_command.specs.Command.{Generated, Lines, Predicted, job_built, job_in}
use Rattle.ad_command.specs.Private.Asked.{prepared_ending}
use Rattle.ad_words.specs.Private.Seen.{command_seen}
use Rattle.ad_words.specs.Laws.{IsInRange}
use Rattle.ad_words.specs.Words.{Gen, Predict, Run, Seq, Show}
use Rattle.ad_command.specs.declared.trouble.Trouble.TheVariants.{Usage}
use Rattle.ad_command.proofs.Commands.{command-none, command-some, work-ran}
use Rattle.ad_command.proofs.Tables.{run-by-word}
use Rattle.ad_command.proofs.serve.prepare.Goals as goal

pub returns-in_default : goal.returns-in_default
returns-in_default g c = (Err Usage, command-none (g.F.Files.outside c.args.files.now) (map string_bytes c.args.words.now) (sym c.in_default.ensures), refl)

pub unreachable-requires : goal.unreachable-requires
unreachable-requires g c =
    let k = c.in-Run in
    let words = map string_bytes c.args.words.now in
    let first = run-by-word words (Run k.script.now k.seed k.fuel k.slots k.frames) (ap (λ x. Some (command_seen x)) (sym k.is) ∙ c.in-Some.ensures) in
    absurd (let e = first ∙ c.requires in cc)

pub returns-in-Seq : goal.returns-in-Seq
returns-in-Seq g c =
    let k = c.in-Seq in
    let old = g.F.Files.outside c.args.files.now in
    let new = g.F.Files.outside c.serve_job.new.files in
    let ran = c.serve_job.ensures in
    let last = work-ran Lines prepared_ending old new (job_in k.script.now k.seed k.fuel) c.serve_job.result ran.0 ran.1 ran.2 in
    (last.0, command-some old new (map string_bytes c.args.words.now) (Seq k.script.now k.seed k.fuel) last.0 (ap (λ x. Some (command_seen x)) (sym k.is) ∙ c.in-Some.ensures) last.1, last.2)

pub returns-in-Predict : goal.returns-in-Predict
returns-in-Predict g c =
    let k = c.in-Predict in
    let old = g.F.Files.outside c.args.files.now in
    let new = g.F.Files.outside c.serve_job-in-Predict.new.files in
    let ran = c.serve_job-in-Predict.ensures in
    let last = work-ran Predicted prepared_ending old new (job_in k.script.now k.seed k.fuel) c.serve_job-in-Predict.result ran.0 ran.1 ran.2 in
    (last.0, command-some old new (map string_bytes c.args.words.now) (Predict k.script.now k.seed k.fuel) last.0 (ap (λ x. Some (command_seen x)) (sym k.is) ∙ c.in-Some.ensures) last.1, last.2)

pub returns-in-Show : goal.returns-in-Show
returns-in-Show g c =
    let k = c.in-Show in
    let shown = c.shown.ensures in
    (shown.0, command-some (g.F.Files.outside c.args.files.now) (g.F.Files.outside c.shown.new.files) (map string_bytes c.args.words.now) (Show k.file.now) shown.0 (ap (λ x. Some (command_seen x)) (sym k.is) ∙ c.in-Some.ensures) shown.1, shown.2)

pub serve_job-requires-in-Gen : goal.serve_job-requires-in-Gen
serve_job-requires-in-Gen g c =
    let k = c.in-Gen in
    let range = subst (λ o. IfSome o IsInRange) (sym (ap (λ x. Some (command_seen x)) (sym k.is) ∙ c.in-Some.ensures)) (c.law_in_range.ensures (map string_bytes c.args.words.now)) in
    (range.0, range.1)

pub returns-in-Gen : goal.returns-in-Gen
returns-in-Gen g c =
    let k = c.in-Gen in
    let old = g.F.Files.outside c.args.files.now in
    let new = g.F.Files.outside c.serve_job-in-Gen.new.files in
    let ran = c.serve_job-in-Gen.ensures in
    let last = work-ran (Generated k.number) prepared_ending old new (job_built k.number k.seed k.fuel) c.serve_job-in-Gen.result ran.0 ran.1 ran.2 in
    (last.0, command-some old new (map string_bytes c.args.words.now) (Gen k.number k.seed k.fuel) last.0 (ap (λ x. Some (command_seen x)) (sym k.is) ∙ c.in-Some.ensures) last.1, last.2)
