use Rattle.std.proofs.Common.{◌≡◌, map, string_bytes, true, false, IfSome, Some, Err, refl, ap, subst, sym, ◌∙◌, ⊎_elim}
use Rattle.ad_words.specs.declared.command.Command.{Command}
use Rattle.ad_words.specs.Laws.{IsInRange}
use Rattle.ad_words.specs.Private.Seen.{command_seen}
use Rattle.ad_words.specs.Words.{Run}
use Rattle.ad_words.proofs.FirstWord.{is_run}
use Rattle.ad_command.specs.declared.trouble.Trouble.TheVariants.{Usage}
use Rattle.ad_command.specs.Command.{Beside, job_in}
use Rattle.ad_command.specs.Private.Asked.{prepared_ending}
use Rattle.ad_command.proofs.Commands.{command-none, command-some, work-ran}
use Rattle.ad_command.proofs.Tables.{run-by-word}
use Rattle.ad_command.proofs.beside.prepare_beside.Goals as goal

pub returns-in_default : goal.returns-in_default
returns-in_default g c = (Err Usage, command-none (g.F.Files.outside c.args.files.now) (map string_bytes c.args.words.now) (sym c.in_default.ensures), refl)

pub unreachable-requires : goal.unreachable-requires
unreachable-requires g c =
    let command = c.in-Some.command in
    let first : is_run (command_seen command) ≡ true = run-by-word (map string_bytes c.args.words.now) (command_seen command) c.in-Some.ensures ∙ c.requires in
    let other : (x : Command) → command ≡ x → is_run (command_seen x) ≡ false → ⊥ = λ x is no. absurd (let e = sym first ∙ ap (λ y. is_run (command_seen y)) is ∙ no in cc) in
    ⊎_elim (λ s. other _ s.3 refl) (⊎_elim (λ p. other _ p.3 refl) (⊎_elim (λ s. other _ s.1 refl) (λ made. other _ made.3 refl))) c.in-Seq.is

pub serve_beside-requires-clause-sizes : goal.serve_beside-requires-clause-sizes
serve_beside-requires-clause-sizes g c κs within =
    let k = c.in-Run in
    let range = subst (λ o. IfSome o IsInRange) (sym (ap (λ x. Some (command_seen x)) (sym k.is) ∙ c.in-Some.ensures)) (c.law_in_range.ensures (map string_bytes c.args.words.now)) in
    record { some_slot = range.3; few_slots = range.4; some_frames = range.5; few_frames = range.6 }

pub returns : goal.returns
returns g c =
    let k = c.in-Run in
    let old = g.F.Files.outside c.args.files.now in
    let new = g.F.Files.outside c.serve_beside.new.files in
    let ran = c.serve_beside.ensures in
    let last = work-ran (Beside k.slots k.frames) prepared_ending old new (job_in k.script.now k.seed k.fuel) c.serve_beside.result ran.0 ran.1 ran.2 in
    (last.0, command-some old new (map string_bytes c.args.words.now) (Run k.script.now k.seed k.fuel k.slots k.frames) last.0 (ap (λ x. Some (command_seen x)) (sym k.is) ∙ c.in-Some.ensures) last.1, last.2)
