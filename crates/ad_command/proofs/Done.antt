-- What a run of a script leaves, from the laws of line runs.
use Rattle.std.proofs.Common.{◌≡◌, ℕ, zero, suc, ◌<◌, Bool, true, false, cond, List, [], ◌∷◌, ◌++◌, Option, None, Some, Ok, length, map, filter, get_or, slice_get, refl, sym, ap, subst, ◌∙◌, arith}
use Rattle.std.specs.List.{All, AllZip}
use Rattle.std.proofs.lemmas.List.{get_or-map, length-map}
use Rattle.std.proofs.lemmas.List.Elements.{All-head, All-same, All-tail}
use Rattle.std.proofs.lemmas.Simd.{map-map}
use Rattle.ad_base.specs.declared.image.Image.{Image}
use Rattle.ad_base.specs.declared.ledger.Moved.{Moved}
use Rattle.ad_base.specs.declared.ledger.Row.{Row}
use Rattle.ad_base.specs.Book.{Contents}
use Rattle.ad_base.specs.Ledger.{IsLedger, IsUnmappedOnce, made_mappings}
use Rattle.ad_core.specs.Turn.{IsLawful}
use Rattle.ad_lines.specs.declared.ready.ReadyStep.{ReadyStep}
use Rattle.ad_lines.specs.LineLaws.{AreSteps, MoveRequest, calls_of_module, move_request, run_of_seed, step_of}
use Rattle.ad_lines.specs.LineRun.{ModuleState, RunState}
use Rattle.ad_lines.specs.Opening.{AreLoaded}
use Rattle.ad_lines.specs.Ready.{ready_steps}
use Rattle.ad_lines.specs.Sound.{Outcome, chosen_places, is_by, unframed}
use Rattle.ad_lines.proofs.Drawing.{moves-made, moves-rise, places-are}
use Rattle.ad_lines.proofs.RunLaws.{books-lawful, calls-made, clear-replies, images-stay, rows-are-ledger, unmapped-once}
use Rattle.ad_lines.proofs.Stale.{sound-run}
use Rattle.ad_maps.specs.Rows.{ClosedSeen}
use Rattle.ad_relate.specs.ClearHistory.{RepliesAsReplayed}
use Rattle.ad_report.specs.Report.{AreMovesInOrder}
use Rattle.ad_run.specs.Beside.{IsRunBeside}
use Rattle.ad_script.specs.declared.script.Step.{Step}
use Rattle.ad_script.specs.Range.{IsInRange}
use Rattle.ad_command.specs.Command.{Job}
use Rattle.ad_command.specs.Ending.{CanRun, Ending, IsDone, IsLineRun, IsSound, lines_of, opening_of_job, run_of_job}
use Rattle.ad_command.specs.Private.Asked.{run_text, work_run}
use Rattle.ad_command.proofs.Jobs.{are-steps}

-- what holds of each module's image and book holds of the images and the books, side by side
zipped : (P : Image → Contents → Type 0) (ms : List ModuleState) (images : List Image) (books : List Contents)
    → map (λ (m : ModuleState). m.image) ms ≡ images → books ≡ map (λ (m : ModuleState). m.book) ms
    → All (λ (m : ModuleState). P m.image m.book) ms → AllZip P images books
zipped P [] [] [] same books h = tt
zipped P [] [] (b ∷ bs) same books h = absurd cc
zipped P [] (i ∷ is) books same eq h = absurd cc
zipped P (m ∷ ms) [] books same eq h = absurd cc
zipped P (m ∷ ms) (i ∷ is) [] same eq h = absurd cc
zipped P (m ∷ ms) (i ∷ is) (b ∷ bs) same eq h =
    let image : m.image ≡ i = cc in
    let book : m.book ≡ b = cc in
    let others : map (λ (x : ModuleState). x.image) ms ≡ is = cc in
    let rest : bs ≡ map (λ (x : ModuleState). x.book) ms = cc in
    let Q : ModuleState → Type 0 = λ x. P x.image x.book in
    let here : P m.image m.book = All-head Q m ms h in
    (subst (P i) book (subst (λ x. P x m.book) image here), zipped P ms is bs others rest (All-tail Q m ms h))

-- the book of a number is that of a module
book-there : (ms : List ModuleState) (number : ℕ) (b : Contents) → slice_get (map (λ (m : ModuleState). m.book) ms) number ≡ Some b → (m : ModuleState) × (slice_get ms number ≡ Some m) × (m.book ≡ b)
book-there [] number b e = absurd cc
book-there (m ∷ ms) zero b e = let same : m.book ≡ b = cc in (m, refl, same)
book-there (m ∷ ms) (suc number) b e = book-there ms number b e

-- the calls of one worker, seen through a view that tells the worker
of-worker : {A B : Type 0} (view : A → B) (w : B → Bool) (xs : List A) → map view (filter (λ x. w (view x)) xs) ≡ filter w (map view xs)
of-worker view w [] = refl
of-worker view w (x ∷ xs) =
    let later = of-worker view w xs in
    elim (w (view x)) as (λ b. map view (cond b (x ∷ filter (λ y. w (view y)) xs) (filter (λ y. w (view y)) xs)) ≡ cond b (view x ∷ filter w (map view xs)) (filter w (map view xs))) [
      | true ↦ ap (λ ys. view x ∷ ys) later
      | false ↦ later
    ]

-- what holds of a line run, where the images were loaded and the steps may be run
module _ (j : Job) (o : Ending) (loaded : AreLoaded j.seed j.script.workers j.images) (are : AreSteps j.images j.script.workers j.steps) (run : IsLineRun j o) where
  is-sound : IsSound j o
  is-sound =
      let stay = images-stay j.seed j.script.workers j.fuel j.images j.steps loaded are in
      let ms = (run_of_job j).modules in
      let all = rows-are-ledger j.seed j.script.workers j.fuel j.images j.steps loaded are in
      let first = opening_of_job j in
      record {
        lawful = zipped (λ i b. IsLawful i j.fuel b) ms j.images o.books stay run.ran (books-lawful j.seed j.script.workers j.fuel j.images j.steps loaded are);
        calls = λ number worker b e.
            let m = book-there ms number b (sym (ap (λ bs. slice_get bs number) run.ran) ∙ e) in
            let made = calls-made j.seed j.script.workers j.fuel j.images j.steps loaded are number m.0 m.1 in
            let same : map (step_of number) b.entries ≡ calls_of_module number j.steps = sym (ap (λ (x : Contents). map (step_of number) x.entries) m.2) ∙ made in
            of-worker (step_of number) (is_by worker) b.entries ∙ ap (filter (is_by worker)) same;
        moves_are = ap (map move_request) run.moved ∙ moves-made j.seed j.script.workers j.fuel j.images j.steps loaded are;
        places =
            let rows = ap (map (λ (r : Row). unframed r.place)) run.rows_are in
            rows ∙ sym (map-map unframed (λ (r : Row). r.place) (run_of_job j).placement.rows)
            ∙ ap (map unframed) ((sound-run j.seed j.script.workers j.fuel j.images loaded j.steps are).sound.places ∙ places-are j.seed j.script.workers j.fuel j.images j.steps loaded are ∙ ap (chosen_places (lines_of j)) (sym run.moved));
        clear = zipped (λ i b. RepliesAsReplayed i j.fuel b.entries) ms j.images o.books stay run.ran (clear-replies j.seed j.script.workers j.fuel j.images j.steps loaded are);
        ledger = subst (λ rs. IsLedger (first ++ made_mappings o.moves) rs) (sym run.rows_are) (subst (λ xs. IsLedger (first ++ made_mappings xs) (run_of_job j).placement.rows) (sym run.moved) all);
        unmapped = All-same IsUnmappedOnce o.rows (run_of_job j).placement.rows run.rows_are (unmapped-once j.seed j.script.workers j.fuel j.images j.steps loaded are);
      }

  -- the moves come in order of their lines
  moves-in-order : AreMovesInOrder o.moves
  moves-in-order = subst AreMovesInOrder (sym run.moved) (moves-rise j.seed j.script.workers j.fuel j.images j.steps loaded are)

-- a run that was made, with what its report asks for
pub record IsRun (j : Job) (o : Ending) : Type 0 where
  pub line : IsLineRun j o
  pub sound : IsSound j o
  pub rise : AreMovesInOrder o.moves

-- steps and images as they were handed on are those of the job
pub is-run : (j : Job) {viewed : List Image} {taken : List ReadyStep} (o : Ending)
    → IsInRange j.script → AreLoaded j.seed j.script.workers j.images → length j.script.loads ≡ length j.images
    → viewed ≡ j.images → taken ≡ j.steps → ready_steps viewed j.script.steps ≡ Ok j.steps
    → o.books ≡ map (λ (m : ModuleState). m.book) (run_of_seed j.seed j.script.workers j.images j.fuel taken).modules
    → o.moves ≡ (run_of_seed j.seed j.script.workers j.images j.fuel taken).placement.moves
    → o.rows ≡ (run_of_seed j.seed j.script.workers j.images j.fuel taken).placement.rows
    → o.closed ≡ None
    → IsRun j o
is-run j o range loaded each viewed taken ready ran moved mapped no_table =
    let run : List ReadyStep → RunState = run_of_seed j.seed j.script.workers j.images j.fuel in
    let are = are-steps j.images j.script j.steps range (omega (arith, each)) (ap (λ is. ready_steps is j.script.steps) (sym viewed) ∙ ready) in
    let line : IsLineRun j o = record {
      ran = ran ∙ ap (λ steps. map (λ (m : ModuleState). m.book) (run steps).modules) taken;
      moved = moved ∙ ap (λ steps. (run steps).placement.moves) taken;
      rows_are = mapped ∙ ap (λ steps. (run steps).placement.rows) taken;
      no_table = no_table;
    } in
    record {
      line = line;
      sound = is-sound j o loaded are line;
      rise = moves-in-order j o loaded are line;
    }

-- the run of a job with its text is what is asked of the job
pub run-is-done : (number : Option ℕ) (j : Job) (o : Ending) → CanRun j → IsLineRun j o → IsSound j o
    → o.text ≡ run_text number j.script o.books o.moves o.rows → IsDone (work_run number j) o
run-is-done None j o can line sound text = (can, line, sound, text)
run-is-done (Some number) j o can line sound text = (can, line, sound, text)

-- two lists of moves whose requests are the same are both in order of their lines, or neither is
rising-lines : (xs ys : List Moved) → map move_request xs ≡ map move_request ys → AreMovesInOrder ys → AreMovesInOrder xs
rising-lines xs ys same rise i j d low within =
    let long : length xs ≡ length ys = sym (length-map xs move_request) ∙ ap length same ∙ length-map ys move_request in
    let at : (k : ℕ) → k < length xs → (get_or xs k d).line ≡ (get_or ys k d).line = λ k here. ap (λ (r : MoveRequest). r.line)
    (sym (get_or-map move_request xs k d (move_request d) here) ∙ ap (λ rs. get_or rs k (move_request d)) same ∙ get_or-map move_request ys k d (move_request d) (omega (arith, here, long))) in
    let rises = rise i j d low (omega (arith, within, long)) in
    omega (arith, at i (omega (arith, low, within)), at j within, rises)

-- so are those of a run beside
pub beside-rises : (slots frames : ℕ) (j : Job) (o : Outcome) (closed : ClosedSeen) → CanRun j → IsRunBeside slots frames (lines_of j) j.script.steps o closed → AreMovesInOrder o.moves
beside-rises slots frames j o closed can ran =
    let moves = (run_of_job j).placement.moves in
    let made = moves-made j.seed j.script.workers j.fuel j.images j.steps can.loaded can.steps in
    rising-lines o.moves moves (ran.sound.moves_are ∙ sym made) (moves-rise j.seed j.script.workers j.fuel j.images j.steps can.loaded can.steps)

-- steps and lines as they were handed on are those of the job
pub ran-beside : (slots frames : ℕ) (j : Job) {taken : List ReadyStep} {read : List Step} (o : Outcome) (closed : ClosedSeen) → taken ≡ j.steps → read ≡ j.script.steps
    → IsRunBeside slots frames (record { seed = j.seed; workers = j.script.workers; images = j.images; fuel = j.fuel; steps = taken }) read o closed
    → IsRunBeside slots frames (lines_of j) j.script.steps o closed
ran-beside slots frames j {taken} {read} o closed took said ran =
    let by = λ (steps : List ReadyStep) (lines : List Step). IsRunBeside slots frames (record { seed = j.seed; workers = j.script.workers; images = j.images; fuel = j.fuel; steps = steps }) lines o closed in
    subst (λ lines. by j.steps lines) said (subst (λ steps. by steps read) took ran)

-- the steps of a script that were found ready on these images, as they were handed on, may be run
pub record IsReady (j : Job) : Type 0 where
  pub ready : ready_steps j.images j.script.steps ≡ Ok j.steps
  pub can : CanRun j

pub is-ready : (j : Job) {viewed : List Image} → IsInRange j.script → AreLoaded j.seed j.script.workers j.images → length j.script.loads ≡ length j.images
    → viewed ≡ j.images → ready_steps viewed j.script.steps ≡ Ok j.steps → IsReady j
is-ready j range loaded each viewed found =
    let ready = ap (λ is. ready_steps is j.script.steps) (sym viewed) ∙ found in
    record { ready = ready; can = record { loaded = loaded; steps = are-steps j.images j.script j.steps range (omega (arith, each)) ready } }
