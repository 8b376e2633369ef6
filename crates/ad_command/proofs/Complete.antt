-- A command whose words, files and exports are right is done.
use Rattle.std.proofs.Common.{◌≡◌, ℕ, ◌≤◌, List, [], ◌∷◌, ◌++◌, length, map, Ok, refl, sym, ap, subst}
use Rattle.std.specs.Prelude.{Result, flat_map, nat_lt, if◌then◌else◌, Some}
use Rattle.std.proofs.lemmas.Bool.{le-ltb}
use Rattle.std.proofs.lemmas.List.Concat.{flat_map_single}
use Rattle.ad_base.specs.declared.image.Image.{Image}
use Rattle.ad_base.specs.declared.layout.TheConstants.{FILE_BYTES}
use Rattle.ad_base.specs.declared.place.Place.{Place}
use Rattle.ad_generator.specs.Generated.{built_named}
use Rattle.ad_generator.specs.Script.{script_text}
use Rattle.ad_link.specs.Plan.{IsPlan, Planned, fixed_pages}
use Rattle.ad_reloc.specs.Image.{IsImage}
use Rattle.ad_lines.specs.declared.ready.ReadyStep.{ReadyStep}
use Rattle.ad_lines.specs.Ready.{ready_steps}
use Rattle.ad_script.specs.declared.script.Load.{Load}
use Rattle.ad_script.specs.declared.script.Script.{Script}
use Rattle.ad_script.specs.Script.{script_of}
use Rattle.ad_command.specs.declared.trouble.Trouble.{Trouble}
use Rattle.ad_command.specs.declared.trouble.Trouble.TheVariants.{NoExport, TooLarge, Usage}
use Rattle.ad_command.specs.Chain.{Chain, Done, Gives, Judge, ModuleFile, Refuse, ◌>>=◌, each_in_turn, given, judged}
use Rattle.ad_command.specs.Command.{Beside, Generated, Job, Lines, Predicted, Shown, Work, command, job_built, job_from, job_in, job_of, shown_at, shown_in, work_of}
use Rattle.ad_command.specs.Loading.{AreLinked, IsLinked, built_of, file_of, fixed_behind, image_at, loaded_image, loaded_images, module_of, script_built, script_in}
use Rattle.ad_command.specs.Trouble.{refused_module, refused_script}
use Rattle.ad_words.specs.Words.{Command, Gen, Predict, Run, Seq, Show, command_of}
use Rattle.ad_command.proofs.Chains.{gives-behind, gives-last}

module _ (files : List ℕ → List ℕ) where
  file-by : (n : ℕ) (name : List ℕ) → length (files name) ≤ n → Gives files (if nat_lt n (length (files name)) then Refuse (TooLarge name) else Done (files name)) [] (Ok (files name))
  file-by n name short = rw (le-ltb n (length (files name)) short) (refl, refl)

  pub file-gives : (name : List ℕ) → length (files name) ≤ FILE_BYTES → Gives files (file_of name) (name ∷ []) (Ok (files name))
  unfolding file_of
  file-gives name short = ([], refl, file-by FILE_BYTES name short)

  pub script-gives : (name : List ℕ) (s : Script) → length (files name) ≤ FILE_BYTES → script_of (files name) ≡ Ok s → Gives files (script_in name) (name ∷ []) (Ok s)
  unfolding script_in
  script-gives name s short is = gives-behind files (file_of name) (λ text. judged refused_script (script_of text)) (name ∷ []) [] (files name) (Ok s) (file-gives name short) (rw is (refl, refl))

  pub module-gives : (name : List ℕ) (p : Planned) → length (files name) ≤ FILE_BYTES → IsPlan (files name) p → Gives files (module_of name) (name ∷ []) (Ok p)
  unfolding module_of
  module-gives name p short is = gives-behind files (file_of name) (λ file. Judge (ModuleFile file) (judged (refused_module name))) (name ∷ []) [] (files name) (Ok p) (file-gives name short) (Ok p, is, (refl, refl))

  image-there : (name : List ℕ) (p : Planned) (fixed : Place) (i : Image) → IsImage p.object p.layout p.tables fixed i → Gives files (image_at name p fixed) [] (Ok i)
  unfolding image_at
  image-there name p fixed i is = (Ok i, is, (refl, refl))

  show-gives : (name : List ℕ) (p : Planned) (i : Image) → length (files name) ≤ FILE_BYTES → IsPlan (files name) p → IsImage p.object p.layout p.tables (shown_at (fixed_pages p.layout.sizes)) i
      → Gives files (shown_in name) (name ∷ []) (Ok i)
  unfolding shown_in
  show-gives name p i short plan is =
      gives-behind files (module_of name) (λ q. image_at name q (shown_at (fixed_pages q.layout.sizes))) (name ∷ []) [] p (Ok i) (module-gives name p short plan)
      (image-there name p (shown_at (fixed_pages p.layout.sizes)) i is)

  script-built-gives : (number : ℕ) (s : Script) → script_of (script_text number) ≡ Ok s → Gives files (script_built number) [] (Ok s)
  unfolding script_built
  script-built-gives number s is = rw is (refl, refl)

  built-gives : (name : List ℕ) (p : Planned) → IsPlan (built_named name) p → Gives files (built_of name) [] (Ok p)
  unfolding built_of
  built-gives name p is = (Ok p, is, (refl, refl))

  -- The images of loads, where the modules are had so, from files of these bytes, and each load asks for these names.
  module _ (had : List ℕ → Chain Planned) (bytes : List ℕ → List ℕ) (asks : Load → List (List ℕ))
      (gives : (l : Load) (p : Planned) → length (bytes l.file) ≤ FILE_BYTES → IsPlan (bytes l.file) p → Gives files (had l.file) (asks l) (Ok p)) (seed workers : ℕ) where
    image-had : (before : List Image) (l : Load) (i : Image) → IsLinked bytes seed workers before l i → Gives files (loaded_image had seed workers before l) (asks l) (Ok i)
    unfolding loaded_image
    image-had before l i right =
        gives-last files (had l.file) (λ p. image_at l.file p (fixed_behind seed workers before p)) (asks l) right.planned (Ok i) (gives l right.planned right.short right.plan)
        (image-there l.file right.planned (fixed_behind seed workers before right.planned) i right.image)

    images-had : (before : List Image) (loads : List Load) (images : List Image) → AreLinked bytes seed workers before loads images
        → Gives files (each_in_turn (loaded_image had seed workers) before loads) (flat_map asks loads) (Ok images)
    unfolding each_in_turn
    images-had before [] images right = (refl, ap Ok right)
    images-had before (l ∷ ls) images right =
        let f = loaded_image had seed workers in
        gives-behind files (f before l) (λ y. each_in_turn f (before ++ y ∷ []) ls) (asks l) (flat_map asks ls) right.0 (Ok images)
        (image-had before l right.0 right.1) (images-had (before ++ right.0 ∷ []) ls images right.2)

  -- those of files ask for the file of each load, and those that are built for none
  file-name : Load → List (List ℕ)
  file-name l = l.file ∷ []

  no-name : Load → List (List ℕ)
  no-name l = []

  none-asked : (ls : List Load) → flat_map no-name ls ≡ []
  unfolding no-name
  none-asked [] = refl
  none-asked (l ∷ ls) = none-asked ls

  pub image-gives : (seed workers : ℕ) (before : List Image) (l : Load) (i : Image) → IsLinked files seed workers before l i → Gives files (loaded_image module_of seed workers before l) (l.file ∷ []) (Ok i)
  unfolding file-name
  image-gives seed workers before l i right = image-had module_of files file-name (λ x p short plan. module-gives x.file p short plan) seed workers before l i right

  pub images-gives : (seed : ℕ) (s : Script) (images : List Image) → AreLinked files seed s.workers [] s.loads images → Gives files (loaded_images module_of seed s) (map (λ (l : Load). l.file) s.loads) (Ok images)
  unfolding loaded_images file-name
  images-gives seed s images right =
      subst (λ names. Gives files (loaded_images module_of seed s) names (Ok images)) (flat_map_single (λ (l : Load). l.file) s.loads)
      (images-had module_of files file-name (λ x p short plan. module-gives x.file p short plan) seed s.workers [] s.loads images right)

  images-built-give : (seed : ℕ) (s : Script) (images : List Image) → AreLinked built_named seed s.workers [] s.loads images → Gives files (loaded_images built_of seed s) [] (Ok images)
  unfolding loaded_images no-name
  images-built-give seed s images right =
      subst (λ names. Gives files (loaded_images built_of seed s) names (Ok images)) (none-asked s.loads)
      (images-had built_of built_named no-name (λ x p short plan. built-gives x.file p plan) seed s.workers [] s.loads images right)

  module _ (script_had : Chain Script) (had : List ℕ → Chain Planned) (seed fuel : ℕ) (s : Script) (images : List Image) (steps : List ReadyStep) (first more : List (List ℕ)) where
    abbrev done : Job
    done = record { seed = seed; fuel = fuel; script = s; images = images; steps = steps }

    abbrev then_of : List Image → Chain Job
    then_of is = judged NoExport (ready_steps is s.steps) >>= λ ss. Done (record { seed = seed; fuel = fuel; script = s; images = is; steps = ss })

    job-gives : Gives files (loaded_images had seed s) more (Ok images) → ready_steps images s.steps ≡ Ok steps → Gives files (job_of had s seed fuel) more (Ok done)
    unfolding job_of
    job-gives loaded ready =
        let last : Gives files (then_of images) [] (Ok done) = subst (λ r. Gives files (judged NoExport r >>= λ ss. Done (record { seed = seed; fuel = fuel; script = s; images = images; steps = ss })) [] (Ok done)) (sym ready) (refl, refl) in
        gives-last files (loaded_images had seed s) then_of more images (Ok done) loaded last

    from-gives : Gives files script_had first (Ok s) → Gives files (job_of had s seed fuel) more (Ok done) → Gives files (job_from script_had had seed fuel) (first ++ more) (Ok done)
    unfolding job_from
    from-gives script job = gives-behind files script_had (λ x. job_of had x seed fuel) first more s (Ok done) script job

-- words that are a command
pub by-words : (files : List ℕ → List ℕ) (words : List (List ℕ)) (c : Command) (names : List (List ℕ)) (r : Result Work Trouble) → command_of words ≡ Some c → Gives files (work_of c) names r → Gives files (command words) names r
unfolding command
by-words files words c names r is gives = subst (λ x. Gives files (given Usage x >>= work_of) names r) (sym is) gives

module _ (files : List ℕ → List ℕ) (words : List (List ℕ)) (operand : List ℕ) (seed fuel : ℕ) (s : Script) (images : List Image) (steps : List ReadyStep)
    (short : length (files operand) ≤ FILE_BYTES) (script : script_of (files operand) ≡ Ok s)
    (right : AreLinked files seed s.workers [] s.loads images) (ready : ready_steps images s.steps ≡ Ok steps) where
  abbrev names : List (List ℕ)
  names = map (λ (l : Load). l.file) s.loads

  abbrev right_job : Job
  right_job = record { seed = seed; fuel = fuel; script = s; images = images; steps = steps }

  right-job-gives : Gives files (job_in operand seed fuel) (operand ∷ names) (Ok right_job)
  right-job-gives =
      let loaded : Gives files (loaded_images module_of seed s) names (Ok images) = images-gives files seed s images right in
      let asked = operand ∷ [] in
      from-gives files (script_in operand) module_of seed fuel s images steps asked names (script-gives files operand s short script)
      (job-gives files (script_in operand) module_of seed fuel s images steps asked names loaded ready)

  -- the work on the job of these words
  right-work-gives : (work_on : Job → Work) → Gives files (job_in operand seed fuel >>= λ j. Done (work_on j)) (operand ∷ names) (Ok (work_on right_job))
  right-work-gives work_on = gives-last files (job_in operand seed fuel) (λ j. Done (work_on j)) (operand ∷ names) right_job (Ok (work_on right_job)) right-job-gives (refl, refl)

  pub right-run-is-done : (slots frames : ℕ) → command_of words ≡ Some (Run operand seed fuel slots frames) → Gives files (command words) (operand ∷ names) (Ok (Beside slots frames right_job))
  right-run-is-done slots frames is = by-words files words (Run operand seed fuel slots frames) (operand ∷ names) (Ok (Beside slots frames right_job)) is (right-work-gives (Beside slots frames))

  pub right-seq-is-done : command_of words ≡ Some (Seq operand seed fuel) → Gives files (command words) (operand ∷ names) (Ok (Lines right_job))
  right-seq-is-done is = by-words files words (Seq operand seed fuel) (operand ∷ names) (Ok (Lines right_job)) is (right-work-gives Lines)

  pub right-predict-is-done : command_of words ≡ Some (Predict operand seed fuel) → Gives files (command words) (operand ∷ names) (Ok (Predicted right_job))
  right-predict-is-done is = by-words files words (Predict operand seed fuel) (operand ∷ names) (Ok (Predicted right_job)) is (right-work-gives Predicted)

-- the job of the script that is built
pub right-gen-is-done : (files : List ℕ → List ℕ) (words : List (List ℕ)) (number seed fuel : ℕ) (s : Script) (images : List Image) (steps : List ReadyStep)
    → script_of (script_text number) ≡ Ok s → AreLinked built_named seed s.workers [] s.loads images → ready_steps images s.steps ≡ Ok steps
    → command_of words ≡ Some (Gen number seed fuel) → Gives files (command words) [] (Ok (Generated number (record { seed = seed; fuel = fuel; script = s; images = images; steps = steps })))
right-gen-is-done files words number seed fuel s images steps script right ready said =
    let job : Job = record { seed = seed; fuel = fuel; script = s; images = images; steps = steps } in
    let loaded : Gives files (loaded_images built_of seed s) [] (Ok images) = images-built-give files seed s images right in
    let gives : Gives files (job_built number seed fuel) [] (Ok job) =
    from-gives files (script_built number) built_of seed fuel s images steps [] [] (script-built-gives files number s script)
    (job-gives files (script_built number) built_of seed fuel s images steps [] [] loaded ready) in
    by-words files words (Gen number seed fuel) [] (Ok (Generated number job)) said (gives-last files (job_built number seed fuel) (λ j. Done (Generated number j)) [] job (Ok (Generated number job)) gives (refl, refl))

pub right-show-is-done : (files : List ℕ → List ℕ) (words : List (List ℕ)) (operand : List ℕ) (p : Planned) (i : Image) → length (files operand) ≤ FILE_BYTES
    → IsPlan (files operand) p → IsImage p.object p.layout p.tables (shown_at (fixed_pages p.layout.sizes)) i
    → command_of words ≡ Some (Show operand) → Gives files (command words) (operand ∷ []) (Ok (Shown i))
right-show-is-done files words operand p i short plan is said =
    by-words files words (Show operand) (operand ∷ []) (Ok (Shown i)) said
    (gives-last files (shown_in operand) (λ x. Done (Shown x)) (operand ∷ []) i (Ok (Shown i)) (show-gives files operand p i short plan is) (refl, refl))
