-- The first refusal ends the chain of a command.
use Rattle.std.proofs.Common.{◌≡◌, ◌<◌, ◌≤◌, ⊎_elim, ℕ, List, [], ◌∷◌, ◌++◌, length, map, None, Some, Err, inl, inr, refl, sym, ap, subst}
use Rattle.std.specs.Prelude.{nat_lt, if◌then◌else◌}
use Rattle.std.proofs.lemmas.Bool.{lt-ltb}
use Rattle.ad_base.specs.declared.image.Image.{Image}
use Rattle.ad_base.specs.declared.layout.TheConstants.{FILE_BYTES}
use Rattle.ad_base.specs.declared.place.Place.{Place}
use Rattle.ad_link.specs.declared.refusal.LinkRefusal.{LinkRefusal}
use Rattle.ad_link.specs.Plan.{IsPlan, IsRefused, IsRefusedAt, Planned, fixed_pages}
use Rattle.ad_lines.specs.Ready.{ready_steps}
use Rattle.ad_script.specs.declared.refusal.Cause.{Cause}
use Rattle.ad_script.specs.declared.refusal.ScriptRefusal.TheVariants.{At}
use Rattle.ad_script.specs.declared.script.Load.{Load}
use Rattle.ad_script.specs.declared.script.Script.{Script}
use Rattle.ad_script.specs.Script.{script_of}
use Rattle.ad_command.specs.declared.trouble.Trouble.{Trouble}
use Rattle.ad_command.specs.declared.trouble.Trouble.TheVariants as trouble
use Rattle.ad_command.specs.Chain.{Ask, Chain, Done, Gives, Judge, ModuleFile, Refuse, ◌>>=◌, each_in_turn, judged}
use Rattle.ad_command.specs.Command.{Beside, Job, Lines, Predicted, Shown, Work, command, job_from, job_in, job_of, shown_at, shown_in}
use Rattle.ad_command.specs.Loading.{AreLinked, file_of, fixed_behind, image_at, loaded_image, loaded_images, module_of, script_in}
use Rattle.ad_command.specs.Refusals.{AreOnScript, IsRefusedLoad, IsRefusedModule, IsRefusedShown, IsScriptIn}
use Rattle.ad_command.specs.Trouble.{refused_module, refused_script}
use Rattle.ad_words.specs.Words.{Predict, Run, Seq, Show, command_of}
use Rattle.ad_command.proofs.Chains.{gives-behind, gives-last}
use Rattle.ad_command.proofs.Complete.{by-words, file-gives, image-gives, images-gives, module-gives, script-gives}

module _ (files : List ℕ → List ℕ) where
  -- what is behind a refusal isn't come to
  gives-refused : {A B : Type 0} (c : Chain A) (f : A → Chain B) (names : List (List ℕ)) (t : Trouble) → Gives files c names (Err t) → Gives files (c >>= f) names (Err t)
  gives-refused (Done a) f names t gives = absurd (let e = gives.1 in cc)
  gives-refused (Refuse u) f names t gives = let same : t ≡ u = (let e = gives.1 in cc) in (gives.0, ap Err same)
  gives-refused (Ask name next) f names t gives = (gives.0, gives.1, gives-refused (next (files name)) f gives.0 t gives.2)
  gives-refused (Judge q next) f names t gives = (gives.0, gives.1, gives-refused (next gives.0) f names t gives.2)

  -- a file that is too long
  large-by : (n : ℕ) (name : List ℕ) → n < length (files name)
      → Gives files (if nat_lt n (length (files name)) then Refuse (trouble.TooLarge name) else Done (files name)) [] (Err (trouble.TooLarge name))
  large-by n name long = rw (lt-ltb n (length (files name)) long) (refl, refl)

  large-file : (name : List ℕ) → FILE_BYTES < length (files name) → Gives files (file_of name) (name ∷ []) (Err (trouble.TooLarge name))
  unfolding file_of
  large-file name long = ([], refl, large-by FILE_BYTES name long)

  -- the script in a file
  large-script : (name : List ℕ) → FILE_BYTES < length (files name) → Gives files (script_in name) (name ∷ []) (Err (trouble.TooLarge name))
  unfolding script_in
  large-script name long = gives-refused (file_of name) (λ text. judged refused_script (script_of text)) (name ∷ []) (trouble.TooLarge name) (large-file name long)

  script-refused : (name : List ℕ) (line : ℕ) (cause : Cause) → length (files name) ≤ FILE_BYTES → script_of (files name) ≡ Err (At line cause)
      → Gives files (script_in name) (name ∷ []) (Err (trouble.Script line cause))
  unfolding script_in
  script-refused name line cause short is =
      gives-behind files (file_of name) (λ text. judged refused_script (script_of text)) (name ∷ []) [] (files name) (Err (trouble.Script line cause)) (file-gives files name short) (rw is (refl, refl))

  -- the module in a file
  module _ (name : List ℕ) (place_of : Planned → Place) where
    abbrev image_of : Planned → Chain Image
    image_of p = image_at name p (place_of p)

    large-module : FILE_BYTES < length (files name) → Gives files (module_of name >>= image_of) (name ∷ []) (Err (trouble.TooLarge name))
    unfolding module_of
    large-module long =
        let t = trouble.TooLarge name in
        let link : List ℕ → Chain Planned = λ file. Judge (ModuleFile file) (judged (refused_module name)) in
        gives-refused (file_of name >>= link) image_of (name ∷ []) t (gives-refused (file_of name) link (name ∷ []) t (large-file name long))

    module _ (r : LinkRefusal) (short : length (files name) ≤ FILE_BYTES) where
      abbrev fault : Trouble
      fault = refused_module name r

      no-plan : IsRefused (files name) r → Gives files (module_of name >>= image_of) (name ∷ []) (Err fault)
      unfolding module_of
      no-plan refused =
          let link : List ℕ → Chain Planned = λ file. Judge (ModuleFile file) (judged (refused_module name)) in
          gives-refused (file_of name >>= link) image_of (name ∷ []) fault
          (gives-behind files (file_of name) link (name ∷ []) [] (files name) (Err fault) (file-gives files name short) (Err r, refused, (refl, refl)))

      no-image : (p : Planned) → IsPlan (files name) p → IsRefusedAt (place_of p) p r → Gives files (module_of name >>= image_of) (name ∷ []) (Err fault)
      unfolding image_at
      no-image p plan refused = gives-behind files (module_of name) image_of (name ∷ []) [] p (Err fault) (module-gives files name p short plan) (Err r, refused, (refl, refl))

    module-refused : (r : LinkRefusal) → IsRefusedModule files name place_of r → Gives files (module_of name >>= image_of) (name ∷ []) (Err (refused_module name r))
    module-refused r is = ⊎_elim (no-plan r is.short) (λ planned. no-image r is.short planned.0 planned.1 planned.2) is.refused

  -- the modules of a script: those before the first that is refused are linked
  module _ (seed workers : ℕ) (l : Load) where
    large-load : (before : List Image) → FILE_BYTES < length (files l.file) → Gives files (loaded_image module_of seed workers before l) (l.file ∷ []) (Err (trouble.TooLarge l.file))
    unfolding loaded_image
    large-load before long = large-module l.file (fixed_behind seed workers before) long

    load-refused : (before : List Image) (r : LinkRefusal) → IsRefusedLoad files seed workers before l r → Gives files (loaded_image module_of seed workers before l) (l.file ∷ []) (Err (refused_module l.file r))
    unfolding loaded_image
    load-refused before r is = module-refused l.file (fixed_behind seed workers before) r is

    loads-refused : (t : Trouble) (before images : List Image) (linked more : List Load) → AreLinked files seed workers before linked images
        → Gives files (loaded_image module_of seed workers images l) (l.file ∷ []) (Err t)
        → Gives files (each_in_turn (loaded_image module_of seed workers) before (linked ++ l ∷ more)) (map (λ (x : Load). x.file) linked ++ l.file ∷ []) (Err t)
    unfolding each_in_turn
    loads-refused t before images [] more right gives =
        let f = loaded_image module_of seed workers in
        gives-refused (f before l) (λ y. each_in_turn f (before ++ y ∷ []) more) (l.file ∷ []) t (subst (λ is. Gives files (f is l) (l.file ∷ []) (Err t)) right gives)
    loads-refused t before images (x ∷ xs) more right gives =
        let f = loaded_image module_of seed workers in
        gives-behind files (f before x) (λ y. each_in_turn f (before ++ y ∷ []) (xs ++ l ∷ more)) (x.file ∷ []) (map (λ (y : Load). y.file) xs ++ l.file ∷ []) right.0 (Err t)
        (image-gives files seed workers before x right.0 right.1) (loads-refused t (before ++ right.0 ∷ []) images xs more right.2 gives)

  -- the job of a script
  module _ (name : List ℕ) (seed : ℕ) where
    abbrev job_by : ℕ → Script → Chain Job
    job_by fuel s = job_of module_of s seed fuel

    no-script : (fuel : ℕ) (t : Trouble) → Gives files (script_in name) (name ∷ []) (Err t) → Gives files (job_in name seed fuel) (name ∷ []) (Err t)
    unfolding job_from
    no-script fuel t gives = gives-refused (script_in name) (job_by fuel) (name ∷ []) t gives

    module _ (s : Script) (is : IsScriptIn files name s) where
      no-job : (fuel : ℕ) (more : List (List ℕ)) (t : Trouble) → Gives files (job_by fuel s) more (Err t) → Gives files (job_in name seed fuel) (name ∷ more) (Err t)
      unfolding job_from
      no-job fuel more t gives = gives-behind files (script_in name) (job_by fuel) (name ∷ []) more s (Err t) (script-gives files name s is.short is.text) gives

      abbrev steps_of : ℕ → List Image → Chain Job
      steps_of fuel images = judged trouble.NoExport (ready_steps images s.steps) >>= λ steps. Done (record { seed = seed; fuel = fuel; script = s; images = images; steps = steps })

      no-load : (fuel : ℕ) (t : Trouble) (linked : List Load) (l : Load) (more : List Load) (images : List Image)
          → s.loads ≡ linked ++ l ∷ more → AreLinked files seed s.workers [] linked images
          → Gives files (loaded_image module_of seed s.workers images l) (l.file ∷ []) (Err t)
          → Gives files (job_in name seed fuel) (name ∷ map (λ (x : Load). x.file) linked ++ l.file ∷ []) (Err t)
      unfolding job_of loaded_images
      no-load fuel t linked l more images loads right gives =
          let names = map (λ (x : Load). x.file) linked ++ l.file ∷ [] in
          let images_of = each_in_turn (loaded_image module_of seed s.workers) [] in
          let refused = subst (λ ls. Gives files (images_of ls) names (Err t)) (sym loads) (loads-refused seed s.workers l t [] images linked more right gives) in
          no-job fuel names t (gives-refused (images_of s.loads) (steps_of fuel) names t refused)

      no-export : (fuel line : ℕ) (images : List Image) → AreLinked files seed s.workers [] s.loads images → ready_steps images s.steps ≡ Err line
          → Gives files (job_in name seed fuel) (name ∷ map (λ (x : Load). x.file) s.loads) (Err (trouble.NoExport line))
      unfolding job_of
      no-export fuel line images right unready =
          let t = trouble.NoExport line in
          let names = map (λ (x : Load). x.file) s.loads in
          let last : Gives files (steps_of fuel images) [] (Err t) = rw unready (refl, refl) in
          no-job fuel names t (gives-last files (loaded_images module_of seed s) (steps_of fuel) names images (Err t) (images-gives files seed s images right) last)

  -- words of no command
  pub no-command : (words : List (List ℕ)) → command_of words ≡ None → Gives files (command words) [] (Err trouble.Usage)
  unfolding command
  no-command words is = rw is (refl, refl)

  -- words of a command on a script
  module _ (words : List (List ℕ)) (name : List ℕ) (seed : ℕ) (on : AreOnScript words name seed) where
    no-work : (names : List (List ℕ)) (t : Trouble) → ((fuel : ℕ) → Gives files (job_in name seed fuel) names (Err t)) → Gives files (command words) names (Err t)
    no-work names t gives =
        let refused : (fuel : ℕ) (work_on : Job → Work) → Gives files (job_in name seed fuel >>= λ j. Done (work_on j)) names (Err t) =
        λ fuel work_on. gives-refused (job_in name seed fuel) (λ j. Done (work_on j)) names t (gives fuel) in
        elim on [
          | inl run ↦ by-words files words (Run name seed run.0 run.1 run.2) names (Err t) run.3 (refused run.0 (Beside run.1 run.2))
          | inr (inl seq) ↦ by-words files words (Seq name seed seq.0) names (Err t) seq.1 (refused seq.0 Lines)
          | inr (inr predict) ↦ by-words files words (Predict name seed predict.0) names (Err t) predict.1 (refused predict.0 Predicted)
        ]

    pub command-large-script : FILE_BYTES < length (files name) → Gives files (command words) (name ∷ []) (Err (trouble.TooLarge name))
    command-large-script long = let t = trouble.TooLarge name in no-work (name ∷ []) t (λ fuel. no-script name seed fuel t (large-script name long))

    pub command-script : (line : ℕ) (cause : Cause) → length (files name) ≤ FILE_BYTES → script_of (files name) ≡ Err (At line cause)
        → Gives files (command words) (name ∷ []) (Err (trouble.Script line cause))
    command-script line cause short is = let t = trouble.Script line cause in no-work (name ∷ []) t (λ fuel. no-script name seed fuel t (script-refused name line cause short is))

    module _ (s : Script) (is : IsScriptIn files name s) where
      module _ (linked : List Load) (l : Load) (more : List Load) (images : List Image) (loads : s.loads ≡ linked ++ l ∷ more) (right : AreLinked files seed s.workers [] linked images) where
        abbrev names_to : List (List ℕ)
        names_to = name ∷ map (λ (x : Load). x.file) linked ++ l.file ∷ []

        pub command-large-module : FILE_BYTES < length (files l.file) → Gives files (command words) names_to (Err (trouble.TooLarge l.file))
        command-large-module long =
            let t = trouble.TooLarge l.file in
            no-work names_to t (λ fuel. no-load name seed s is fuel t linked l more images loads right (large-load seed s.workers l images long))

        pub command-module : (r : LinkRefusal) → IsRefusedLoad files seed s.workers images l r → Gives files (command words) names_to (Err (refused_module l.file r))
        command-module r refused =
            let t = refused_module l.file r in
            no-work names_to t (λ fuel. no-load name seed s is fuel t linked l more images loads right (load-refused seed s.workers l images r refused))

      pub command-export : (images : List Image) (line : ℕ) → AreLinked files seed s.workers [] s.loads images → ready_steps images s.steps ≡ Err line
          → Gives files (command words) (name ∷ map (λ (x : Load). x.file) s.loads) (Err (trouble.NoExport line))
      command-export images line right unready =
          no-work (name ∷ map (λ (x : Load). x.file) s.loads) (trouble.NoExport line) (λ fuel. no-export name seed s is fuel line images right unready)

  -- words of `show`
  module _ (words : List (List ℕ)) (name : List ℕ) (said : command_of words ≡ Some (Show name)) where
    abbrev place_shown : Planned → Place
    place_shown p = shown_at (fixed_pages p.layout.sizes)

    not-shown : (t : Trouble) → Gives files (module_of name >>= image_of name place_shown) (name ∷ []) (Err t) → Gives files (command words) (name ∷ []) (Err t)
    unfolding shown_in
    not-shown t gives =
        by-words files words (Show name) (name ∷ []) (Err t) said
        (gives-refused (module_of name >>= image_of name place_shown) (λ i. Done (Shown i)) (name ∷ []) t gives)

    pub command-large-shown : FILE_BYTES < length (files name) → Gives files (command words) (name ∷ []) (Err (trouble.TooLarge name))
    command-large-shown long = not-shown (trouble.TooLarge name) (large-module name place_shown long)

    pub command-shown : (r : LinkRefusal) → IsRefusedShown files name r → Gives files (command words) (name ∷ []) (Err (refused_module name r))
    command-shown r is = not-shown (refused_module name r) (module-refused name place_shown r is)
