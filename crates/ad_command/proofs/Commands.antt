-- Serving the chain of a command, from what its steps came to.
use Rattle.std.proofs.Common.{◌≡◌, ◌⊎◌, ℕ, List, None, Some, Result, Ok, Err, IfOk, IfErr, MatchResult, inl, inr, refl, sym, subst}
use Rattle.ad_base.specs.Outside.{Outside}
use Rattle.ad_base.specs.declared.image.Image.{Image}
use Rattle.ad_link.specs.Plan.{Planned}
use Rattle.ad_lines.specs.declared.ready.ReadyStep.{ReadyStep}
use Rattle.ad_lines.specs.Ready.{ready_steps}
use Rattle.ad_script.specs.declared.script.Script.{Script}
use Rattle.ad_command.specs.declared.trouble.Trouble.{Trouble}
use Rattle.ad_command.specs.declared.trouble.Trouble.TheVariants.{Memory, NoExport, Usage}
use Rattle.ad_command.specs.Chain.{Chain, Done, Serves, ◌>>=◌, given, judged}
use Rattle.ad_command.specs.Command.{Job, Shown, Work, command, job_from, job_of, shown_in, work_of}
use Rattle.ad_command.specs.Ending.{Ending, IsDone}
use Rattle.ad_command.specs.Loading.{loaded_images}
use Rattle.ad_words.specs.Words.{Command, Show, command_of}
use Rattle.ad_command.proofs.Chains.{serves-behind, serves-done, serves-memory, serves-refuse, serves-refused}

module _ (script_had : Chain Script) (had : List ℕ → Chain Planned) (seed fuel : ℕ) where
  -- the job of a script that was had, with its modules
  abbrev pub job : Script → List Image → List ReadyStep → Job
  job script images steps = record { seed = seed; fuel = fuel; script = script; images = images; steps = steps }

  -- what is to come behind the loaded modules
  abbrev pub then_of : Script → List Image → Chain Job
  then_of script images = judged NoExport (ready_steps images script.steps) >>= λ steps. Done (job script images steps)

  -- each call finds its export, or the first that doesn't is told
  serves-ready : (o : Outside) (script : Script) (images : List Image) (steps : List ReadyStep) → ready_steps images script.steps ≡ Ok steps → Serves o o (then_of script images) (Ok (job script images steps))
  serves-ready o script images steps e =
      subst (λ r. Serves o o (judged NoExport r >>= λ ss. Done (job script images ss)) (Ok (job script images steps))) (sym e) (serves-done o (job script images steps))

  serves-missing : (o : Outside) (script : Script) (images : List Image) (line : ℕ) → ready_steps images script.steps ≡ Err line → Serves o o (then_of script images) (Err (NoExport line))
  serves-missing o script images line e =
      subst (λ r. Serves o o (judged NoExport r >>= λ ss. Done (job script images ss)) (Err (NoExport line))) (sym e) (serves-refuse o (NoExport line))

  module _ (old : Outside) where
    -- the script is refused
    pub job-unread : (new : Outside) (t : Trouble) → Serves old new script_had (Err t) → Serves old new (job_from script_had had seed fuel) (Err t)
    unfolding job_from job_of
    job-unread new t first = serves-refused old new script_had (λ script. loaded_images had seed script >>= then_of script) t first

    module _ (mid : Outside) (script : Script) (first : Serves old mid script_had (Ok script)) where
      -- a module is refused
      pub job-unloaded : (new : Outside) (t : Trouble) → Serves mid new (loaded_images had seed script) (Err t) → Serves old new (job_from script_had had seed fuel) (Err t)
      unfolding job_from job_of
      job-unloaded new t second =
          serves-behind old mid new script_had (λ s. loaded_images had seed s >>= then_of s) script (Err t) first
          (serves-refused mid new (loaded_images had seed script) (then_of script) t second)

      -- modules and script are there
      module _ (new : Outside) (images : List Image) (second : Serves mid new (loaded_images had seed script) (Ok images)) where
        job-goes : (r : Result Job Trouble) → Serves new new (then_of script images) r → Serves old new (job_from script_had had seed fuel) r
        unfolding job_from job_of
        job-goes r third =
            serves-behind old mid new script_had (λ s. loaded_images had seed s >>= then_of s) script r first
            (serves-behind mid new new (loaded_images had seed script) (then_of script) images r second third)

        pub job-ready : (steps : List ReadyStep) → ready_steps images script.steps ≡ Ok steps → Serves old new (job_from script_had had seed fuel) (Ok (job script images steps))
        job-ready steps e = job-goes (Ok (job script images steps)) (serves-ready new script images steps e)

        pub job-missing : (t : Trouble) → ((line : ℕ) × (ready_steps images script.steps ≡ Err line) × (t ≡ NoExport line)) ⊎ (t ≡ Memory) → Serves old new (job_from script_had had seed fuel) (Err t)
        job-missing t (inl why) = subst (λ u. Serves old new (job_from script_had had seed fuel) (Err u)) (sym why.2) (job-goes (Err (NoExport why.0)) (serves-missing new script images why.0 why.1))
        job-missing t (inr e) = subst (λ u. Serves old new (job_from script_had had seed fuel) (Err u)) (sym e) (job-goes (Err Memory) (serves-memory new (then_of script images)))

        -- the job that was done, or the reason why none was
        pub job-ran : {P : Type 0} (Does : Job → Ending → Type 0) (outcome : P → Ending) (r : Result P Trouble) (at : ℕ) → at ≡ seed
            → IfOk r (λ p. (steps : List ReadyStep) × (ready_steps images script.steps ≡ Ok steps) × Does (record { seed = at; fuel = fuel; script = script; images = images; steps = steps }) (outcome p))
            → IfErr r (λ t. ((line : ℕ) × (ready_steps images script.steps ≡ Err line) × (t ≡ NoExport line)) ⊎ (t ≡ Memory))
            → (end : Result Job Trouble) × Serves old new (job_from script_had had seed fuel) end × MatchResult r (λ p. (j : Job) × (end ≡ Ok j) × Does j (outcome p)) (λ t. end ≡ Err t)
        job-ran Does outcome (Ok p) at same done fault =
            let j = job script images done.0 in
            let is : Does j (outcome p) = subst (λ n. Does (record { seed = n; fuel = fuel; script = script; images = images; steps = done.0 }) (outcome p)) same done.2 in
            (Ok j, job-ready done.0 done.1, (j, refl, is))
        job-ran Does outcome (Err t) at same done fault = (Err t, job-missing t fault, refl)

-- words that are no command
pub command-none : (o : Outside) (words : List (List ℕ)) → command_of words ≡ None → Serves o o (command words) (Err Usage)
unfolding command
command-none o words e = subst (λ x. Serves o o (given Usage x >>= work_of) (Err Usage)) (sym e) (serves-refuse o Usage)

-- words that are one
pub command-some : (old new : Outside) (words : List (List ℕ)) (c : Command) (r : Result Work Trouble) → Some c ≡ command_of words → Serves old new (work_of c) r → Serves old new (command words) r
unfolding command
command-some old new words c r e s = subst (λ x. Serves old new (given Usage x >>= work_of) r) e s

-- the work on a job was done, or isn't done for the same reason
pub work-ran : {P : Type 0} (work_on : Job → Work) (outcome : P → Ending) (old new : Outside) (job : Chain Job) (r : Result P Trouble) (end : Result Job Trouble)
    → Serves old new job end → MatchResult r (λ p. (j : Job) × (end ≡ Ok j) × IsDone (work_on j) (outcome p)) (λ t. end ≡ Err t)
    → (last : Result Work Trouble) × Serves old new (job >>= λ j. Done (work_on j)) last
    × MatchResult r (λ p. (work : Work) × (last ≡ Ok work) × IsDone work (outcome p)) (λ t. last ≡ Err t)
work-ran work_on outcome old new job (Ok p) end serves is =
    let at : Serves old new job (Ok is.0) = subst (Serves old new job) is.1 serves in
    (Ok (work_on is.0), serves-behind old new new job (λ j. Done (work_on j)) is.0 (Ok (work_on is.0)) at (serves-done new (work_on is.0)), (work_on is.0, refl, is.2))
work-ran work_on outcome old new job (Err t) end serves is =
    let at : Serves old new job (Err t) = subst (Serves old new job) is serves in
    (Err t, serves-refused old new job (λ j. Done (work_on j)) t at, refl)

-- the image of a module was shown, or isn't
module _ (old new : Outside) (file : List ℕ) where
  shows : Image → Chain Work
  shows i = Done (Shown i)

  pub show-unlinked : (t : Trouble) → Serves old new (shown_in file) (Err t) → Serves old new (work_of (Show file)) (Err t)
  unfolding shows
  show-unlinked t first = serves-refused old new (shown_in file) shows t first

  pub show-done : (i : Image) → Serves old new (shown_in file) (Ok i) → Serves old new (work_of (Show file)) (Ok (Shown i))
  unfolding shows
  show-done i first = serves-behind old new new (shown_in file) shows i (Ok (Shown i)) first (serves-done new (Shown i))

  pub show-wanting : (i : Image) → Serves old new (shown_in file) (Ok i) → Serves old new (work_of (Show file)) (Err Memory)
  unfolding shows
  show-wanting i first = serves-behind old new new (shown_in file) shows i (Err Memory) first (serves-memory new (Done (Shown i)))
