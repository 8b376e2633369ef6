-- The chain of a command.
use Rattle.std.specs.Prelude.{ℕ, Bool, false, List, [], ◌∷◌, bytes_eq, codes}
use Rattle.ad_base.specs.declared.image.Image.{Image}
use Rattle.ad_base.specs.declared.layout.TheConstants.{MODULE_REGION}
use Rattle.ad_base.specs.declared.place.Place.{Place}
use Rattle.ad_link.specs.Plan.{Planned, fixed_pages}
use Rattle.ad_lines.specs.declared.ready.ReadyStep.{ReadyStep}
use Rattle.ad_lines.specs.Ready.{ready_steps}
use Rattle.ad_script.specs.declared.script.Script.{Script}
use Rattle.ad_command.specs.declared.trouble.Trouble.TheVariants.{NoExport, Usage}
use Rattle.ad_command.specs.Chain.{Chain, Done, ◌>>=◌, given, judged}
use Rattle.ad_command.specs.Loading.{built_of, image_at, loaded_images, module_of, script_built, script_in}
use Rattle.ad_words.specs.Words.{Command, Gen, Predict, Run, Seq, Show, command_of}

-- a run that may begin: the seed of its places, the steps that a call may make, the script, the images of its modules,
-- and its steps
pub record Job : Type 0 where
  pub seed : ℕ
  pub fuel : ℕ
  pub script : Script
  pub images : List Image
  pub steps : List ReadyStep

-- What is done once all files of a command were read:
--     Lines job                     the job's lines are run one after another, and the run is reported
--     Beside slots frames job       the job's calls may be made in threads beside its moves, over a mapping table of so many slots and of so
--                                   many frames for each module, and the run is reported
--     Predicted job                 what the symbolic machine says of the job's calls is told
--     Shown image                   the image of a module is listed
--     Generated number job          the job's lines are run, and the run is summed up as that of so many generated lines
pub data Work : Type 0 where
  Lines : Job → Work
  Beside : ℕ → ℕ → Job → Work
  Predicted : Job → Work
  Shown : Image → Work
  Generated : ℕ → Job → Work

-- the job of a script, where the module in the file of a name is had so: its modules are loaded, and each call finds its
-- export
unfoldable pub job_of : (List ℕ → Chain Planned) → Script → ℕ → ℕ → Chain Job
job_of module_of script seed fuel = do
  images ← loaded_images module_of seed script
  steps ← judged NoExport (ready_steps images script.steps)
  Done (record { seed = seed; fuel = fuel; script = script; images = images; steps = steps })

-- the job of a script that is had so
unfoldable pub job_from : Chain Script → (List ℕ → Chain Planned) → ℕ → ℕ → Chain Job
job_from script_had module_of seed fuel = do
  script ← script_had
  job_of module_of script seed fuel

-- the job of the script in a file, whose modules are in files
abbrev pub job_in : List ℕ → ℕ → ℕ → Chain Job
job_in name seed fuel = job_from (script_in name) module_of seed fuel

-- the job of the script of so many calls and moves, whose modules are built
abbrev pub job_built : ℕ → ℕ → ℕ → Chain Job
job_built number seed fuel = job_from (script_built number) built_of seed fuel

-- where an immovable part of so many pages lies while its module is shown: at the start of the first region for modules
abbrev pub shown_at : ℕ → Place
shown_at pages = record { region = MODULE_REGION; start = 1; pages = pages; mapping = 1; frame = 0 }

-- the image of the module in a file that is shown
unfoldable pub shown_in : List ℕ → Chain Image
shown_in name = do
  p ← module_of name
  image_at name p (shown_at (fixed_pages p.layout.sizes))

-- the work of a command
abbrev pub work_of : Command → Chain Work
work_of (Run script seed fuel slots frames) = job_in script seed fuel >>= λ j. Done (Beside slots frames j)
work_of (Seq script seed fuel) = job_in script seed fuel >>= λ j. Done (Lines j)
work_of (Predict script seed fuel) = job_in script seed fuel >>= λ j. Done (Predicted j)
work_of (Show file) = shown_in file >>= λ i. Done (Shown i)
work_of (Gen number seed fuel) = job_built number seed fuel >>= λ j. Done (Generated number j)

-- the whole chain
unfoldable pub command : List (List ℕ) → Chain Work
command words = do
  c ← given Usage (command_of words)
  work_of c

-- the first word is `run`
abbrev pub begins_with_run : List (List ℕ) → Bool
begins_with_run [] = false
begins_with_run (word ∷ words) = bytes_eq word (codes "run")
