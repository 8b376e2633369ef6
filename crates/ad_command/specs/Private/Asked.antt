-- Where the code has a script and its modules from, and what it does with the job of them.
use Rattle.std.specs.Prelude.{◌≡◌, ◌⊎◌, ◌≤◌, ℕ, List, map, Option, None, Some, Result, Ok, Err, MatchResult}
use Rattle.ad_base.specs.Book.{Contents, contents_of}
use Rattle.ad_base.specs.declared.image.Image.{Image}
use Rattle.ad_base.specs.declared.ledger.Moved.{Moved}
use Rattle.ad_base.specs.declared.ledger.Row.{Row}
use Rattle.ad_link.specs.Plan.{Planned}
use Rattle.ad_lines.specs.declared.ready.ReadyStep.{ReadyStep}
use Rattle.ad_lines.specs.Ready.{ready_steps}
use Rattle.ad_maps.specs.declared.words.TheConstants.{MODULE_FRAMES, SLOTS}
use Rattle.ad_report.specs.Report.{report}
use Rattle.ad_report.specs.Summary.{summary}
use Rattle.ad_run.specs.declared.open.Sizes.{Sizes}
use Rattle.ad_script.specs.declared.script.Script.{Script}
use Rattle.ad_words.specs.declared.command.TheConstants.{MOST_GENERATED}
use Rattle.ad_command.specs.declared.load.Origin.{Origin}
use Rattle.ad_command.specs.declared.load.Origin.TheVariants as origin
use Rattle.ad_command.specs.declared.load.Source.{Source}
use Rattle.ad_command.specs.declared.load.Source.TheVariants as source
use Rattle.ad_command.specs.declared.serve.Prepared.{Prepared}
use Rattle.ad_command.specs.declared.serve.Purpose.{Purpose}
use Rattle.ad_command.specs.declared.serve.Purpose.TheVariants.{Predict, Run, Sum}
use Rattle.ad_command.specs.declared.trouble.Trouble.{Trouble}
use Rattle.ad_command.specs.declared.trouble.Trouble.TheVariants.{Memory, NoExport}
use Rattle.ad_command.specs.Chain.{Chain}
use Rattle.ad_command.specs.Command.{Generated, Job, Lines, Predicted, Work}
use Rattle.ad_command.specs.Ending.{Ending, IsDone}
use Rattle.ad_command.specs.Loading.{built_of, module_of, script_built, script_in}

-- a script is built of so many calls and moves
abbrev pub IsThere : Origin → Type 0
IsThere (origin.File name) = Unit {0}
IsThere (origin.Built number) = (1 ≤ number) × (number ≤ MOST_GENERATED)

-- how a script of an origin is had, where the modules of such a script are, and how they are had from there
abbrev pub script_from : Origin → Chain Script
script_from (origin.File name) = script_in name.now
script_from (origin.Built number) = script_built number

abbrev pub source_of : Origin → Source
source_of (origin.File name) = source.Files
source_of (origin.Built number) = source.Built

abbrev pub module_from : Source → List ℕ → Chain Planned
module_from source.Files = module_of
module_from source.Built = built_of

-- the work on a job: its run, summed up for a number of lines, if there is one, or its prediction
abbrev pub work_run : Option ℕ → Job → Work
work_run None j = Lines j
work_run (Some number) j = Generated number j

abbrev pub work_on : Purpose → Job → Work
work_on Run j = Lines j
work_on Predict j = Predicted j
work_on (Sum number) j = Generated number j

-- the text of a run: its report, or its line where it is summed up for a number
abbrev pub run_text : Option ℕ → Script → List Contents → List Moved → List Row → List ℕ
run_text None script books moves rows = report script books moves rows
run_text (Some number) script books moves rows = summary number books moves rows

-- what was prepared, as what work comes to
abbrev pub prepared_ending : Prepared → Ending
prepared_ending p = record { books = map contents_of p.books.items; moves = p.moves.items; rows = p.ledger.items; closed = p.closed; text = p.text.items }

-- A chain came to this end, and what it is done with was made so; or it wasn't done, and for the same reason nothing was made.
abbrev pub IsMade : {A : Type 0} → (A → Ending → Type 0) → Result A Trouble → Result Prepared Trouble → Type 0
IsMade {A} Does end made = MatchResult made (λ p. (a : A) × (end ≡ Ok a) × Does a (prepared_ending p)) (λ t. end ≡ Err t)

-- the steps of a script are ready on these images, and the work on the job of them was made so
abbrev pub IsJobMade : (Job → Work) → ℕ → ℕ → Script → List Image → Prepared → Type 0
IsJobMade work seed fuel script images p = (steps : List ReadyStep) × (ready_steps images script.steps ≡ Ok steps)
    × IsDone (work (record { seed = seed; fuel = fuel; script = script; images = images; steps = steps })) (prepared_ending p)

-- a call of a script finds no export in these images, which is told with its line, or there was no memory
abbrev pub IsUnready : Script → List Image → Trouble → Type 0
IsUnready script images t = ((line : ℕ) × (ready_steps images script.steps ≡ Err line) × (t ≡ NoExport line)) ⊎ (t ≡ Memory)

-- a mapping table of a run may have so many slots, and so many frames for each module
pub record AreSizes (sizes : Sizes) : Type 0 where
  pub some_slot : 1 ≤ sizes.slots
  pub few_slots : sizes.slots ≤ SLOTS
  pub some_frames : 2 ≤ sizes.frames
  pub few_frames : sizes.frames ≤ MODULE_FRAMES
