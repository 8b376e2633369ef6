-- What is known of a script, whatever its text.
use Rattle.std.specs.Prelude.{◌≡◌, ◌≢◌, ℕ, ◌<◌, ◌≤◌, true, List, length}
use Rattle.std.specs.List.{All, AllPairs}
use Rattle.ad_base.specs.declared.layout.TheConstants.{MODULES, WORKERS}
use Rattle.ad_script.specs.declared.script.Script.{Script}
use Rattle.ad_script.specs.declared.script.Step.{Step}
use Rattle.ad_script.specs.declared.script.Step.TheVariants.{Call, Move, Stack}
use Rattle.ad_script.specs.declared.script.TheConstants.{ARGUMENTS, SCRIPT_LINES}
use Rattle.ad_script.specs.Forms.{is_export_name, is_file_name, is_module_name}
use Rattle.ad_script.specs.Script.{line_of}

-- What a move names, where so many modules were loaded: at least one of them, and none twice.
pub record IsMoveInRange (loads : ℕ) (modules : List ℕ) : Type 0 where
  pub some : 1 ≤ length modules
  pub few : length modules ≤ MODULES
  pub loaded : All (λ m. m < loads) modules
  pub different : AllPairs (λ m n. m ≢ n) modules

-- a call by one of so many workers, of one of so many modules
pub record IsCallInRange (workers loads worker «module» : ℕ) (export args : List ℕ) : Type 0 where
  pub caller : worker < workers
  pub loaded : «module» < loads
  pub named : is_export_name export ≡ true
  pub few : length args ≤ ARGUMENTS

-- a step by or for one of so many workers, on some of so many modules
abbrev pub IsStepInRange : ℕ → ℕ → Step → Type 0
IsStepInRange workers loads (Call line worker «module» export args) = IsCallInRange workers loads worker «module» export args
IsStepInRange workers loads (Move line modules) = IsMoveInRange loads modules
IsStepInRange workers loads (Stack line worker) = worker < workers

-- There are 1 to 64 workers and at most 8 modules, whose names differ. The lines of loads rise, and those of steps rise
-- behind them, from 1 to 20,000. What a step names is there.
pub record IsInRange (s : Script) : Type 0 where
  pub some_worker : 1 ≤ s.workers
  pub few_workers : s.workers ≤ WORKERS
  pub few_loads : length s.loads ≤ MODULES
  pub names : All (λ l. is_module_name l.name ≡ true) s.loads
  pub files : All (λ l. is_file_name l.file ≡ true) s.loads
  pub different_names : AllPairs (λ l m. l.name ≢ m.name) s.loads
  pub load_lines : All (λ l. (1 ≤ l.line) × (l.line ≤ SCRIPT_LINES)) s.loads
  pub loads_rise : AllPairs (λ l m. l.line < m.line) s.loads
  pub steps_behind : All (λ step. All (λ l. l.line < line_of step) s.loads) s.steps
  pub steps_rise : AllPairs (λ step later. line_of step < line_of later) s.steps
  pub step_lines : All (λ step. (1 ≤ line_of step) × (line_of step ≤ SCRIPT_LINES)) s.steps
  pub steps : All (IsStepInRange s.workers (length s.loads)) s.steps
