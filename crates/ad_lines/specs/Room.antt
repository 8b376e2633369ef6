-- What is seen of the code's run: what the lines came to, and the room that was taken before the first line.
use Rattle.std.specs.Prelude.{◌≡◌, ℕ, ◌≤◌, Bool, false, ◌==◌, List, length, map, sum_by, slice_get, Some, if◌then◌else◌}
use Rattle.ad_base.specs.declared.image.Image.{Image}
use Rattle.ad_base.specs.Book.{contents_of}
use Rattle.ad_lines.specs.declared.line_run.ModuleRun.{ModuleRun}
use Rattle.ad_lines.specs.declared.ready.ReadyStep.{ReadyStep}
use Rattle.ad_lines.specs.declared.ready.ReadyStep.TheVariants.{Call, Move, Stack}
use Rattle.ad_lines.specs.LineRun.{ModuleState, RunState}

-- a run, the steps that a call may make, and for how many calls of each module and how many moves there is room
pub record Running : Type 0 where
  pub state : RunState
  pub fuel : ℕ
  pub call_room : List ℕ
  pub move_room : ℕ

-- what the lines came to for a module
abbrev pub module_state : ModuleRun → ModuleState
module_state m = record { image = m.image; movable = m.movable; book = contents_of m.book }

-- a step that calls a module
abbrev pub is_call_of : ℕ → ReadyStep → Bool
is_call_of number (Call line worker «module» export args) = «module» == number
is_call_of number (Move line modules) = false
is_call_of number (Stack line worker) = false

-- how many calls of a module a step makes
abbrev pub calls_of : ℕ → ReadyStep → ℕ
calls_of number step = if is_call_of number step then 1 else 0

-- how many things a step moves
abbrev pub moves_of : ReadyStep → ℕ
moves_of (Call line worker «module» export args) = 0
moves_of (Move line modules) = length modules
moves_of (Stack line worker) = 1

-- there is room for these steps
pub record HasRoom (steps : List ReadyStep) (r : Running) : Type 0 where
  pub calls : (m room : ℕ) → slice_get r.call_room m ≡ Some room → sum_by (calls_of m) steps ≤ room
  pub moves : sum_by moves_of steps ≤ r.move_room

-- the images of a run's modules
abbrev pub images_of : RunState → List Image
images_of s = map (λ (m : ModuleState). m.image) s.modules
