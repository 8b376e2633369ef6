-- Steps whose names are resolved.
use Rattle.std.specs.Prelude.{ℕ, ◌<◌, List, [], ◌∷◌, length, bytes_eq, position, slice_get, Option, None, Some, option_map, Result, Ok, Err, All, IfSome}
use Rattle.std.specs.Option.{option_and_then}
use Rattle.ad_base.specs.declared.image.Export.{Export}
use Rattle.ad_base.specs.declared.image.Image.{Image}
use Rattle.ad_script.specs.declared.script.Step.{Step}
use Rattle.ad_script.specs.declared.script.Step.TheVariants.{Call, Move, Stack}
use Rattle.ad_script.specs.Script.{line_of}
use Rattle.ad_lines.specs.declared.ready.ReadyStep.{ReadyStep}
use Rattle.ad_lines.specs.declared.ready.ReadyStep.TheVariants as ready

-- the number of the first export of this name
abbrev pub export_number : Image → List ℕ → Option ℕ
export_number i name = position (λ (x : Export). bytes_eq x.name name) i.exports

-- the step with the numbers of what it names; none where it calls an export that its module hasn't
abbrev pub ready_step : List Image → Step → Option ReadyStep
ready_step images (Call line worker «module» export args) =
    option_map (λ number. ready.Call line worker «module» number args) (option_and_then (λ i. export_number i export) (slice_get images «module»))
ready_step images (Move line modules) = Some (ready.Move line modules)
ready_step images (Stack line worker) = Some (ready.Stack line worker)

-- one step more before the others
abbrev pub before_others : ReadyStep → Result (List ReadyStep) ℕ → Result (List ReadyStep) ℕ
before_others step (Ok steps) = Ok (step ∷ steps)
before_others step (Err line) = Err line

-- a step that is ready is followed by the others; at the first that isn't, its line is the answer
abbrev pub resolved : Step → Option ReadyStep → Result (List ReadyStep) ℕ → Result (List ReadyStep) ℕ
resolved step None others = Err (line_of step)
resolved step (Some next) others = before_others next others

-- all steps, ready to run, or the line of the first that calls an export which its module hasn't
unfoldable pub ready_steps : List Image → List Step → Result (List ReadyStep) ℕ
ready_steps images [] = Ok []
ready_steps images (step ∷ steps) = resolved step (ready_step images step) (ready_steps images steps)

-- what a step names is there, among these modules and so many workers
abbrev pub IsRunnable : List Image → ℕ → ReadyStep → Type 0
IsRunnable images workers (ready.Call line worker «module» export args) = (worker < workers) × IfSome (slice_get images «module») (λ i. export < length i.exports) × («module» < length images)
IsRunnable images workers (ready.Move line modules) = All (λ m. m < length images) modules
IsRunnable images workers (ready.Stack line worker) = worker < workers
