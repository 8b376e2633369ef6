-- What the built script says: its workers, its loads, and its calls and moves.
use Rattle.std.specs.Prelude.{◌≡◌, ℕ, ◌+◌, ◌/◌, ◌%◌, ◌==◌, List, [], ◌∷◌, bytes_eq, find, length, Option, Some, if◌then◌else◌}
use Rattle.std.specs.List.{slice_get}
use Rattle.std.specs.Option.{option_map_or}
use Rattle.ad_elf.specs.Below.{each}
use Rattle.ad_script.specs.declared.script.Load.{Load}
use Rattle.ad_script.specs.declared.script.Script.{Script}
use Rattle.ad_script.specs.declared.script.Step.{Step}
use Rattle.ad_script.specs.declared.script.Step.TheVariants.{Call, Move, Stack}
use Rattle.ad_generator.specs.declared.script.TheConstants.{SCRIPT_WORKERS}
use Rattle.ad_generator.specs.Modules.{Module, cnt, dev, file, modules, sum, tab}
use Rattle.ad_generator.specs.Script.{file_name, of_module}

-- The loads of the modules, on the lines behind that of the workers.
abbrev pub load_of : ℕ → Module → Load
load_of line m = record { line = line; name = m.name; file = file_name m }

abbrev pub generated_loads : List Load
generated_loads = load_of 2 sum ∷ load_of 3 cnt ∷ load_of 4 dev ∷ load_of 5 tab ∷ []

-- the number of the line of step k: that of the workers comes first, and then the loads
abbrev pub step_line : ℕ → ℕ
step_line k = k + 6

-- Step k as a call by the next worker, of the export of module j of those that are counted over and over. Its arguments are
-- k, and the second one that the export takes, if it takes one.
abbrev pub second_of : Module → List ℕ
second_of m = option_map_or (λ n. n ∷ []) m.second []

abbrev pub call_of : ℕ → ℕ → Step
call_of k j = Call (step_line k) (k % SCRIPT_WORKERS) (j % length modules) (of_module (λ m. m.export) j) (k ∷ of_module second_of j)

-- step k as a move of module j alone, of those
abbrev pub move_of : ℕ → ℕ → Step
move_of k j = Move (step_line k) (j % length modules ∷ [])

-- Of eight steps the last is a move, each time of the next module; the others are calls, two of each module in turn.
unfoldable pub generated_step : ℕ → Step
generated_step k = if k % 8 == 7 then move_of k (k / 8) else call_of k (k / 2)

-- the script of so many steps, which are counted from 0
abbrev pub generated_script : ℕ → Script
generated_script n = record { workers = SCRIPT_WORKERS; loads = generated_loads; steps = each generated_step n }

-- the module whose file has this name
abbrev pub module_in : List ℕ → Option Module
module_in name = find (λ (m : Module). bytes_eq (file_name m) name) modules

-- the bytes of the built file of a name, and none where no built file has it
abbrev pub built_named : List ℕ → List ℕ
built_named name = option_map_or file (module_in name) []

-- A call is of the export of the built module of its number.
abbrev pub IsOfBuilt : Step → Type 0
IsOfBuilt (Call line worker «module» export args) = (m : Module) × (slice_get modules «module» ≡ Some m) × (export ≡ m.export)
IsOfBuilt (Move line moved) = Unit {0}
IsOfBuilt (Stack line worker) = Unit {0}

-- the steps of seven calls and a move
abbrev pub worked_steps : List Step
worked_steps =
    Call 6 0 0 sum.export (0 ∷ 1 ∷ [])
    ∷ Call 7 1 0 sum.export (1 ∷ 1 ∷ [])
    ∷ Call 8 2 1 cnt.export (2 ∷ [])
    ∷ Call 9 3 1 cnt.export (3 ∷ [])
    ∷ Call 10 0 2 dev.export (4 ∷ [])
    ∷ Call 11 1 2 dev.export (5 ∷ [])
    ∷ Call 12 2 3 tab.export (6 ∷ [])
    ∷ Move 13 (0 ∷ [])
    ∷ []
