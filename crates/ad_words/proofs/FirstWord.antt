-- A command is `run` exactly where its first word is.
use Rattle.std.proofs.Common.{◌≡◌, ℕ, Bool, true, false, List, ◌∷◌, Option, None, Some, IfSome, option_map, bytes_eq, codes, cond, option_and_then, refl}
use Rattle.std.specs.List.{list_all}
use Rattle.ad_words.specs.Words.{Command, Gen, Predict, Run, Said, Seq, Settings, Show, command_of, command_said, command_with, generated_numbers, is_of_task, number_taken, only, operands, said_by, settings_of, values_said}

-- whether the calls of a script's workers are run beside one another
abbrev pub is_run : Command → Bool
is_run (Run script seed fuel slots frames) = true
is_run (Seq script seed fuel) = false
is_run (Predict script seed fuel) = false
is_run (Show file) = false
is_run (Gen number seed fuel) = false

command_with-is_run : (task : List ℕ) (operand : Option (List ℕ)) (settings : Option Settings)
    → IfSome (command_with task operand settings) (λ command. is_run command ≡ bytes_eq task (codes "run"))
command_with-is_run task None settings = tt
command_with-is_run task (Some operand) None = tt
command_with-is_run task (Some operand) (Some settings) =
    by_task (bytes_eq task (codes "run")) (bytes_eq task (codes "seq")) (bytes_eq task (codes "predict")) (bytes_eq task (codes "show")) (bytes_eq task (codes "gen"))
  where
    generated : (number : Option ℕ) → IfSome (option_map (λ n. Gen n settings.seed settings.fuel) number) (λ command. is_run command ≡ false)
    generated None = tt
    generated (Some n) = refl

    by_task : (run is_seq is_predict is_show is_gen : Bool)
        → IfSome (cond run (Some (Run operand settings.seed settings.fuel settings.slots settings.frames)) (cond is_seq (Some (Seq operand settings.seed settings.fuel)) (cond is_predict (Some (Predict operand settings.seed settings.fuel)) (cond is_show (Some (Show operand)) (cond is_gen (option_map (λ n. Gen n settings.seed settings.fuel) (number_taken generated_numbers operand)) None))))) (λ command. is_run command ≡ run)
    by_task true is_seq is_predict is_show is_gen = refl
    by_task false true is_predict is_show is_gen = refl
    by_task false false true is_show is_gen = refl
    by_task false false false true is_gen = refl
    by_task false false false false true = generated (number_taken generated_numbers operand)
    by_task false false false false false = tt

command_said-is_run : (task : List ℕ) (said : List Said)
    → IfSome (command_said task said) (λ command. is_run command ≡ bytes_eq task (codes "run"))
command_said-is_run task said = behind (list_all (is_of_task task) said)
  where
    behind : (test : Bool) → IfSome (cond test (command_with task (only (operands said)) (settings_of (values_said said))) None)
        (λ command. is_run command ≡ bytes_eq task (codes "run"))
    behind true = command_with-is_run task (only (operands said)) (settings_of (values_said said))
    behind false = tt

pub first-word : (task : List ℕ) (words : List (List ℕ))
    → IfSome (command_of (task ∷ words)) (λ command. is_run command ≡ bytes_eq task (codes "run"))
first-word task words = behind (said_by words)
  where
    behind : (said : Option (List Said))
        → IfSome (option_and_then (command_said task) said) (λ command. is_run command ≡ bytes_eq task (codes "run"))
    behind None = tt
    behind (Some said) = command_said-is_run task said
