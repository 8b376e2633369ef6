-- The numbers of a command are in range.
use Rattle.std.proofs.Common.{◌≡◌, ◌≤◌, ◌<◌, ◌^◌, ◌&&◌, ℕ, Bool, true, false, nat_le, nat_lt, List, [], ◌∷◌, length, Option, None, Some, IfSome, option_map, bytes_eq, codes, cond, option_and_then, lit≤, refl, arith}
use Rattle.std.specs.List.{list_all}
use Rattle.std.specs.Str.{all_ascii_digits}
use Rattle.std.specs.Str.Parse.{digits_value}
use Rattle.std.proofs.lemmas.Bool.{and_parts, leb-true}
use Rattle.ad_words.specs.Laws.{IsInRange}
use Rattle.ad_words.specs.Words.{Gen, Numbers, OptionRow, Predict, Run, Said, Seq, Settings, Show, Values, command_of, command_said, command_with, frames_option, fuel_option, generated_numbers, is_of_task, number_taken, option_number, only, operands, said_by, seed_option, settings_of, settings_with, slots_option, values_said}

-- a value that is given behind a test meets what the test shows
if_tested : {A : Type 0} (test : Bool) (value : A) (P : A → Type 0) → (test ≡ true → P value) → IfSome (cond test (Some value) None) P
if_tested true value P shown = shown refl
if_tested false value P shown = tt

-- one of these numbers
abbrev IsOneOf : Numbers → ℕ → Type 0
IsOneOf numbers n = (numbers.least ≤ n) × (n ≤ numbers.most)

number_taken-in_range : (numbers : Numbers) (word : List ℕ) → IfSome (number_taken numbers word) (IsOneOf numbers)
number_taken-in_range numbers word =
    if_tested _ (digits_value 10 word) (IsOneOf numbers) (λ tested.
    let most = and_parts (nat_lt 0 (length word) && all_ascii_digits word && nat_le numbers.least (digits_value 10 word)) _ tested in
    let least = and_parts (nat_lt 0 (length word) && all_ascii_digits word) _ most.0 in
    (leb-true _ _ least.1, leb-true _ _ most.1))

option_number-in_range : (option : OptionRow) (given : List (List ℕ)) → IsOneOf option.numbers option.default
    → IfSome (option_number option given) (IsOneOf option.numbers)
option_number-in_range option [] within = within
option_number-in_range option (value ∷ []) within = number_taken-in_range option.numbers value
option_number-in_range option (first ∷ second ∷ more) within = tt

-- the number of each option is one of those that it takes
record AreInRange (settings : Settings) : Type 0 where
  seed : IsOneOf seed_option.numbers settings.seed
  fuel : IsOneOf fuel_option.numbers settings.fuel
  slots : IsOneOf slots_option.numbers settings.slots
  frames : IsOneOf frames_option.numbers settings.frames

settings_with-in_range : (seed fuel slots frames : Option ℕ) → IfSome seed (IsOneOf seed_option.numbers)
    → IfSome fuel (IsOneOf fuel_option.numbers) → IfSome slots (IsOneOf slots_option.numbers)
    → IfSome frames (IsOneOf frames_option.numbers) → IfSome (settings_with seed fuel slots frames) AreInRange
settings_with-in_range None fuel slots frames s f l r = tt
settings_with-in_range (Some seed) None slots frames s f l r = tt
settings_with-in_range (Some seed) (Some fuel) None frames s f l r = tt
settings_with-in_range (Some seed) (Some fuel) (Some slots) None s f l r = tt
settings_with-in_range (Some seed) (Some fuel) (Some slots) (Some frames) s f l r = record { seed = s; fuel = f; slots = l; frames = r }

settings_of-in_range : (given : Values) → IfSome (settings_of given) AreInRange
settings_of-in_range given = settings_with-in_range _ _ _ _
    (option_number-in_range seed_option given.seed (lit≤ tt, lit≤ tt)) (option_number-in_range fuel_option given.fuel (lit≤ tt, lit≤ tt))
    (option_number-in_range slots_option given.slots (lit≤ tt, lit≤ tt)) (option_number-in_range frames_option given.frames (lit≤ tt, lit≤ tt))

command_with-in_range : (task : List ℕ) (operand : Option (List ℕ)) (settings : Option Settings) → IfSome settings AreInRange
    → IfSome (command_with task operand settings) IsInRange
command_with-in_range task None settings within = tt
command_with-in_range task (Some operand) None within = tt
command_with-in_range task (Some operand) (Some settings) within =
    by_task (bytes_eq task (codes "run")) (bytes_eq task (codes "seq")) (bytes_eq task (codes "predict")) (bytes_eq task (codes "show")) (bytes_eq task (codes "gen"))
  where
    small : settings.seed < 2 ^ 64
    small = omega (arith, within.seed.1)

    generated : (number : Option ℕ) → IfSome number (IsOneOf generated_numbers)
        → IfSome (option_map (λ n. Gen n settings.seed settings.fuel) number) IsInRange
    generated None taken = tt
    generated (Some n) taken = (taken.0, taken.1, small, within.fuel.0, within.fuel.1)

    by_task : (is_run is_seq is_predict is_show is_gen : Bool)
        → IfSome (cond is_run (Some (Run operand settings.seed settings.fuel settings.slots settings.frames)) (cond is_seq (Some (Seq operand settings.seed settings.fuel)) (cond is_predict (Some (Predict operand settings.seed settings.fuel)) (cond is_show (Some (Show operand)) (cond is_gen (option_map (λ n. Gen n settings.seed settings.fuel) (number_taken generated_numbers operand)) None))))) IsInRange
    by_task true is_seq is_predict is_show is_gen =
        (small, within.fuel.0, within.fuel.1, within.slots.0, within.slots.1, within.frames.0, within.frames.1)
    by_task false true is_predict is_show is_gen = (small, within.fuel.0, within.fuel.1)
    by_task false false true is_show is_gen = (small, within.fuel.0, within.fuel.1)
    by_task false false false true is_gen = tt
    by_task false false false false true = generated (number_taken generated_numbers operand) (number_taken-in_range generated_numbers operand)
    by_task false false false false false = tt

command_said-in_range : (task : List ℕ) (said : List Said) → IfSome (command_said task said) IsInRange
command_said-in_range task said = behind (list_all (is_of_task task) said)
  where
    behind : (test : Bool) → IfSome (cond test (command_with task (only (operands said)) (settings_of (values_said said))) None) IsInRange
    behind true = command_with-in_range task (only (operands said)) (settings_of (values_said said)) (settings_of-in_range (values_said said))
    behind false = tt

pub command_of-in_range : (words : List (List ℕ)) → IfSome (command_of words) IsInRange
command_of-in_range [] = tt
command_of-in_range (task ∷ words) = behind (said_by words)
  where
    behind : (said : Option (List Said)) → IfSome (option_and_then (command_said task) said) IsInRange
    behind None = tt
    behind (Some said) = command_said-in_range task said
