-- The command words: the grammar over whole lists of words.
use Rattle.std.specs.Prelude.{ℕ, ◌-◌, ◌^◌, nat_le, nat_lt, Bool, true, not, ◌&&◌, ◌||◌, bytes_eq, codes, List, [], ◌∷◌, drop, length, map, Option, None, Some, option_and_then, option_map, if◌then◌else◌, ◌==◌}
use Rattle.std.specs.List.{after_first, before_first, list_all, list_any, starts_with}
use Rattle.std.specs.Prelude.{nat_eq}
use Rattle.std.specs.Str.{all_ascii_digits}
use Rattle.std.specs.Str.Parse.{digits_value}
use Rattle.ad_words.specs.declared.command.TheConstants.{FRAMES, FUEL, LEAST_FRAMES, MOST_FRAMES, MOST_FUEL, MOST_GENERATED, MOST_SLOTS, SEED, SLOTS}

-- A command, by what is done:
--     Run script seed fuel slots frames    the calls of each worker of a script are run beside those of the others and beside its moves, with so many slots for the workers and so many table frames for each module
--     Seq script seed fuel                 the lines of a script are run one after another, with places from a seed and so many steps of each call at most
--     Predict script seed fuel             the symbolic machine says of each call of a script what comes of it, wherever the movable parts and the stacks lie
--     Show file                            what the image of a module's file has is shown
--     Gen number seed fuel                 the script of so many calls and moves of the modules that are built is run as one in a file is
pub data Command : Type 0 where
  Run : List ℕ → ℕ → ℕ → ℕ → ℕ → Command
  Seq : List ℕ → ℕ → ℕ → Command
  Predict : List ℕ → ℕ → ℕ → Command
  Show : List ℕ → Command
  Gen : ℕ → ℕ → ℕ → Command

-- The numbers that an operand or an option takes: from the least to the most.
pub record Numbers : Type 0 where
  pub least : ℕ
  pub most : ℕ

-- An option: its name, the tasks that it belongs to, the numbers that it takes, and the number where it isn't given.
pub record OptionRow : Type 0 where
  pub name : List ℕ
  pub tasks : List (List ℕ)
  pub numbers : Numbers
  pub default : ℕ

abbrev pub seed_option : OptionRow
seed_option = record {
  name = codes "seed";
  tasks = codes "run" ∷ codes "seq" ∷ codes "predict" ∷ codes "gen" ∷ [];
  numbers = record { least = 0; most = 2 ^ 64 - 1 };
  default = SEED;
}

abbrev pub fuel_option : OptionRow
fuel_option = record {
  name = codes "fuel";
  tasks = codes "run" ∷ codes "seq" ∷ codes "predict" ∷ codes "gen" ∷ [];
  numbers = record { least = 1; most = MOST_FUEL };
  default = FUEL;
}

abbrev pub slots_option : OptionRow
slots_option = record {
  name = codes "slots";
  tasks = codes "run" ∷ [];
  numbers = record { least = 1; most = MOST_SLOTS };
  default = SLOTS;
}

abbrev pub frames_option : OptionRow
frames_option = record {
  name = codes "frames";
  tasks = codes "run" ∷ [];
  numbers = record { least = LEAST_FRAMES; most = MOST_FRAMES };
  default = FRAMES;
}

abbrev pub all_options : List OptionRow
all_options = seed_option ∷ fuel_option ∷ slots_option ∷ frames_option ∷ []

-- how many lines a script is generated of
abbrev pub generated_numbers : Numbers
generated_numbers = record { least = 1; most = MOST_GENERATED }

-- What a word is where no `--` stands before it and it is no option's value:
--     End                     `--`
--     Plain                   an operand
--     Joined name value       an option and its value, `--name=value`
--     Apart name              an option, `--name`, and the next word is its value
--     Wrong                   not in the grammar
pub data Kind : Type 0 where
  End : Kind
  Plain : Kind
  Joined : List ℕ → List ℕ → Kind
  Apart : List ℕ → Kind
  Wrong : Kind

-- the text behind `--` is cut at its first `=`
abbrev pub option_kind : List ℕ → Kind
option_kind text =
    if list_any (λ byte. byte == 0x3d) text then Joined (before_first (λ byte. byte == 0x3d) text) (after_first (λ byte. byte == 0x3d) text)
    else Apart text

-- the first of these sentences that holds
abbrev pub kind_of : List ℕ → Kind
kind_of word =
    if bytes_eq word (codes "--") then End
    else if bytes_eq word (codes "-") || not (starts_with nat_eq word (codes "-")) then Plain
    else if starts_with nat_eq word (codes "--") then option_kind (drop 2 word)
    else Wrong

-- What the words behind the first say, one after another: an operand, or an option with its value.
pub data Said : Type 0 where
  Operand : List ℕ → Said
  Given : List ℕ → List ℕ → Said

abbrev pub before : Said → Option (List Said) → Option (List Said)
before one others = option_map (λ said. one ∷ said) others

abbrev mutual
  -- what the words say, if each is in the grammar where it stands
  pub said_by : List (List ℕ) → Option (List Said)
  said_by [] = Some []
  said_by (word ∷ rest) = elim (kind_of word) [
    | End ↦ Some (map Operand rest)
    | Plain ↦ before (Operand word) (said_by rest)
    | Joined name value ↦ before (Given name value) (said_by rest)
    | Apart name ↦ said_with_value name rest
    | Wrong ↦ None
  ]

  -- the same behind an option whose value is the next word
  pub said_with_value : List ℕ → List (List ℕ) → Option (List Said)
  said_with_value name [] = None
  said_with_value name (value ∷ rest) = before (Given name value) (said_by rest)

-- the operands
abbrev pub operands : List Said → List (List ℕ)
operands [] = []
operands (Operand word ∷ said) = word ∷ operands said
operands (Given name value ∷ said) = operands said

-- the values that the option of this name is given
abbrev pub values : List ℕ → List Said → List (List ℕ)
values wanted [] = []
values wanted (Operand word ∷ said) = values wanted said
values wanted (Given name value ∷ said) = if bytes_eq name wanted then value ∷ values wanted said else values wanted said

-- The values that each option is given.
pub record Values : Type 0 where
  pub seed : List (List ℕ)
  pub fuel : List (List ℕ)
  pub slots : List (List ℕ)
  pub frames : List (List ℕ)

abbrev pub values_said : List Said → Values
values_said said = record {
  seed = values seed_option.name said;
  fuel = values fuel_option.name said;
  slots = values slots_option.name said;
  frames = values frames_option.name said;
}

-- an operand, or an option that belongs to the task
abbrev pub is_of_task : List ℕ → Said → Bool
is_of_task task (Operand word) = true
is_of_task task (Given name value) =
    list_any (λ option. bytes_eq name (OptionRow.name option) && list_any (bytes_eq task) (OptionRow.tasks option)) all_options

-- the one word of a list
abbrev pub only : List (List ℕ) → Option (List ℕ)
only [] = None
only (word ∷ []) = Some word
only (first ∷ second ∷ more) = None

-- the number that decimal digits say, if it is one of these
abbrev pub number_taken : Numbers → List ℕ → Option ℕ
number_taken numbers word =
    let number = digits_value 10 word in
    if nat_lt 0 (length word) && all_ascii_digits word && nat_le numbers.least number && nat_le number numbers.most then Some number
    else None

-- the number of an option that is given these values, at most one
abbrev pub option_number : OptionRow → List (List ℕ) → Option ℕ
option_number option [] = Some option.default
option_number option (value ∷ []) = number_taken option.numbers value
option_number option (first ∷ second ∷ more) = None

-- The number of each option.
pub record Settings : Type 0 where
  pub seed : ℕ
  pub fuel : ℕ
  pub slots : ℕ
  pub frames : ℕ

-- these numbers, where there is each
abbrev pub settings_with : Option ℕ → Option ℕ → Option ℕ → Option ℕ → Option Settings
settings_with (Some seed) (Some fuel) (Some slots) (Some frames) = Some (record { seed = seed; fuel = fuel; slots = slots; frames = frames })
settings_with seed fuel slots frames = None

-- the numbers of the options that are given these values
abbrev pub settings_of : Values → Option Settings
settings_of given = settings_with (option_number seed_option given.seed) (option_number fuel_option given.fuel)
    (option_number slots_option given.slots) (option_number frames_option given.frames)

-- the command of a task, with its operand and the numbers of the options
abbrev pub command_with : List ℕ → Option (List ℕ) → Option Settings → Option Command
command_with task (Some operand) (Some settings) =
    if bytes_eq task (codes "run") then Some (Run operand settings.seed settings.fuel settings.slots settings.frames)
    else if bytes_eq task (codes "seq") then Some (Seq operand settings.seed settings.fuel)
    else if bytes_eq task (codes "predict") then Some (Predict operand settings.seed settings.fuel)
    else if bytes_eq task (codes "show") then Some (Show operand)
    else if bytes_eq task (codes "gen") then option_map (λ number. Gen number settings.seed settings.fuel) (number_taken generated_numbers operand)
    else None
command_with task operand settings = None

-- the command of a task with all that is said behind it
abbrev pub command_said : List ℕ → List Said → Option Command
command_said task said =
    if list_all (is_of_task task) said
    then command_with task (only (operands said)) (settings_of (values_said said))
    else None

-- The grammar: the command of a list of words, or none.
abbrev pub command_of : List (List ℕ) → Option Command
command_of [] = None
command_of (task ∷ words) = option_and_then (command_said task) (said_by words)
