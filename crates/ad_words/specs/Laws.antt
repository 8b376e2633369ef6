-- What the grammar says of numbers, of the two forms of an option, and of the order of the words.
use Rattle.std.specs.Prelude.{◌≡◌, ◌≢◌, ◌⊎◌, ◌≤◌, ◌<◌, ◌^◌, ◌==◌, ℕ, false, List, [], ◌∷◌, ◌++◌, Some, codes, map}
use Rattle.std.specs.List.{AllByRecursion, flat_map, list_any}
use Rattle.ad_words.specs.declared.command.TheConstants.{LEAST_FRAMES, MOST_FRAMES, MOST_FUEL, MOST_GENERATED, MOST_SLOTS}
use Rattle.ad_words.specs.Words.{Apart, Command, Gen, Joined, Operand, Plain, Predict, Run, Said, Seq, Show, command_of, command_said, kind_of, operands, said_by, values}

-- the numbers of a command are in range
abbrev pub IsInRange : Command → Type 0
IsInRange (Run script seed fuel slots frames) = (seed < 2 ^ 64) × (1 ≤ fuel) × (fuel ≤ MOST_FUEL)
    × (1 ≤ slots) × (slots ≤ MOST_SLOTS) × (LEAST_FRAMES ≤ frames) × (frames ≤ MOST_FRAMES)
IsInRange (Seq script seed fuel) = (seed < 2 ^ 64) × (1 ≤ fuel) × (fuel ≤ MOST_FUEL)
IsInRange (Predict script seed fuel) = (seed < 2 ^ 64) × (1 ≤ fuel) × (fuel ≤ MOST_FUEL)
IsInRange (Show file) = Unit {0}
IsInRange (Gen number seed fuel) = (1 ≤ number) × (number ≤ MOST_GENERATED) × (seed < 2 ^ 64) × (1 ≤ fuel) × (fuel ≤ MOST_FUEL)

-- How an option is written with its value: `--name=value`, or `--name value`.
pub data Form : Type 0 where
  OneWord : Form
  TwoWords : Form

-- the words of an option with its value
abbrev pub option_words : Form → List ℕ → List ℕ → List (List ℕ)
option_words OneWord name value = (codes "--" ++ name ++ codes "=" ++ value) ∷ []
option_words TwoWords name value = (codes "--" ++ name) ∷ value ∷ []

-- A name that can stand in both forms: `--` without a name ends the options, and a name ends at the first `=`.
pub record IsOptionName (name : List ℕ) : Type 0 where
  pub not_empty : name ≢ []
  pub no_equals_sign : list_any (λ byte. byte == 0x3d) name ≡ false

-- an operand, or an option with its value, in one word or in two
abbrev pub IsItem : List (List ℕ) → Type 0
IsItem [] = ⊥
IsItem (word ∷ []) = (kind_of word ≡ Plain) ⊎ ((name value : List ℕ) × (kind_of word ≡ Joined name value))
IsItem (word ∷ value ∷ []) = (name : List ℕ) × (kind_of word ≡ Apart name)
IsItem (first ∷ second ∷ third ∷ more) = ⊥

-- Words that are operands and options, each option with its value: no `--` among them ends the options.
pub record AreWhole (words : List (List ℕ)) : Type 0 where
  pub items : List (List (List ℕ))
  pub each : AllByRecursion IsItem items
  pub joined : words ≡ flat_map (λ item. item) items

-- `--name value` says what `--name=value` says, wherever it stands
abbrev pub TakesBothForms : Type 0
TakesBothForms = (task name value : List ℕ) (before after : List (List ℕ)) → AreWhole before → IsOptionName name
    → command_of (task ∷ before ++ option_words TwoWords name value ++ after)
    ≡ command_of (task ∷ before ++ option_words OneWord name value ++ after)

-- an option with its value may stand before an operand or behind it
abbrev pub TakesOptionsAnywhere : Type 0
TakesOptionsAnywhere = (task name value operand : List ℕ) (form : Form) (before after : List (List ℕ))
    → AreWhole before → IsOptionName name → kind_of operand ≡ Plain
    → command_of (task ∷ before ++ option_words form name value ++ operand ∷ after)
    ≡ command_of (task ∷ before ++ operand ∷ option_words form name value ++ after)

-- two options of different names may be exchanged
abbrev pub TakesAnyOrder : Type 0
TakesAnyOrder = (task name value other other_value : List ℕ) (form other_form : Form) (before after : List (List ℕ))
    → AreWhole before → IsOptionName name → IsOptionName other → name ≢ other
    → command_of (task ∷ before ++ option_words form name value ++ option_words other_form other other_value ++ after)
    ≡ command_of (task ∷ before ++ option_words other_form other other_value ++ option_words form name value ++ after)

-- The same operands in order, and of each option the same values in order.
pub record SayTheSame (said other : List Said) : Type 0 where
  pub same_operands : operands said ≡ operands other
  pub same_values : (name : List ℕ) → values name said ≡ values name other

-- words that say the same operands in order, and of each option the same values in order, are the same command
abbrev pub DependsOnWhatIsSaid : Type 0
DependsOnWhatIsSaid = (task : List ℕ) (words other_words : List (List ℕ)) (said other : List Said)
    → said_by words ≡ Some said → said_by other_words ≡ Some other → SayTheSame said other
    → command_of (task ∷ words) ≡ command_of (task ∷ other_words)

-- behind `--` each word is an operand, whatever it begins with
abbrev pub EndsOptions : Type 0
EndsOptions = (task : List ℕ) (before others : List (List ℕ)) (said : List Said)
    → AreWhole before → said_by before ≡ Some said
    → command_of (task ∷ before ++ codes "--" ∷ others) ≡ command_said task (said ++ map Operand others)

-- Words that are whole up to a `--`, whatever stands behind it.
pub record AreWholeToEnd (words : List (List ℕ)) : Type 0 where
  pub before : List (List ℕ)
  pub others : List (List ℕ)
  pub whole : AreWhole before
  pub joined : words ≡ before ++ codes "--" ∷ others

-- words that say something are whole, or are whole up to a `--`
abbrev pub SaysInWholeWords : Type 0
SaysInWholeWords = (words : List (List ℕ)) (said : List Said) → said_by words ≡ Some said → AreWhole words ⊎ AreWholeToEnd words
