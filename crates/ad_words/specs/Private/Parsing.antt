-- What was read so far, and what it comes to with what is still to be read.
use Rattle.std.specs.Prelude.{◌≡◌, List, ℕ, ◌∷◌, ◌++◌, Option, None, MatchOption, if◌then◌else◌, option_and_then, option_copied, option_to_list}
use Rattle.std.specs.List.{list_all}
use Rattle.ad_words.specs.declared.parsed.Parsed.{Parsed}
use Rattle.ad_words.specs.declared.parsed.Values as read
use Rattle.ad_words.specs.Words.{Command, Said, Values, command_with, fuel_option, frames_option, is_of_task, only, operands, said_by, seed_option, settings_of, slots_option, values}

-- the values that were read of the options and those that are still said
abbrev pub values_parsed : read.Values → List Said → Values
values_parsed given said = record {
  seed = option_to_list (option_copied given.seed) ++ values seed_option.name said;
  fuel = option_to_list (option_copied given.fuel) ++ values fuel_option.name said;
  slots = option_to_list (option_copied given.slots) ++ values slots_option.name said;
  frames = option_to_list (option_copied given.frames) ++ values frames_option.name said;
}

-- the command of a task, with what was read and what is still said behind it
abbrev pub command_parsed : List ℕ → Parsed → List Said → Option Command
command_parsed task parsed said =
    if list_all (is_of_task task) said
    then command_with task (only (option_to_list (option_copied parsed.operand) ++ operands said)) (settings_of (values_parsed parsed.values said))
    else None

-- one thing more was read, or it leaves no command whatever follows it
abbrev pub Parses : List ℕ → Parsed → Said → Option Parsed → Type 0
Parses task old one new = MatchOption new ((said : List Said) → command_parsed task old (one ∷ said) ≡ None)
    (λ parsed. (said : List Said) → command_parsed task old (one ∷ said) ≡ command_parsed task parsed said)

-- one value more was read, or it leaves no numbers whatever follows it
abbrev pub ParsesValue : read.Values → Said → Option read.Values → Type 0
ParsesValue old one new = MatchOption new ((said : List Said) → settings_of (values_parsed old (one ∷ said)) ≡ None)
    (λ given. (said : List Said) → values_parsed old (one ∷ said) ≡ values_parsed given said)

-- the command of a task, with what was read and the words that are left
abbrev pub command_left : List ℕ → Parsed → List (List ℕ) → Option Command
command_left task parsed words = option_and_then (command_parsed task parsed) (said_by words)
