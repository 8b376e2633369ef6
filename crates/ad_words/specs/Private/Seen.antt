-- How values of the code are seen.
use Rattle.std.specs.Prelude.{ℕ, List, codes}
use Rattle.ad_words.specs.declared.command.Command as read
use Rattle.ad_words.specs.declared.command.Command.TheVariants as variants
use Rattle.ad_words.specs.declared.task.Task.{Task}
use Rattle.ad_words.specs.declared.task.Task.TheVariants as tasks
use Rattle.ad_words.specs.declared.setting.Range.{Range}
use Rattle.ad_words.specs.declared.setting.Setting.{Setting}
use Rattle.ad_words.specs.declared.setting.Settings as numbers
use Rattle.ad_words.specs.declared.setting.Setting.TheVariants as settings
use Rattle.ad_words.specs.declared.kind.Kind as code
use Rattle.ad_words.specs.declared.kind.Kind.TheVariants as kinds
use Rattle.ad_words.specs.Words.{Apart, Command, End, Gen, Joined, Kind, Numbers, OptionRow, Plain, Predict, Run, Seq, Settings, Show, Wrong, frames_option, fuel_option, seed_option, slots_option}

-- the command that was read, with its operand as bytes
abbrev pub command_seen : read.Command → Command
command_seen (variants.Run script seed fuel slots frames) = Run script.now seed fuel slots frames
command_seen (variants.Seq script seed fuel) = Seq script.now seed fuel
command_seen (variants.Predict script seed fuel) = Predict script.now seed fuel
command_seen (variants.Show file) = Show file.now
command_seen (variants.Gen number seed fuel) = Gen number seed fuel

-- the word that names the task
abbrev pub task_word : Task → List ℕ
task_word tasks.Run = codes "run"
task_word tasks.Seq = codes "seq"
task_word tasks.Predict = codes "predict"
task_word tasks.Show = codes "show"
task_word tasks.Gen = codes "gen"

-- the row of an option
abbrev pub row_of : Setting → OptionRow
row_of settings.Seed = seed_option
row_of settings.Fuel = fuel_option
row_of settings.Slots = slots_option
row_of settings.Frames = frames_option

-- the numbers of the options
abbrev pub settings_seen : numbers.Settings → Settings
settings_seen given = record { seed = given.seed; fuel = given.fuel; slots = given.slots; frames = given.frames }

-- the numbers of a range
abbrev pub range_seen : Range → Numbers
range_seen range = record { least = range.least; most = range.most }

-- what a word is, with its parts as bytes
abbrev pub kind_seen : code.Kind → Kind
kind_seen kinds.End = End
kind_seen kinds.Plain = Plain
kind_seen (kinds.Joined name value) = Joined name.now value.now
kind_seen (kinds.Apart name) = Apart name.now
kind_seen kinds.Wrong = Wrong
