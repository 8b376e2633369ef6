-- What each line of a text says by itself, what lines say together, and why a line is refused behind others.
use Rattle.std.specs.Prelude.{ℕ, List, filter_map, map, Option, None, Some, unwrap_or}
use Rattle.std.specs.List.{enumerate_from, slice_get}
use Rattle.std.specs.Option.{option_or}
use Rattle.ad_script.specs.declared.refusal.Cause.{Cause}
use Rattle.ad_script.specs.declared.script.Load.{Load}
use Rattle.ad_script.specs.declared.script.Step.{Step}
use Rattle.ad_script.specs.declared.script.Step.TheVariants.{Call, Move, Stack}
use Rattle.ad_script.specs.Forms.{Blank, Calls, Form, Loads, Moves, Stacks, Workers, export_part, form_of, module_part, number_of}
use Rattle.ad_script.specs.Lines.{lines_of, without_return, words_of}
use Rattle.ad_script.specs.Script.{Said, form_cause, module_number, number_or_0, text_cause}

-- a line: its number, and its text without the CR that may stand at its end
abbrev pub Line : Type 0
Line = ℕ × List ℕ

-- the lines of a text, counted from 1
abbrev pub numbered_lines : List ℕ → List Line
numbered_lines text = enumerate_from 1 (map without_return (lines_of text))

-- what is to be done by a line: nothing where its words have no form
abbrev pub form_said : List ℕ → Form
form_said text = unwrap_or (form_of (words_of text)) Blank

-- how many workers there are, if a line says it
abbrev pub form_count : Form → Option ℕ
form_count (Workers count) = number_of count
form_count other = None

abbrev pub count_said : Line → Option ℕ
count_said (number, text) = form_count (form_said text)

-- the module that a line loads, if it loads one
abbrev pub form_load : ℕ → Form → Option Load
form_load number (Loads name file) = Some (record { line = number; name = name; file = file })
form_load number other = None

abbrev pub load_said : Line → Option Load
load_said (number, text) = form_load number (form_said text)

-- the step that a line makes, if it makes one: modules are named, and are numbered by their places among these loads
abbrev pub place_among : List Load → List ℕ → ℕ
place_among loads name = unwrap_or (module_number loads name) 0

abbrev pub form_step : List Load → ℕ → Form → Option Step
form_step loads number (Calls worker target args) = Some (Call number (number_or_0 worker) (place_among loads (module_part target)) (export_part target) (map number_or_0 args))
form_step loads number (Moves names) = Some (Move number (map (place_among loads) names))
form_step loads number (Stacks worker) = Some (Stack number (number_or_0 worker))
form_step loads number other = None

abbrev pub step_said : List Load → Line → Option Step
step_said loads (number, text) = form_step loads number (form_said text)

-- What all of these lines say, in their order: the counts of workers, the loads, and the steps on these loads.
abbrev pub counts_said : List Line → List ℕ
counts_said lines = filter_map count_said lines

abbrev pub loads_said : List Line → List Load
loads_said lines = filter_map load_said lines

abbrev pub steps_said : List Load → List Line → List Step
steps_said loads lines = filter_map (step_said loads) lines

-- what these lines say together
abbrev pub said_by : List Line → Said
said_by lines = record { workers = slice_get (counts_said lines) 0; loads = loads_said lines; steps = steps_said (loads_said lines) lines }

-- the first cause why a line is refused behind those before it: one of its text and its number, or else one of its form
abbrev pub cause_behind : List Line → Line → Option Cause
cause_behind before (number, text) = option_or (text_cause number text) (form_cause (said_by before) (form_said text))
