-- The script of a text: what its lines say, one after another, or the first line that is refused, with the first cause.
use Rattle.std.specs.Prelude.{ℕ, ◌+◌, ◌==◌, ◌||◌, Bool, false, not, nat_le, nat_lt, bytes_eq, List, [], ◌∷◌, ◌++◌, length, map, position, Option, None, Some, unwrap_or, Result, Ok, Err, codes, if◌then◌else◌}
use Rattle.std.specs.List.{list_all, list_any}
use Rattle.std.specs.Option.{is_none, is_some}
use Rattle.ad_base.specs.declared.layout.TheConstants.{MODULES, WORKERS}
use Rattle.ad_script.specs.declared.refusal.Cause.{Cause}
use Rattle.ad_script.specs.declared.refusal.Cause.TheVariants.{Args, Duplicate, Export, LateLoad, Module, NotText, Number, TooMany, Word, Worker}
use Rattle.ad_script.specs.declared.refusal.ScriptRefusal.{ScriptRefusal}
use Rattle.ad_script.specs.declared.refusal.ScriptRefusal.TheVariants.{At}
use Rattle.ad_script.specs.declared.script.Load.{Load}
use Rattle.ad_script.specs.declared.script.Script.{Script}
use Rattle.ad_script.specs.declared.script.Step.{Step}
use Rattle.ad_script.specs.declared.script.Step.TheVariants.{Call, Move, Stack}
use Rattle.ad_script.specs.declared.script.TheConstants.{ARGUMENTS, SCRIPT_LINES}
use Rattle.ad_script.specs.Forms.{Blank, Calls, Form, Loads, Moves, Stacks, Workers, export_part, form_of, is_file_name, is_module_name, is_target, module_part, number_of}
use Rattle.ad_script.specs.Lines.{is_text_byte, lines_of, without_return, words_of}

-- what lines say together: how many workers there are, if a line says it, the modules, and the steps
pub record Said : Type 0 where
  pub workers : Option ℕ
  pub loads : List Load
  pub steps : List Step

abbrev pub nothing_said : Said
nothing_said = record { workers = None; loads = []; steps = [] }

-- how many workers there are: one where no line says it
abbrev pub workers_of : Said → ℕ
workers_of said = unwrap_or said.workers 1

-- the number of the module of this name, if it was loaded; modules are numbered from 0 in order
unfoldable pub module_number : List Load → List ℕ → Option ℕ
module_number loads name = position (λ (l : Load). bytes_eq l.name name) loads

abbrev pub is_loaded : Said → List ℕ → Bool
is_loaded said name = is_some (module_number said.loads name)

-- a name stands twice
unfoldable pub has_repeats : List (List ℕ) → Bool
has_repeats [] = false
has_repeats (name ∷ names) = list_any (bytes_eq name) names || has_repeats names

-- The sentences that may hold of a line behind others, each by the forms that it speaks of. A module or a file isn't named as
-- modules and files are.
abbrev pub has_bad_name : Form → Bool
has_bad_name (Loads name file) = not (is_module_name name) || not (is_file_name file)
has_bad_name (Moves names) = not (list_all is_module_name names)
has_bad_name other = false

-- there are too many arguments, or too many names
abbrev pub has_too_many : Form → Bool
has_too_many (Calls worker target args) = nat_lt ARGUMENTS (length args)
has_too_many (Moves names) = nat_lt MODULES (length names)
has_too_many other = false

-- it should stand before all calls, moves and stacks
abbrev pub is_late : Said → Form → Bool
is_late said (Workers count) = not (length said.steps == 0)
is_late said (Loads name file) = not (length said.steps == 0)
is_late said other = false

-- a number isn't spelled as numbers are, or there can't be so many workers: there are 1 to 64
abbrev pub is_bad_number : List ℕ → Bool
is_bad_number word = is_none (number_of word)

abbrev pub is_bad_count : ℕ → Bool
is_bad_count count = nat_lt count 1 || nat_lt WORKERS count

abbrev pub number_or_0 : List ℕ → ℕ
number_or_0 word = unwrap_or (number_of word) 0

abbrev pub has_bad_number : Form → Bool
has_bad_number (Workers count) = is_bad_number count || is_bad_count (number_or_0 count)
has_bad_number (Calls worker target args) = is_bad_number worker || list_any is_bad_number args
has_bad_number (Stacks worker) = is_bad_number worker
has_bad_number other = false

-- there is no such worker
abbrev pub lacks_worker : Said → Form → Bool
lacks_worker said (Calls worker target args) = nat_le (workers_of said) (number_or_0 worker)
lacks_worker said (Stacks worker) = nat_le (workers_of said) (number_or_0 worker)
lacks_worker said other = false

-- what is called isn't named as the export of a module
abbrev pub has_bad_target : Form → Bool
has_bad_target (Calls worker target args) = not (is_target target)
has_bad_target other = false

-- no such module was loaded
abbrev pub lacks_module : Said → Form → Bool
lacks_module said (Calls worker target args) = not (is_loaded said (module_part target))
lacks_module said (Moves names) = not (list_all (is_loaded said) names)
lacks_module said other = false

-- it says what was said before, or says something twice
abbrev pub repeats : Said → Form → Bool
repeats said (Workers count) = is_some said.workers
repeats said (Loads name file) = is_loaded said name
repeats said (Moves names) = has_repeats names
repeats said other = false

-- there are as many modules as there may be
abbrev pub is_past_last_load : Said → Form → Bool
is_past_last_load said (Loads name file) = nat_le MODULES (length said.loads)
is_past_last_load said other = false

-- the cause of the first sentence that holds
abbrev pub first_cause : List (Bool × Cause) → Option Cause
first_cause [] = None
first_cause ((holds, cause) ∷ sentences) = if holds then Some cause else first_cause sentences

-- The sentences in their order, each with its cause: those on the text of a line and its number, and those on its form.
unfoldable pub text_cause : ℕ → List ℕ → Option Cause
text_cause number text = first_cause (
    (not (list_all is_text_byte text), NotText)
    ∷ (nat_lt SCRIPT_LINES number, TooMany)
    ∷ (is_none (form_of (words_of text)), Word)
    ∷ [])

abbrev pub form_sentences : Said → Form → List (Bool × Cause)
form_sentences said form =
    (has_bad_name form, Word)
    ∷ (has_too_many form, Args)
    ∷ (is_late said form, LateLoad)
    ∷ (has_bad_number form, Number)
    ∷ (lacks_worker said form, Worker)
    ∷ (has_bad_target form, Export)
    ∷ (lacks_module said form, Module)
    ∷ (repeats said form, Duplicate)
    ∷ (is_past_last_load said form, TooMany)
    ∷ []

unfoldable pub form_cause : Said → Form → Option Cause
form_cause said form = first_cause (form_sentences said form)

-- What was said once a line of this number says its own, of which no sentence holds.
abbrev pub number_of_module : Said → List ℕ → ℕ
number_of_module said name = unwrap_or (module_number said.loads name) 0

abbrev pub with_step : Said → Step → Said
with_step said step = record said { steps = said.steps ++ step ∷ [] }

unfoldable pub with_form : Said → ℕ → Form → Said
with_form said number Blank = said
with_form said number (Workers count) = record said { workers = Some (number_or_0 count) }
with_form said number (Loads name file) = record said { loads = said.loads ++ record { line = number; name = name; file = file } ∷ [] }
with_form said number (Calls worker target args) = with_step said (Call number (number_or_0 worker) (number_of_module said (module_part target)) (export_part target) (map number_or_0 args))
with_form said number (Moves names) = with_step said (Move number (map (number_of_module said) names))
with_form said number (Stacks worker) = with_step said (Stack number (number_or_0 worker))

-- a value where there is no cause
abbrev pub unless : {A : Type 0} → Option Cause → Result A Cause → Result A Cause
unless None value = value
unless (Some cause) value = Err cause

-- what was said once a line says its own, or the first cause why it is refused
abbrev pub after_form : Said → ℕ → Form → Result Said Cause
after_form said number form = unless (form_cause said form) (Ok (with_form said number form))

unfoldable pub after_line : Said → ℕ → List ℕ → Result Said Cause
after_line said number line =
    let text = without_return line in
    unless (text_cause number text) (after_form said number (unwrap_or (form_of (words_of text)) Blank))

-- What was said once all lines said their own, the first of which has this number; or the first line that is refused,
-- and why.
unfoldable pub after_lines : Said → ℕ → List (List ℕ) → Result Said ScriptRefusal
after_lines said number [] = Ok said
after_lines said number (line ∷ lines) = elim (after_line said number line) [
  | Ok next ↦ after_lines next (number + 1) lines
  | Err cause ↦ Err (At number cause)
]

-- the script of what was said
abbrev pub script_said : Said → Script
script_said said = record { workers = workers_of said; loads = said.loads; steps = said.steps }

abbrev pub script_from : Result Said ScriptRefusal → Result Script ScriptRefusal
script_from (Ok said) = Ok (script_said said)
script_from (Err refusal) = Err refusal

-- The script of a text, or its first line that is refused, with the first cause. Lines are counted from 1.
unfoldable pub script_of : List ℕ → Result Script ScriptRefusal
script_of text = script_from (after_lines nothing_said 1 (lines_of text))

-- what is printed of a cause
abbrev pub cause_text : Cause → List ℕ
cause_text Word = codes "word"
cause_text Number = codes "number"
cause_text Module = codes "module"
cause_text Worker = codes "worker"
cause_text Duplicate = codes "duplicate"
cause_text LateLoad = codes "late load"
cause_text TooMany = codes "too many"
cause_text NotText = codes "not text"
cause_text Export = codes "export"
cause_text Args = codes "args"

-- the number of a step's line, counted from 1
abbrev pub line_of : Step → ℕ
line_of (Call line worker «module» export args) = line
line_of (Move line modules) = line
line_of (Stack line worker) = line
