-- The built script is read line by line.
use Rattle.std.proofs.Common.{◌≡◌, ℕ, zero, suc, ◌+◌, ◌/◌, ◌%◌, ◌<◌, ◌≤◌, ◌^◌, ◌==◌, true, false, List, [], ◌∷◌, ◌++◌, length, map, codes, Option, None, Some, Ok, refl, sym, ap, ap₂, subst, ◌∙◌, append_assoc, append-nil, arith, lit≤, flat_map}
use Rattle.std.specs.Fmt.{decimal, digits}
use Rattle.std.specs.List.{All, list_all, list_any, slice_get}
use Rattle.std.specs.Option.{option_map_or}
use Rattle.std.proofs.lemmas.Bool.{le-ltb, lt-leb}
use Rattle.std.proofs.lemmas.List.{flat_map_more, length-map, length_push, map-append}
use Rattle.std.proofs.lemmas.List.Elements.{All-nil, All-push}
use Rattle.std.proofs.lemmas.List.Folds.{list_all-append}
use Rattle.ad_elf.specs.Below.{each, joined}
use Rattle.ad_script.specs.declared.script.Step.{Step}
use Rattle.ad_script.specs.declared.script.Step.TheVariants.{Call}
use Rattle.ad_script.specs.declared.script.TheConstants.{ARGUMENTS, SCRIPT_LINES}
use Rattle.ad_script.specs.Forms.{Calls, Form, Moves, export_part, form_of, is_export_name, is_file_name, is_module_name, is_target, module_part, number_of}
use Rattle.ad_script.specs.Lines.{lines_of, without_return, words_of}
use Rattle.ad_script.specs.Script.{Said, after_line, after_lines, form_cause, has_repeats, is_bad_number, module_number, nothing_said, number_or_0, script_of, text_cause, with_form}
use Rattle.ad_script.proofs.Reading.{script_read}
use Rattle.ad_generator.specs.declared.script.TheConstants.{SCRIPT_WORKERS}
use Rattle.ad_generator.specs.Generated.{IsOfBuilt, generated_loads, generated_script, generated_step, move_of, second_of, step_line}
use Rattle.ad_generator.specs.Modules.{Module, cnt, dev, modules, sum, tab}
use Rattle.ad_generator.specs.Script.{call_line, file_name, line_feed, line_text, load_line, move_line, script_text, second_text, workers_line}
use Rattle.ad_generator.proofs.Numbers.{by_test, number_read, number_word}
use Rattle.ad_generator.proofs.Spaced.{are_words, ended, is_word, line_said, lines_ended, lines_said, spaced}

-- the words of the lines that load, move and call a module
abbrev load_words : Module → List (List ℕ)
load_words m = codes "load" ∷ m.name ∷ file_name m ∷ []

abbrev move_words : Module → List (List ℕ)
move_words m = codes "move" ∷ m.name ∷ []

abbrev target_of : Module → List ℕ
target_of m = m.name ++ codes "." ++ m.export

abbrev seconds_of : Option ℕ → List (List ℕ)
seconds_of second = option_map_or (λ n. decimal n ∷ []) second []

abbrev call_words : ℕ → Module → List (List ℕ)
call_words k m = codes "call" ∷ decimal (k % SCRIPT_WORKERS) ∷ target_of m ∷ decimal k ∷ seconds_of m.second

-- they are so joined in the text
move-line : (m : Module) → move_line m ≡ ended (move_words m)
move-line m = refl

second-line : (front d : List ℕ) (second : Option ℕ) → front ++ d ++ second_text second ++ line_feed ≡ front ++ spaced (d ∷ seconds_of second) ++ line_feed
second-line front d None = ap (λ (x : List ℕ). x ++ line_feed) (append-nil (front ++ d))
second-line front d (Some n) = ap (λ (x : List ℕ). x ++ line_feed) (append_assoc front d (codes " " ++ decimal n))

call-line : (k : ℕ) (m : Module) → call_line k m ≡ ended (call_words k m)
call-line k m =
    second-line (codes "call " ++ decimal (k % SCRIPT_WORKERS) ++ codes " " ++ m.name ++ codes "." ++ m.export ++ codes " ") (decimal k) m.second
    ∙ simp append_assoc refl

-- what was said behind the loads
abbrev said_with : List Step → Said
said_with steps = record { workers = Some SCRIPT_WORKERS; loads = generated_loads; steps = steps }

-- A module of a number, whose name and export are spelled as names are, and which was loaded.
record IsSpoken (j : ℕ) (m : Module) : Type 0 where
  at : slice_get modules j ≡ Some m
  name_word : is_word m.name ≡ true
  target_word : is_word (target_of m) ≡ true
  second_words : are_words (seconds_of m.second) ≡ true
  named : is_module_name m.name ≡ true
  target : is_target (target_of m) ≡ true
  module_first : module_part (target_of m) ≡ m.name
  export_behind : export_part (target_of m) ≡ m.export
  number : module_number generated_loads m.name ≡ Some j
  seconds : map number_or_0 (seconds_of m.second) ≡ second_of m
  seconds_read : list_any is_bad_number (seconds_of m.second) ≡ false
  few : length (seconds_of m.second) ≤ 1

spoken : (j : ℕ) → j < length modules → (m : Module) × IsSpoken j m
unfolding digits is_export_name is_module_name is_target module_number number_of
spoken zero below = (sum, record { at = refl; name_word = refl; target_word = refl; second_words = refl; named = refl; target = refl; module_first = refl; export_behind = refl; number = refl; seconds = refl; seconds_read = refl; few = lit≤ tt })
spoken (suc zero) below = (cnt, record { at = refl; name_word = refl; target_word = refl; second_words = refl; named = refl; target = refl; module_first = refl; export_behind = refl; number = refl; seconds = refl; seconds_read = refl; few = lit≤ tt })
spoken (suc (suc zero)) below = (dev, record { at = refl; name_word = refl; target_word = refl; second_words = refl; named = refl; target = refl; module_first = refl; export_behind = refl; number = refl; seconds = refl; seconds_read = refl; few = lit≤ tt })
spoken (suc (suc (suc zero))) below = (tab, record { at = refl; name_word = refl; target_word = refl; second_words = refl; named = refl; target = refl; module_first = refl; export_behind = refl; number = refl; seconds = refl; seconds_read = refl; few = lit≤ tt })
spoken (suc (suc (suc (suc j)))) below = absurd (omega arith)

-- What line k says behind the loads: its words, and their form, which adds the step.
record IsRead (k : ℕ) : Type 0 where
  words : List (List ℕ)
  text : line_text k ≡ ended words
  are : are_words words ≡ true
  form : Form
  formed : form_of words ≡ Some form
  fine : (steps : List Step) → form_cause (said_with steps) form ≡ None
  means : (steps : List Step) → with_form (said_with steps) (step_line k) form ≡ said_with (steps ++ generated_step k ∷ [])

module _ (steps : List Step) where
  call-fine : (worker target : List ℕ) (args : List (List ℕ)) (w j : ℕ) → number_of worker ≡ Some w → w < SCRIPT_WORKERS → list_any is_bad_number args ≡ false → length args ≤ ARGUMENTS
      → is_target target ≡ true → module_number generated_loads (module_part target) ≡ Some j → form_cause (said_with steps) (Calls worker target args) ≡ None
  unfolding form_cause
  call-fine worker target args w j is small read few named number = rw (le-ltb ARGUMENTS (length args) few, is, read, lt-leb SCRIPT_WORKERS w small, named, number) refl

  move-fine : (name : List ℕ) (j : ℕ) → is_module_name name ≡ true → module_number generated_loads name ≡ Some j → form_cause (said_with steps) (Moves (name ∷ [])) ≡ None
  unfolding form_cause has_repeats
  move-fine name j named number = rw (named, number) refl

-- what is said of the module of a number, if it is this one
of-module : {A : Type 0} (said : Module → A) (none : A) (m : Module) (j : ℕ) → slice_get modules j ≡ Some m → option_map_or said (slice_get modules j) none ≡ said m
of-module said none m j at = rw at refl

below : (j : ℕ) → j % length modules < length modules
below j = omega arith

-- a line that moves a module
module _ (k : ℕ) (last : (k % 8 == 7) ≡ true) where
  abbrev moved : (m : Module) × IsSpoken (k / 8 % length modules) m
  moved = spoken (k / 8 % length modules) (below (k / 8))

  move-step : generated_step k ≡ move_of k (k / 8)
  unfolding generated_step
  move-step = rw last refl

  move-text : line_text k ≡ ended (move_words moved.0)
  unfolding line_text
  move-text = rw last (of-module move_line [] moved.0 (k / 8 % length modules) moved.1.at ∙ move-line moved.0)

  move-means : (steps : List Step) → with_form (said_with steps) (step_line k) (Moves (moved.0.name ∷ [])) ≡ said_with (steps ++ generated_step k ∷ [])
  unfolding with_form
  move-means steps = rw (moved.1.number, move-step) refl

  move-read : IsRead k
  unfolding form_of
  move-read = record {
    words = move_words moved.0;
    text = move-text;
    are = rw moved.1.name_word refl;
    form = Moves (moved.0.name ∷ []);
    formed = refl;
    fine = λ steps. move-fine steps moved.0.name (k / 8 % length modules) moved.1.named moved.1.number;
    means = move-means;
  }

-- a line that calls the export of a module
module _ (k : ℕ) (not_last : (k % 8 == 7) ≡ false) where
  abbrev called : (m : Module) × IsSpoken (k / 2 % length modules) m
  called = spoken (k / 2 % length modules) (below (k / 2))

  call-step : generated_step k ≡ Call (step_line k) (k % SCRIPT_WORKERS) (k / 2 % length modules) called.0.export (k ∷ second_of called.0)
  unfolding generated_step
  call-step = rw (not_last, called.1.at) refl

  call-text : line_text k ≡ ended (call_words k called.0)
  unfolding line_text
  call-text = rw not_last (of-module (call_line k) [] called.0 (k / 2 % length modules) called.1.at ∙ call-line k called.0)

module _ (k : ℕ) (small : k < 2 ^ 64) (not_last : (k % 8 == 7) ≡ false) where
  abbrev m : Module
  m = (called k not_last).0

  abbrev spelled : IsSpoken (k / 2 % length modules) m
  spelled = (called k not_last).1

  abbrev worker : List ℕ
  worker = decimal (k % SCRIPT_WORKERS)

  abbrev arguments : List (List ℕ)
  arguments = decimal k ∷ seconds_of m.second

  worker-small : k % SCRIPT_WORKERS < SCRIPT_WORKERS
  worker-small = omega arith

  worker-read : number_of worker ≡ Some (k % SCRIPT_WORKERS)
  worker-read = number_read (k % SCRIPT_WORKERS) (omega (arith, worker-small))

  call-words : are_words (call_words k m) ≡ true
  call-words = rw (number_word (k % SCRIPT_WORKERS) (omega (arith, worker-small)), spelled.target_word, number_word k small, spelled.second_words) refl

  call-means : (steps : List Step) → with_form (said_with steps) (step_line k) (Calls worker (target_of m) arguments) ≡ said_with (steps ++ generated_step k ∷ [])
  unfolding with_form
  call-means steps = rw (worker-read, spelled.module_first, spelled.number, spelled.export_behind, number_read k small, spelled.seconds, call-step k not_last) refl

  arguments-read : list_any is_bad_number arguments ≡ false
  arguments-read = rw (number_read k small, spelled.seconds_read) refl

  call-read : IsRead k
  unfolding form_of
  call-read = record {
    words = call_words k m;
    text = call-text k not_last;
    are = call-words;
    form = Calls worker (target_of m) arguments;
    formed = refl;
    fine = λ steps. call-fine steps worker (target_of m) arguments (k % SCRIPT_WORKERS) (k / 2 % length modules) worker-read worker-small arguments-read (omega (arith, spelled.few)) spelled.target (rw spelled.module_first spelled.number);
    means = call-means;
  }

line-read : (k : ℕ) → k < 2 ^ 64 → IsRead k
line-read k small = by_test (k % 8 == 7) (move-read k) (call-read k small)

-- the lines before the calls and moves
abbrev header : List (List (List ℕ))
header = (codes "workers" ∷ decimal SCRIPT_WORKERS ∷ []) ∷ map load_words modules

header-words : list_all are_words header ≡ true
unfolding digits
header-words = refl

header-text : script_text 0 ≡ flat_map ended header
unfolding digits joined script_text
header-text = refl

header-said : after_lines nothing_said 1 (map spaced header) ≡ Ok (said_with [])
unfolding after_line after_lines digits form_cause form_of has_repeats is_file_name is_module_name module_number number_of text_cause with_form without_return words_of
header-said = refl

-- the text of so many lines behind the loads has these lines, and they say their steps
record AreRead (n : ℕ) : Type 0 where
  lines : List (List (List ℕ))
  text : script_text n ≡ flat_map ended lines
  are : list_all are_words lines ≡ true
  count : length lines ≡ n + 5
  said : after_lines nothing_said 1 (map spaced lines) ≡ Ok (said_with (each generated_step n))

text-more : (n : ℕ) → script_text (suc n) ≡ script_text n ++ line_text n
unfolding joined script_text
text-more n = sym (append_assoc (workers_line ++ flat_map load_line modules) (joined line_text n) (line_text n))

none-read : AreRead 0
unfolding joined
none-read = record { lines = header; text = header-text; are = header-words; count = refl; said = header-said }

one-read : (n : ℕ) → n + 6 ≤ SCRIPT_LINES → AreRead n → IsRead n → AreRead (suc n)
unfolding joined
one-read n few before here = record {
  lines = before.lines ++ here.words ∷ [];
  text = text-more n ∙ ap₂ (λ (x y : List ℕ). x ++ y) before.text here.text ∙ flat_map_more ended [] before.lines here.words;
  are = list_all-append are_words before.lines (here.words ∷ []) ∙ rw (before.are, here.are) refl;
  count = omega (arith, length_push before.lines here.words, before.count);
  said = rw map-append (lines_said (map spaced before.lines) (spaced here.words) nothing_said (said_with (each generated_step n)) _ 1 (step_line n) before.said (omega (arith, before.count, length-map before.lines spaced))
      (line_said (said_with (each generated_step n)) (step_line n) here.words here.form here.are few here.formed (here.fine (each generated_step n)) ∙ ap Ok (here.means (each generated_step n))));
}

all-read : (n : ℕ) → n + 5 ≤ SCRIPT_LINES → AreRead n
all-read zero few = none-read
all-read (suc n) few = one-read n (omega arith) (all-read n (omega arith)) (line-read n (omega arith))

-- so the script is read
pub generated-is-read : (n : ℕ) → n + 5 ≤ SCRIPT_LINES → script_of (script_text n) ≡ Ok (generated_script n)
generated-is-read n few =
    let read = all-read n few in
    script_read (script_text n) (said_with (each generated_step n)) (ap (λ ls. after_lines nothing_said 1 ls) (ap lines_of read.text ∙ lines_ended read.lines read.are) ∙ read.said)

-- a call is of the export of its module
step-built : (k : ℕ) → IsOfBuilt (generated_step k)
step-built k =
    by_test (k % 8 == 7) (λ last. subst IsOfBuilt (sym (move-step k last)) tt)
    (λ not_last. subst IsOfBuilt (sym (call-step k not_last)) ((called k not_last).0, (called k not_last).1.at, refl))

pub steps-built : (n : ℕ) → All IsOfBuilt (each generated_step n)
unfolding joined
steps-built zero = All-nil IsOfBuilt
steps-built (suc n) = All-push IsOfBuilt (each generated_step n) (generated_step n) (steps-built n) (step-built n)
