-- The numbers that a whole text says are in range.
use Rattle.std.proofs.Common.{◌≡◌, ℕ, ◌+◌, ◌<◌, ◌≤◌, ◌==◌, Bool, true, false, not, nat_lt, List, [], ◌∷◌, length, Option, None, Some, IfSome, unwrap_or, Result, Ok, Err, refl, subst, arith, tests, lit≤, bytes_eq, codes, cond, lit<}
use Rattle.std.proofs.lemmas.List.{length-map}
use Rattle.std.specs.List.{list_all}
use Rattle.std.specs.Option.{is_none}
use Rattle.std.proofs.lemmas.Bool.{ltb-false}
use Rattle.ad_base.specs.declared.layout.TheConstants.{MODULES, WORKERS}
use Rattle.ad_script.specs.declared.refusal.Cause.{Cause}
use Rattle.ad_script.specs.declared.refusal.Cause.TheVariants.{NotText, TooMany, Word}
use Rattle.ad_script.specs.declared.refusal.ScriptRefusal.{ScriptRefusal}
use Rattle.ad_script.specs.declared.refusal.ScriptRefusal.TheVariants.{At}
use Rattle.ad_script.specs.declared.script.Script.{Script}
use Rattle.ad_script.specs.declared.script.TheConstants.{ARGUMENTS, SCRIPT_LINES}
use Rattle.ad_script.specs.Forms.{Blank, Calls, Form, Loads, Moves, Stacks, Workers, call_form, export_part, form_of, is_export_name, is_file_name, is_module_name, is_target, load_form, module_part, move_form, stack_form, workers_form}
use Rattle.ad_script.specs.Lines.{is_text_byte, lines_of, without_return, words_of}
use Rattle.ad_script.specs.Range.{IsInRange}
use Rattle.ad_script.specs.Script.{Said, after_form, after_line, after_lines, form_cause, is_bad_number, is_loaded, nothing_said, number_of_module, number_or_0, script_from, script_of, script_said, text_cause, unless, with_form, workers_of}
use Rattle.ad_script.proofs.InRange.{IsSaidInRange, after_blank, after_load, after_step, after_workers, both, different_numbers, found, is_passed, negated, neither, no_load, none_hold, not_found, nothing_in_range, numbers_in_range}

-- a move names some module
module _ (names : List (List ℕ)) where
  no_workers : (rest : List (List ℕ)) → workers_form rest ≡ Some (Moves names) → ⊥
  no_workers [] e = cc
  no_workers (count ∷ []) e = cc
  no_workers (count ∷ more ∷ rest) e = cc

  no_load_form : (rest : List (List ℕ)) → load_form rest ≡ Some (Moves names) → ⊥
  no_load_form [] e = cc
  no_load_form (name ∷ []) e = cc
  no_load_form (name ∷ file ∷ []) e = cc
  no_load_form (name ∷ file ∷ more ∷ rest) e = cc

  no_call : (rest : List (List ℕ)) → call_form rest ≡ Some (Moves names) → ⊥
  no_call [] e = cc
  no_call (worker ∷ []) e = cc
  no_call (worker ∷ target ∷ args) e = cc

  no_stack : (rest : List (List ℕ)) → stack_form rest ≡ Some (Moves names) → ⊥
  no_stack [] e = cc
  no_stack (worker ∷ []) e = cc
  no_stack (worker ∷ more ∷ rest) e = cc

  some_move : (rest : List (List ℕ)) → move_form rest ≡ Some (Moves names) → 1 ≤ length names
  some_move [] e = absurd cc
  some_move (name ∷ rest) e = let same : names ≡ name ∷ rest = cc in rw same (omega arith)

  some_names : (words : List (List ℕ)) → form_of words ≡ Some (Moves names) → 1 ≤ length names
  unfolding form_of
  some_names [] e = absurd cc
  some_names (word ∷ rest) e = from (bytes_eq word (codes "workers")) (bytes_eq word (codes "load")) (bytes_eq word (codes "call")) (bytes_eq word (codes "move")) (bytes_eq word (codes "stack")) e
    where
      from : (w l c m s : Bool) → cond w (workers_form rest) (cond l (load_form rest) (cond c (call_form rest) (cond m (move_form rest) (cond s (stack_form rest) None)))) ≡ Some (Moves names) → 1 ≤ length names
      from true l c m s e = absurd (no_workers rest e)
      from false true c m s e = absurd (no_load_form rest e)
      from false false true m s e = absurd (no_call rest e)
      from false false false true s e = some_move rest e
      from false false false false true e = absurd (no_stack rest e)
      from false false false false false e = absurd cc

-- what is called has the name of an export
target-export : (target : List ℕ) → is_target target ≡ true → is_export_name (export_part target) ≡ true
unfolding is_target
target-export target e = (both (is_module_name (module_part target)) _ e).1

-- no steps were said
no_steps : (n : ℕ) → not (n == 0) ≡ false → n ≡ 0
no_steps n e = grind (arith, tests)

-- A form of which no sentence holds keeps what was said in range.
kept_form : (words : List (List ℕ)) (said : Said) (number : ℕ) (form : Form) → 1 ≤ number → number ≤ SCRIPT_LINES → form_of words ≡ Some form → form_cause said form ≡ None
    → IsSaidInRange said number → IsSaidInRange (with_form said number form) (number + 1)
unfolding with_form
kept_form words said number Blank first few is none h = after_blank said number first few h
kept_form words said number (Workers count) first few is none h =
    let passed = is_passed said (Workers count) none in
    let bad = neither (is_bad_number count) _ passed.numbered in
    let count_bad = neither (nat_lt (number_or_0 count) 1) _ bad.1 in
    after_workers said number first few h (number_or_0 count) (ltb-false (number_or_0 count) 1 count_bad.0) (ltb-false WORKERS (number_or_0 count) count_bad.1) (no_steps (length said.steps) passed.early)
kept_form words said number (Loads name file) first few is none h =
    let passed = is_passed said (Loads name file) none in
    let bad = neither (not (is_module_name name)) _ passed.named in
    let fewer : length said.loads < MODULES = grind (arith, tests, passed.room) in
    after_load said number first few h (record { line = number; name = name; file = file }) refl (negated (is_module_name name) bad.0) (negated (is_file_name file) bad.1) (not_found said.loads name passed.new) fewer (no_steps (length said.steps) passed.early)
kept_form words said number (Calls worker target args) first few is none h =
    let passed = is_passed said (Calls worker target args) none in
    let caller : number_or_0 worker < workers_of said = grind (arith, tests, passed.worker) in
    after_step said number first few h _ refl (record {
      caller = caller;
      loaded = (found said.loads (module_part target) no_load (negated (is_loaded said (module_part target)) passed.loaded)).0;
      named = target-export target (negated (is_target target) passed.target);
      few = omega (arith, length-map args number_or_0, ltb-false ARGUMENTS (length args) passed.few);
    })
kept_form words said number (Moves names) first few is none h =
    let passed = is_passed said (Moves names) none in
    let loaded = negated (list_all (is_loaded said) names) passed.loaded in
    let same = length-map names (number_of_module said) in
    after_step said number first few h _ refl (record {
      some = omega (arith, same, some_names names words is);
      few = omega (arith, same, ltb-false MODULES (length names) passed.few);
      loaded = numbers_in_range said names loaded;
      different = different_numbers said names loaded passed.new;
    })
kept_form words said number (Stacks worker) first few is none h =
    let passed = is_passed said (Stacks worker) none in
    let caller : number_or_0 worker < workers_of said = grind (arith, tests, passed.worker) in
    after_step said number first few h _ refl caller

-- a value behind a cause comes where there is none
pub unless_ok : {A : Type 0} (cause : Option Cause) (value : Result A Cause) (a : A) → unless cause value ≡ Ok a → (cause ≡ None) × (value ≡ Ok a)
unless_ok None value a e = (refl, e)
unless_ok (Some cause) value a e = absurd cc

some_form : (form : Option Form) → is_none form ≡ false → form ≡ Some (unwrap_or form Blank)
some_form None e = absurd cc
some_form (Some form) e = refl

kept_line : (said next : Said) (number : ℕ) (line : List ℕ) → 1 ≤ number → after_line said number line ≡ Ok next → IsSaidInRange said number → IsSaidInRange next (number + 1)
unfolding after_line text_cause
kept_line said next number line first e h =
    let text = without_return line in
    let words = words_of text in
    let form = unwrap_or (form_of words) Blank in
    let read = unless_ok (text_cause number text) (after_form said number form) next e in
    let none = none_hold ((not (list_all is_text_byte text), NotText) ∷ (nat_lt SCRIPT_LINES number, TooMany) ∷ (is_none (form_of words), Word) ∷ []) read.0 in
    let few : number ≤ SCRIPT_LINES = ltb-false SCRIPT_LINES number (none 1 (false, Word) (lit< tt)) in
    let is = some_form (form_of words) (none 2 (false, Word) (lit< tt)) in
    let formed = unless_ok (form_cause said form) (Ok (with_form said number form)) next read.1 in
    let same : with_form said number form ≡ next = cc in
    subst (λ s. IsSaidInRange s (number + 1)) same (kept_form words said number form first few is formed.0 h)

kept_lines : (lines : List (List ℕ)) (said end : Said) (number : ℕ) → 1 ≤ number → after_lines said number lines ≡ Ok end → IsSaidInRange said number → (last : ℕ) × IsSaidInRange end last
unfolding after_lines
kept_lines [] said end number first e h = (number, subst (λ s. IsSaidInRange s number) (let same : said ≡ end = cc in same) h)
kept_lines (line ∷ lines) said end number first e h =
    from (after_line said number line) refl e (λ next. kept_lines lines next end (number + 1) (omega arith))
  where
    from : (o : Result Said Cause) → after_line said number line ≡ o
        → elim o as (λ _. Result Said ScriptRefusal) [ Ok next ↦ after_lines next (number + 1) lines | Err cause ↦ Err (At number cause) ] ≡ Ok end
        → ((next : Said) → after_lines next (number + 1) lines ≡ Ok end → IsSaidInRange next (number + 1) → (last : ℕ) × IsSaidInRange end last) → (last : ℕ) × IsSaidInRange end last
    from (Ok next) is later go = go next later (kept_line said next number line first is h)
    from (Err cause) is later go = absurd cc

-- what a range of all that was said gives of the script
script_in_range : (said : Said) (last : ℕ) → IsSaidInRange said last → IsInRange (script_said said)
script_in_range said last h =
    let workers = counted said.workers h.workers in
    record {
      some_worker = workers.0;
      few_workers = workers.1;
      few_loads = h.few_loads;
      names = h.names;
      files = h.files;
      different_names = h.different_names;
      load_lines = λ i d within. let at = h.load_lines i d within in (at.0, at.2);
      loads_rise = h.loads_rise;
      steps_behind = h.steps_behind;
      steps_rise = h.steps_rise;
      step_lines = λ i d within. let at = h.step_lines i d within in (at.0, at.2);
      steps = h.steps;
    }
  where
    counted : (workers : Option ℕ) → IfSome workers (λ n. (1 ≤ n) × (n ≤ WORKERS)) → (1 ≤ unwrap_or workers 1) × (unwrap_or workers 1 ≤ WORKERS)
    counted None range = (lit≤ tt, lit≤ tt)
    counted (Some n) range = range

pub in_range : (bytes : List ℕ) (s : Script) → script_of bytes ≡ Ok s → IsInRange s
unfolding script_of
in_range bytes s e = from (after_lines nothing_said 1 (lines_of bytes)) refl e
  where
    from : (o : Result Said ScriptRefusal) → after_lines nothing_said 1 (lines_of bytes) ≡ o → script_from o ≡ Ok s → IsInRange s
    from (Ok said) is e =
        let kept = kept_lines (lines_of bytes) nothing_said said 1 (lit≤ tt) is nothing_in_range in
        let same : script_said said ≡ s = cc in
        subst IsInRange same (script_in_range said kept.0 kept.1)
    from (Err r) is e = absurd cc
