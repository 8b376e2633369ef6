-- The numbers that lines say are in range.
use Rattle.std.proofs.Common.{◌≡◌, ◌≢◌, ℕ, ◌+◌, ◌<◌, ◌≤◌, ◌&&◌, ◌||◌, Bool, true, false, not, List, [], ◌∷◌, ◌++◌, length, map, position, get_or, bytes_eq, Option, None, Some, IfSome, unwrap_or, refl, sym, ap, ◌∙◌, arith, tests, lit≤, lit<}
use Rattle.std.specs.List.{All, AllPairs, list_all, list_any, position_or_len}
use Rattle.std.specs.Option.{is_some}
use Rattle.std.proofs.lemmas.Bool.{true≢false}
use Rattle.std.proofs.lemmas.List.Sums.{fails_before_first}
use Rattle.std.proofs.lemmas.List.{length_push}
use Rattle.std.proofs.lemmas.List.Elements.{All-nil, All-cons, All-push}
use Rattle.std.proofs.lemmas.List.Kept.{AllPairs-cons}
use Rattle.std.proofs.lemmas.List.Quantifiers.{all_pairs_push, position-Some}
use Rattle.std.proofs.lemmas.Slice.Eq.{bytes_eq-Decides}
use Rattle.ad_base.specs.declared.layout.TheConstants.{MODULES, WORKERS}
use Rattle.ad_script.specs.declared.refusal.Cause.{Cause}
use Rattle.ad_script.specs.declared.refusal.Cause.TheVariants.{Word}
use Rattle.ad_script.specs.declared.script.Load.{Load}
use Rattle.ad_script.specs.declared.script.Step.{Step}
use Rattle.ad_script.specs.declared.script.TheConstants.{SCRIPT_LINES}
use Rattle.ad_script.specs.Forms.{Form, is_file_name, is_module_name}
use Rattle.ad_script.specs.Range.{IsStepInRange}
use Rattle.ad_script.specs.Script.{Said, first_cause, form_cause, form_sentences, nothing_said, with_step, has_bad_name, has_bad_number, has_bad_target, has_repeats, has_too_many, is_late, is_loaded, is_past_last_load, lacks_module, lacks_worker, line_of, module_number, number_of_module, repeats, workers_of}

-- no sentence holds where there is no cause
pub none_hold : (rows : List (Bool × Cause)) → first_cause rows ≡ None → All (λ (row : Bool × Cause). row.0 ≡ false) rows
none_hold [] e = All-nil (λ (row : Bool × Cause). row.0 ≡ false)
none_hold ((true, cause) ∷ rows) e = absurd cc
none_hold ((false, cause) ∷ rows) e = All-cons (λ (row : Bool × Cause). row.0 ≡ false) (false, cause) rows refl (none_hold rows e)

-- no sentence holds of a form
pub record IsPassed (said : Said) (form : Form) : Type 0 where
  pub named : has_bad_name form ≡ false
  pub few : has_too_many form ≡ false
  pub early : is_late said form ≡ false
  pub numbered : has_bad_number form ≡ false
  pub worker : lacks_worker said form ≡ false
  pub target : has_bad_target form ≡ false
  pub loaded : lacks_module said form ≡ false
  pub new : repeats said form ≡ false
  pub room : is_past_last_load said form ≡ false

pub is_passed : (said : Said) (form : Form) → form_cause said form ≡ None → IsPassed said form
unfolding form_cause
is_passed said form e =
    let none = none_hold (form_sentences said form) e in
    let d : Bool × Cause = (false, Word) in
    record {
      named = none 0 d (lit< tt);
      few = none 1 d (lit< tt);
      early = none 2 d (lit< tt);
      numbered = none 3 d (lit< tt);
      worker = none 4 d (lit< tt);
      target = none 5 d (lit< tt);
      loaded = none 6 d (lit< tt);
      new = none 7 d (lit< tt);
      room = none 8 d (lit< tt);
    }

-- the module of a name that was loaded
pub found : (loads : List Load) (name : List ℕ) (d : Load) → is_some (module_number loads name) ≡ true
    → (unwrap_or (module_number loads name) 0 < length loads) × (Load.name (get_or loads (unwrap_or (module_number loads name) 0) d) ≡ name)
unfolding module_number
found loads name d e = from (position (λ (l : Load). bytes_eq l.name name) loads) refl e
  where
    from : (o : Option ℕ) → position (λ (l : Load). bytes_eq l.name name) loads ≡ o → is_some o ≡ true
        → (unwrap_or o 0 < length loads) × (Load.name (get_or loads (unwrap_or o 0) d) ≡ name)
    from None is some = absurd cc
    from (Some i) is some =
        let at = position-Some (λ (l : Load). bytes_eq l.name name) loads i d is in
        (at.0, (bytes_eq-Decides (Load.name (get_or loads i d)) name).0 at.1)

pub not_found : (loads : List Load) (name : List ℕ) → is_some (module_number loads name) ≡ false → All (λ (l : Load). l.name ≢ name) loads
unfolding module_number
not_found loads name e = λ i d within.
    let past : length loads ≤ position_or_len (λ (l : Load). bytes_eq l.name name) loads = grind (arith, tests) in
    let differs = fails_before_first (λ (l : Load). bytes_eq l.name name) loads i d (omega arith) in
    λ same. true≢false (sym ((bytes_eq-Decides (Load.name (get_or loads i d)) name).1 same) ∙ differs)

-- names of modules that were loaded, none of them twice, have numbers of modules, none of them twice
pub both : (a b : Bool) → (a && b) ≡ true → (a ≡ true) × (b ≡ true)
both true b e = (refl, e)
both false b e = absurd cc

pub neither : (a b : Bool) → (a || b) ≡ false → (a ≡ false) × (b ≡ false)
neither true b e = absurd cc
neither false b e = (refl, e)

pub negated : (a : Bool) → not a ≡ false → a ≡ true
negated true e = refl
negated false e = absurd cc

pub no_load : Load
no_load = record { line = 0; name = []; file = [] }

module _ (said : Said) where
  pub numbers_in_range : (names : List (List ℕ)) → list_all (is_loaded said) names ≡ true → All (λ m. m < length said.loads) (map (number_of_module said) names)
  numbers_in_range [] e = All-nil (λ m. m < length said.loads)
  numbers_in_range (name ∷ names) e =
      let parts = both (is_loaded said name) _ e in
      All-cons (λ m. m < length said.loads) (number_of_module said name) (map (number_of_module said) names) (found said.loads name no_load parts.0).0 (numbers_in_range names parts.1)

  other_numbers : (name : List ℕ) (names : List (List ℕ)) → is_loaded said name ≡ true → list_all (is_loaded said) names ≡ true → list_any (bytes_eq name) names ≡ false
      → All (λ m. number_of_module said name ≢ m) (map (number_of_module said) names)
  other_numbers name [] loaded e differs = All-nil (λ m. number_of_module said name ≢ m)
  other_numbers name (other ∷ names) loaded e differs =
      let parts = both (is_loaded said other) _ e in
      let tests = neither (bytes_eq name other) _ differs in
      let here : number_of_module said name ≢ number_of_module said other =
      λ same.
      let names_same : name ≡ other = sym (found said.loads name no_load loaded).1 ∙ ap (λ i. Load.name (get_or said.loads i no_load)) same ∙ (found said.loads other no_load parts.0).1 in
      true≢false (sym ((bytes_eq-Decides name other).1 names_same) ∙ tests.0) in
      All-cons (λ m. number_of_module said name ≢ m) (number_of_module said other) (map (number_of_module said) names) here (other_numbers name names loaded parts.1 tests.1)

  pub different_numbers : (names : List (List ℕ)) → list_all (is_loaded said) names ≡ true → has_repeats names ≡ false → AllPairs (λ m n. m ≢ n) (map (number_of_module said) names)
  unfolding has_repeats
  different_numbers [] e new = λ i j d before within. absurd (omega arith)
  different_numbers (name ∷ names) e new =
      let parts = both (is_loaded said name) _ e in
      let tests = neither (list_any (bytes_eq name) names) _ new in
      AllPairs-cons (λ m n. m ≢ n) (number_of_module said name) (map (number_of_module said) names) (other_numbers name names parts.0 parts.1 tests.0) (different_numbers names parts.1 tests.1)

-- What was said before the line of this number.
pub record IsSaidInRange (said : Said) (number : ℕ) : Type 0 where
  pub workers : IfSome said.workers (λ n. (1 ≤ n) × (n ≤ WORKERS))
  pub few_loads : length said.loads ≤ MODULES
  pub names : All (λ (l : Load). is_module_name l.name ≡ true) said.loads
  pub files : All (λ (l : Load). is_file_name l.file ≡ true) said.loads
  pub different_names : AllPairs (λ (l m : Load). l.name ≢ m.name) said.loads
  pub load_lines : All (λ (l : Load). (1 ≤ l.line) × (l.line < number) × (l.line ≤ SCRIPT_LINES)) said.loads
  pub loads_rise : AllPairs (λ (l m : Load). l.line < m.line) said.loads
  pub steps_behind : All (λ step. All (λ (l : Load). l.line < line_of step) said.loads) said.steps
  pub steps_rise : AllPairs (λ step later. line_of step < line_of later) said.steps
  pub step_lines : All (λ step. (1 ≤ line_of step) × (line_of step < number) × (line_of step ≤ SCRIPT_LINES)) said.steps
  pub steps : All (IsStepInRange (workers_of said) (length said.loads)) said.steps

pub nothing_in_range : IsSaidInRange nothing_said 1
nothing_in_range = record {
  workers = tt;
  few_loads = lit≤ tt;
  names = All-nil (λ (l : Load). is_module_name l.name ≡ true);
  files = All-nil (λ (l : Load). is_file_name l.file ≡ true);
  different_names = λ i j d before within. absurd (omega arith);
  load_lines = All-nil (λ (l : Load). (1 ≤ l.line) × (l.line < 1) × (l.line ≤ SCRIPT_LINES));
  loads_rise = λ i j d before within. absurd (omega arith);
  steps_behind = All-nil (λ step. All (λ (l : Load). l.line < line_of step) []);
  steps_rise = λ i j d before within. absurd (omega arith);
  step_lines = All-nil (λ step. (1 ≤ line_of step) × (line_of step < 1) × (line_of step ≤ SCRIPT_LINES));
  steps = All-nil (IsStepInRange 1 0);
}

module _ (said : Said) (number : ℕ) (first : 1 ≤ number) (few : number ≤ SCRIPT_LINES) (h : IsSaidInRange said number) where
  later_loads : All (λ (l : Load). (1 ≤ l.line) × (l.line < number + 1) × (l.line ≤ SCRIPT_LINES)) said.loads
  later_loads = λ i d within. let at = h.load_lines i d within in (at.0, omega (arith, at.1), at.2)

  later_steps : All (λ step. (1 ≤ line_of step) × (line_of step < number + 1) × (line_of step ≤ SCRIPT_LINES)) said.steps
  later_steps = λ i d within. let at = h.step_lines i d within in (at.0, omega (arith, at.1), at.2)

  -- a line that says nothing
  pub after_blank : IsSaidInRange said (number + 1)
  after_blank = record {
    workers = h.workers;
    few_loads = h.few_loads;
    names = h.names;
    files = h.files;
    different_names = h.different_names;
    load_lines = later_loads;
    loads_rise = h.loads_rise;
    steps_behind = h.steps_behind;
    steps_rise = h.steps_rise;
    step_lines = later_steps;
    steps = h.steps;
  }

  -- a line that makes a step
  pub after_step : (step : Step) → line_of step ≡ number → IsStepInRange (workers_of said) (length said.loads) step → IsSaidInRange (with_step said step) (number + 1)
  after_step step line range = record {
    workers = h.workers;
    few_loads = h.few_loads;
    names = h.names;
    files = h.files;
    different_names = h.different_names;
    load_lines = later_loads;
    loads_rise = h.loads_rise;
    steps_behind = All-push (λ s. All (λ (l : Load). l.line < line_of s) said.loads) said.steps step h.steps_behind (λ i d within. omega (arith, (h.load_lines i d within).1, line));
    steps_rise = all_pairs_push (λ s later. line_of s < line_of later) said.steps step h.steps_rise (λ k d within. omega (arith, (h.step_lines k d within).1, line));
    step_lines = All-push (λ s. (1 ≤ line_of s) × (line_of s < number + 1) × (line_of s ≤ SCRIPT_LINES)) said.steps step later_steps (omega (arith, line), omega (arith, line), omega (arith, line));
    steps = All-push (IsStepInRange (workers_of said) (length said.loads)) said.steps step h.steps range;
  }

  -- a line that counts the workers, before any step
  pub after_workers : (n : ℕ) → 1 ≤ n → n ≤ WORKERS → length said.steps ≡ 0 → IsSaidInRange (record said { workers = Some n }) (number + 1)
  after_workers n some most none = record {
    workers = (some, most);
    few_loads = h.few_loads;
    names = h.names;
    files = h.files;
    different_names = h.different_names;
    load_lines = later_loads;
    loads_rise = h.loads_rise;
    steps_behind = h.steps_behind;
    steps_rise = h.steps_rise;
    step_lines = later_steps;
    steps = λ i d within. absurd (omega (arith, none));
  }

  -- a line that loads a module, before any step
  pub after_load : (l : Load) → l.line ≡ number → is_module_name l.name ≡ true → is_file_name l.file ≡ true → All (λ (m : Load). m.name ≢ l.name) said.loads
      → length said.loads < MODULES → length said.steps ≡ 0 → IsSaidInRange (record said { loads = said.loads ++ l ∷ [] }) (number + 1)
  after_load l line name file new room none = record {
    workers = h.workers;
    few_loads = omega (arith, length_push said.loads l);
    names = All-push (λ (m : Load). is_module_name m.name ≡ true) said.loads l h.names name;
    files = All-push (λ (m : Load). is_file_name m.file ≡ true) said.loads l h.files file;
    different_names = all_pairs_push (λ (m n : Load). m.name ≢ n.name) said.loads l h.different_names new;
    load_lines = All-push (λ (m : Load). (1 ≤ m.line) × (m.line < number + 1) × (m.line ≤ SCRIPT_LINES)) said.loads l later_loads (omega (arith, line), omega (arith, line), omega (arith, line));
    loads_rise = all_pairs_push (λ (m n : Load). m.line < n.line) said.loads l h.loads_rise (λ k d within. omega (arith, (h.load_lines k d within).1, line));
    steps_behind = λ i d within. absurd (omega (arith, none));
    steps_rise = h.steps_rise;
    step_lines = later_steps;
    steps = λ i d within. absurd (omega (arith, none));
  }
