-- The steps of a script that are ready to run.
use Rattle.std.proofs.Common.{◌≡◌, ℕ, zero, suc, ◌+◌, ◌<◌, ◌≤◌, List, [], ◌∷◌, length, map, get_or, slice_get, Option, None, Some, IfSome, Result, Ok, Err, refl, sym, ap, subst, ◌∙◌, arith}
use Rattle.std.specs.List.{All, AllPairs}
use Rattle.std.specs.Option.{option_and_then, option_map}
use Rattle.std.proofs.lemmas.List.{get_or-map, length-map}
use Rattle.std.specs.Prelude.{Bool, position, bytes_eq, nat_lt}
use Rattle.std.specs.List.{position_or_len}
use Rattle.std.proofs.lemmas.Bool.{cond_both, ltb-true}
use Rattle.std.proofs.lemmas.List.Elements.{All-cons, All-head, All-nil, All-same, All-tail, All-weaker}
use Rattle.std.proofs.lemmas.Option.{slice_get_within}
use Rattle.ad_base.specs.declared.image.Export.{Export}
use Rattle.ad_base.specs.declared.image.Image.{Image}
use Rattle.ad_lines.specs.declared.ready.ReadyStep.{ReadyStep}
use Rattle.ad_lines.specs.declared.ready.ReadyStep.TheVariants as ready
use Rattle.ad_lines.specs.LineLaws as lines
use Rattle.ad_lines.specs.Ready.{IsRunnable, export_number, ready_step, ready_steps, resolved}
use Rattle.ad_lines.proofs.Opens.{there}
use Rattle.ad_script.specs.declared.script.Script.{Script}
use Rattle.ad_script.specs.declared.script.Step.{Step}
use Rattle.ad_script.specs.declared.script.Step.TheVariants.{Call, Move, Stack}
use Rattle.ad_script.specs.declared.script.TheConstants.{SCRIPT_LINES}
use Rattle.ad_script.specs.Range.{IsInRange, IsStepInRange}
use Rattle.ad_script.specs.Script.{line_of}

-- a place at which a test passes is within the list
position-within : {A : Type 0} (p : A → Bool) (xs : List A) → IfSome (position p xs) (λ k. k < length xs)
position-within p xs = cond_both (nat_lt (position_or_len p xs) (length xs)) _ _ (λ o. IfSome o (λ k. k < length xs)) (λ e. ltb-true (position_or_len p xs) (length xs) e) (λ e. tt)

module _ (images : List Image) where
  -- the first step and the others, where all are ready
  pub record Splits (s : Step) (ss : List Step) (rs : List ReadyStep) : Type 0 where
    pub first : ReadyStep
    pub others : List ReadyStep
    pub ready_first : ready_step images s ≡ Some first
    pub ready_others : ready_steps images ss ≡ Ok others
    pub all : rs ≡ first ∷ others

  splits-by : (s : Step) (ss : List Step) (rs : List ReadyStep) (o : Option ReadyStep) (r : Result (List ReadyStep) ℕ) → ready_step images s ≡ o → ready_steps images ss ≡ r → resolved s o r ≡ Ok rs → Splits s ss rs
  splits-by s ss rs None r first rest e = absurd cc
  splits-by s ss rs (Some next) (Err line) first rest e = absurd cc
  splits-by s ss rs (Some next) (Ok others) first rest e =
      let same : rs ≡ next ∷ others = cc in
      record { first = next; others = others; ready_first = first; ready_others = rest; all = same }

  splits : (s : Step) (ss : List Step) (rs : List ReadyStep) → ready_steps images (s ∷ ss) ≡ Ok rs → Splits s ss rs
  unfolding ready_steps
  splits s ss rs e = splits-by s ss rs (ready_step images s) (ready_steps images ss) refl refl e

  none-ready : (rs : List ReadyStep) → ready_steps images [] ≡ Ok rs → rs ≡ []
  unfolding ready_steps
  none-ready rs e = cc

  -- a step that is ready has its line
  export-line : (line worker n : ℕ) (args : List ℕ) (o : Option ℕ) (r : ReadyStep) → option_map (λ number. ready.Call line worker n number args) o ≡ Some r → lines.line_of r ≡ line
  export-line line worker n args None r e = absurd cc
  export-line line worker n args (Some number) r e = let same : ready.Call line worker n number args ≡ r = cc in sym (ap lines.line_of same)

  line-stays : (s : Step) (r : ReadyStep) → ready_step images s ≡ Some r → lines.line_of r ≡ line_of s
  line-stays (Call line worker n export args) r e = export-line line worker n args (option_and_then (λ i. export_number i export) (slice_get images n)) r e
  line-stays (Move line modules) r e = let same : ready.Move line modules ≡ r = cc in sym (ap lines.line_of same)
  line-stays (Stack line worker) r e = let same : ready.Stack line worker ≡ r = cc in sym (ap lines.line_of same)

  -- and so all have
  pub lines-stay : (ss : List Step) (rs : List ReadyStep) → ready_steps images ss ≡ Ok rs → map lines.line_of rs ≡ map line_of ss
  lines-stay [] rs e = ap (map lines.line_of) (none-ready rs e)
  lines-stay (s ∷ ss) rs e =
      let h = splits s ss rs e in
      ap (map lines.line_of) h.all ∙ (λ j. line-stays s h.first h.ready_first j ∷ lines-stay ss h.others h.ready_others j)

  -- a call that is ready finds its module and its export
  export-runnable : (workers line worker n : ℕ) (args : List ℕ) (i : Image) (o : Option ℕ) (r : ReadyStep) → slice_get images n ≡ Some i → worker < workers
      → IfSome o (λ number. number < length i.exports) → option_map (λ number. ready.Call line worker n number args) o ≡ Some r → IsRunnable images workers r
  export-runnable workers line worker n args i None r at below fits e = absurd cc
  export-runnable workers line worker n args i (Some number) r at below fits e =
      let same : ready.Call line worker n number args ≡ r = cc in
      let found : IfSome (slice_get images n) (λ x. number < length x.exports) = subst (λ o. IfSome o (λ x. number < length x.exports)) (sym at) fits in
      subst (IsRunnable images workers) same (below, found, slice_get_within images n i at)

  call-runnable : (workers line worker n : ℕ) (export args : List ℕ) (o : Option Image) (r : ReadyStep) → slice_get images n ≡ o → worker < workers → option_map (λ number. ready.Call line worker n number args) (option_and_then (λ i. export_number i export) o) ≡ Some r → IsRunnable images workers r
  call-runnable workers line worker n export args None r at below e = absurd cc
  call-runnable workers line worker n export args (Some i) r at below e =
      export-runnable workers line worker n args i (export_number i export) r at below (position-within (λ (x : Export). bytes_eq x.name export) i.exports) e

  runnable : (workers loads : ℕ) (s : Step) (r : ReadyStep) → loads ≤ length images → IsStepInRange workers loads s → ready_step images s ≡ Some r → IsRunnable images workers r
  runnable workers loads (Call line worker n export args) r enough range e = call-runnable workers line worker n export args (slice_get images n) r refl range.caller e
  runnable workers loads (Move line modules) r enough range e =
      let same : ready.Move line modules ≡ r = cc in
      let all : All (λ m. m < length images) modules = All-weaker (λ m. m < loads) (λ m. m < length images) (λ m h. omega arith) modules range.loaded in
      subst (IsRunnable images workers) same all
  runnable workers loads (Stack line worker) r enough range e = let same : ready.Stack line worker ≡ r = cc in subst (IsRunnable images workers) same range

  -- all steps may be run
  pub all-runnable : (workers loads : ℕ) (ss : List Step) (rs : List ReadyStep) → loads ≤ length images → All (IsStepInRange workers loads) ss → ready_steps images ss ≡ Ok rs → All (IsRunnable images workers) rs
  all-runnable workers loads [] rs enough range e = All-same (IsRunnable images workers) rs [] (none-ready rs e) (All-nil (IsRunnable images workers))
  all-runnable workers loads (s ∷ ss) rs enough range e =
      let h = splits s ss rs e in
      let first = runnable workers loads s h.first enough (All-head (IsStepInRange workers loads) s ss range) h.ready_first in
      let rest = all-runnable workers loads ss h.others enough (All-tail (IsStepInRange workers loads) s ss range) h.ready_others in
      All-same (IsRunnable images workers) rs (h.first ∷ h.others) h.all (All-cons (IsRunnable images workers) h.first h.others first rest)

-- what holds of each number that is read of a list is said by the list
line-at : (rs : List ReadyStep) (ss : List Step) (k : ℕ) (d : ReadyStep) (e : Step) → map lines.line_of rs ≡ map line_of ss → k < length rs → lines.line_of (get_or rs k d) ≡ line_of (get_or ss k e)
line-at rs ss k d e same within =
    let long = ap length same in
    let below : k < length ss = omega (arith, within, long, length-map rs lines.line_of, length-map ss line_of) in
    sym (get_or-map lines.line_of rs k d 0 within) ∙ ap (λ xs. get_or xs k 0) same ∙ get_or-map line_of ss k e 0 below

-- a script's steps that are ready may be run, in order of their lines
pub are-steps : (images : List Image) (s : Script) (rs : List ReadyStep) → IsInRange s → length s.loads ≤ length images → ready_steps images s.steps ≡ Ok rs → lines.AreSteps images s.workers rs
are-steps images s rs range enough e =
    let same = lines-stay images s.steps rs e in
    let long : length rs ≡ length s.steps = sym (length-map rs lines.line_of) ∙ ap length same ∙ length-map s.steps line_of in
    record {
      runnable = all-runnable images s.workers (length s.loads) s.steps rs enough range.steps e;
      from_one = λ k d within.
          let step = there s.steps k (omega (arith, within, long)) in
          let at = line-at rs s.steps k d step.0 same within in
          omega (arith, at, (range.step_lines k step.0 (omega (arith, within, long))).0);
      rising = λ i j d low within.
          let step = there s.steps j (omega (arith, within, long)) in
          let first = line-at rs s.steps i d step.0 same (omega (arith, low, within)) in
          let second = line-at rs s.steps j d step.0 same within in
          omega (arith, first, second, range.steps_rise i j step.0 low (omega (arith, within, long)));
    }

-- lines that rise from 1 are at least as great as how many there are
at-least : (ss : List Step) (d : Step) → AllPairs (λ step later. line_of step < line_of later) ss → All (λ step. (1 ≤ line_of step) × (line_of step ≤ SCRIPT_LINES)) ss → (k : ℕ) → k < length ss → k + 1 ≤ line_of (get_or ss k d)
at-least ss d rise bounds zero within = omega (arith, (bounds 0 d within).0)
at-least ss d rise bounds (suc k) within =
    let before = at-least ss d rise bounds k (omega (arith, within)) in
    let more = rise k (suc k) d (omega arith) within in
    omega (arith, before, more)

few-by : (n : ℕ) (s : Script) → IsInRange s → length s.steps ≡ n → n ≤ SCRIPT_LINES
few-by zero s range long = omega arith
few-by (suc n) s range long =
    let step = there s.steps n (omega (arith, long)) in
    let low = at-least s.steps step.0 range.steps_rise range.step_lines n (omega (arith, long)) in
    omega (arith, low, (range.step_lines n step.0 (omega (arith, long))).1)

-- there are no more steps than lines
pub few-steps : (images : List Image) (s : Script) (rs : List ReadyStep) → IsInRange s → ready_steps images s.steps ≡ Ok rs → length rs ≤ SCRIPT_LINES
few-steps images s rs range e =
    let same = lines-stay images s.steps rs e in
    let long : length rs ≡ length s.steps = sym (length-map rs lines.line_of) ∙ ap length same ∙ length-map s.steps line_of in
    omega (arith, long, few-by (length s.steps) s range refl)
