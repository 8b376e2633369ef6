-- The calls of a worker, and what they make of its hands.
use Rattle.std.specs.Prelude.{◌≡◌, ◌<◌, ◌≤◌, ◌==◌, ℕ, List, [], ◌∷◌, length, count_by, if◌then◌else◌, slice_get, slice_index, All, IsSomeAnd}
use Rattle.std.specs.List.{flat_map}
use Rattle.ad_base.specs.declared.image.Image.{Image}
use Rattle.ad_lines.specs.declared.ready.ReadyStep.{ReadyStep}
use Rattle.ad_lines.specs.declared.ready.ReadyStep.TheVariants as step
use Rattle.ad_wrapper.specs.declared.hands.Hands.{Hands}
use Rattle.ad_wrapper.specs.declared.hands.Ready.{Ready}
use Rattle.ad_wrapper.specs.declared.shared.Shared.{Shared}
use Rattle.ad_wrapper.specs.Performed.{Performed}

-- what a step makes a worker call
abbrev pub call_of : ℕ → ReadyStep → List Ready
call_of worker (step.Call line caller «module» export args) = if caller == worker then record { line = line; «module» = «module»; export = export; args = args } ∷ [] else []
call_of worker (step.Move line modules) = []
call_of worker (step.Stack line owner) = []

-- the calls of a worker, in order
abbrev pub calls_of_worker : ℕ → List ReadyStep → List Ready
calls_of_worker worker steps = flat_map (call_of worker) steps

-- how many of them are of module m
abbrev pub calls_at : ℕ → List Ready → ℕ
calls_at m calls = count_by (λ (c : Ready). c.«module» == m) calls

-- the modules and the exports of these calls are there
abbrev pub AreThere : List Image → List Ready → Type 0
AreThere images calls = All (λ (c : Ready). IsSomeAnd (slice_get images c.«module») (λ (i : Image). c.export < length i.exports)) calls

-- the draws that are left are enough for these calls
abbrev pub HaveDraws : List ℕ → List Ready → Type 0
HaveDraws left calls = (m : ℕ) → calls_at m calls ≤ slice_index left m

-- the worker made these calls, in order
abbrev pub PerformsAll : Shared → Hands → List Ready → Hands → Type 0
PerformsAll s before [] after = after ≡ before
PerformsAll s before (c ∷ cs) after = (mid : Hands) × Performed s before c mid × PerformsAll s mid cs after
