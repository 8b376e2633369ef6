-- What the steps of a script ask to move, that it is there, and in which lines.
use Rattle.std.proofs.Common.{◌≡◌, ℕ, ◌<◌, ◌≤◌, List, [], ◌∷◌, ◌++◌, map, length, Option, Some, None, Result, Ok, Err, refl, sym, ap, subst, ◌∙◌}
use Rattle.std.specs.List.{All, flat_map, slice_get}
use Rattle.std.specs.Option.{option_and_then, option_map}
use Rattle.std.proofs.lemmas.List.Elements.{All-head, All-tail}
use Rattle.ad_base.specs.declared.image.Image.{Image}
use Rattle.ad_base.specs.declared.ledger.Kind.TheVariants as kinds
use Rattle.ad_script.specs.declared.script.Step.{Step}
use Rattle.ad_script.specs.declared.script.Step.TheVariants as step
use Rattle.ad_script.specs.Script as scripts
use Rattle.ad_lines.specs.declared.ready.ReadyStep.{ReadyStep}
use Rattle.ad_lines.specs.declared.ready.ReadyStep.TheVariants as ready
use Rattle.ad_lines.specs.LineLaws.{MoveRequest, line_of, move_requests}
use Rattle.ad_lines.specs.Ready.{IsRunnable, export_number, ready_step, ready_steps, resolved}

-- what a step moves, in order
abbrev pub step_requests : Step → List MoveRequest
step_requests (step.Call line worker «module» export args) = []
step_requests (step.Move line modules) = map (λ m. record { line = line; kind = kinds.Code; who = m }) modules
step_requests (step.Stack line worker) = record { line = line; kind = kinds.Stack; who = worker } ∷ []

-- what a step moves is there, among so many modules and workers, and lines count from 1
abbrev pub IsMovable : ℕ → ℕ → Step → Type 0
IsMovable modules workers (step.Call line worker «module» export args) = Unit {0}
IsMovable modules workers (step.Move line members) = (1 ≤ line) × All (λ m. m < modules) members
IsMovable modules workers (step.Stack line worker) = (1 ≤ line) × (worker < workers)

abbrev pub AreMovable : ℕ → ℕ → List Step → Type 0
AreMovable modules workers [] = Unit {0}
AreMovable modules workers (s ∷ ss) = IsMovable modules workers s × AreMovable modules workers ss

-- a step of a script and the step that it is, once names are resolved
record IsReadyAs (images : List Image) (workers : ℕ) (s : Step) (r : ReadyStep) : Type 0 where
  movable : IsMovable (length images) workers s
  asks : step_requests s ≡ move_requests r
  in_line : scripts.line_of s ≡ line_of r

-- what holds of each call of a line and a worker holds of one that is ready
call-holds : (P : ReadyStep → Type 0) (line worker number : ℕ) (args : List ℕ) (o : Option ℕ) (r : ReadyStep) → ((n : ℕ) → P (ready.Call line worker number n args)) → option_map (λ n. ready.Call line worker number n args) o ≡ Some r → P r
call-holds P line worker number args None r h e = absurd cc
call-holds P line worker number args (Some n) r h e = let same : ready.Call line worker number n args ≡ r = cc in subst P same (h n)

ready-as : (images : List Image) (workers : ℕ) (s : Step) (r : ReadyStep) → ready_step images s ≡ Some r → IsRunnable images workers r → 1 ≤ line_of r → IsReadyAs images workers s r
ready-as images workers (step.Call line worker number export args) r e can some =
    let found = option_and_then (λ i. export_number i export) (slice_get images number) in
    record {
      movable = tt;
      asks = call-holds (λ x. [] ≡ move_requests x) line worker number args found r (λ n. refl) e;
      in_line = call-holds (λ x. line ≡ line_of x) line worker number args found r (λ n. refl) e;
    }
ready-as images workers (step.Move line modules) r e can some =
    let same : ready.Move line modules ≡ r = cc in
    record { movable = (subst (λ x. 1 ≤ line_of x) (sym same) some, subst (IsRunnable images workers) (sym same) can); asks = ap move_requests same; in_line = ap line_of same }
ready-as images workers (step.Stack line worker) r e can some =
    let same : ready.Stack line worker ≡ r = cc in
    record { movable = (subst (λ x. 1 ≤ line_of x) (sym same) some, subst (IsRunnable images workers) (sym same) can); asks = ap move_requests same; in_line = ap line_of same }

-- what holds of the steps of a script whose names are resolved
pub record AreReadyAs (images : List Image) (workers : ℕ) (script : List Step) (steps : List ReadyStep) : Type 0 where
  pub movable : AreMovable (length images) workers script
  pub asks : flat_map step_requests script ≡ flat_map move_requests steps
  pub lines : map scripts.line_of script ≡ map line_of steps

-- the first step and the others
record IsFirst (images : List Image) (s : Step) (rest : List Step) (steps : List ReadyStep) : Type 0 where
  first : ReadyStep
  others : List ReadyStep
  is : ready_step images s ≡ Some first
  are : ready_steps images rest ≡ Ok others
  all : first ∷ others ≡ steps

first-by : (images : List Image) (s : Step) (rest : List Step) (steps : List ReadyStep) (o : Option ReadyStep) (r : Result (List ReadyStep) ℕ) → ready_step images s ≡ o → ready_steps images rest ≡ r → resolved s o r ≡ Ok steps
    → IsFirst images s rest steps
first-by images s rest steps None r is are e = absurd cc
first-by images s rest steps (Some first) (Err line) is are e = absurd cc
first-by images s rest steps (Some first) (Ok others) is are e = record { first = first; others = others; is = is; are = are; all = cc }

first-of : (images : List Image) (s : Step) (rest : List Step) (steps : List ReadyStep) → ready_steps images (s ∷ rest) ≡ Ok steps → IsFirst images s rest steps
unfolding ready_steps
first-of images s rest steps e = first-by images s rest steps (ready_step images s) (ready_steps images rest) refl refl e

none-ready : (images : List Image) (steps : List ReadyStep) → ready_steps images [] ≡ Ok steps → [] ≡ steps
unfolding ready_steps
none-ready images steps e = cc

pub ready-script : (images : List Image) (workers : ℕ) (script : List Step) (steps : List ReadyStep) → ready_steps images script ≡ Ok steps → All (IsRunnable images workers) steps → All (λ s. 1 ≤ line_of s) steps
    → AreReadyAs images workers script steps
ready-script images workers [] steps e can some = let none = none-ready images steps e in record { movable = tt; asks = ap (flat_map move_requests) none; lines = ap (map line_of) none }
ready-script images workers (s ∷ rest) steps e can some =
    let f = first-of images s rest steps e in
    let can_all = subst (All (IsRunnable images workers)) (sym f.all) can in
    let some_all = subst (All (λ x. 1 ≤ line_of x)) (sym f.all) some in
    let one = ready-as images workers s f.first f.is (All-head (IsRunnable images workers) f.first f.others can_all) (All-head (λ x. 1 ≤ line_of x) f.first f.others some_all) in
    let others = ready-script images workers rest f.others f.are (All-tail (IsRunnable images workers) f.first f.others can_all) (All-tail (λ x. 1 ≤ line_of x) f.first f.others some_all) in
    record {
      movable = (one.movable, others.movable);
      asks = (λ j. one.asks j ++ others.asks j) ∙ ap (flat_map move_requests) f.all;
      lines = (λ j. one.in_line j ∷ others.lines j) ∙ ap (map line_of) f.all;
    }
