-- What each call, each move of a module and each fresh stack keeps, a run of steps keeps.
use Rattle.std.proofs.Common.{◌≡◌, ℕ, List, [], ◌∷◌, slice_get, Option, Some, None, refl}
use Rattle.std.specs.List.{All}
use Rattle.std.specs.Option.{option_map_or}
use Rattle.std.proofs.Math.ListN.{set}
use Rattle.std.proofs.lemmas.List.Elements.{All-head, All-tail}
use Rattle.ad_base.specs.declared.ledger.Kind.TheVariants as kinds
use Rattle.ad_base.specs.declared.place.Place.{Place}
use Rattle.ad_call.specs.declared.call.Call.{Call}
use Rattle.ad_call.specs.Call.{after_call}
use Rattle.ad_lines.specs.declared.ready.ReadyStep.{ReadyStep}
use Rattle.ad_lines.specs.declared.ready.ReadyStep.TheVariants as steps
use Rattle.ad_lines.specs.LineLaws.{line_of}
use Rattle.ad_lines.specs.LineRun.{ModuleState, RunState, after_move, after_step, line_run, move_end, place_after, with_module_moved}
use Rattle.ad_lines.proofs.Kept.{fold-keeps}

-- the run once a module that is there was called
abbrev pub called_run : RunState → ℕ → ModuleState → ℕ → Call → List ℕ → RunState
called_run s n m fuel c args = record { modules = set s.modules n (record { image = m.image; movable = m.movable; book = after_call m.image fuel m.book c args }); stacks = s.stacks; placement = s.placement }

-- the run once a module that is there was moved
abbrev pub moved_run : RunState → ℕ → ℕ → ModuleState → RunState
moved_run s line n m = record {
  modules = set s.modules n (record { image = m.image; movable = place_after m.movable (move_end s.placement.drawn kinds.Code m.movable.pages); book = m.book });
  stacks = s.stacks;
  placement = after_move s.placement line kinds.Code n m.movable;
}

-- the run once a worker whose stack this was has a fresh one
abbrev pub given_run : RunState → ℕ → ℕ → Place → RunState
given_run s line worker stack = record {
  modules = s.modules;
  stacks = set s.stacks worker (place_after stack (move_end s.placement.drawn kinds.Stack stack.pages));
  placement = after_move s.placement line kinds.Stack worker stack;
}

-- each change by a line of which a condition holds keeps a property
pub record IsKept (P : RunState → Type 0) (Q : ℕ → Type 0) : Type 0 where
  pub call : (s : RunState) (n : ℕ) (m : ModuleState) (fuel : ℕ) (c : Call) (args : List ℕ) → slice_get s.modules n ≡ Some m → P s → P (called_run s n m fuel c args)
  pub move : (s : RunState) (line n : ℕ) (m : ModuleState) → Q line → slice_get s.modules n ≡ Some m → P s → P (moved_run s line n m)
  pub stack : (s : RunState) (line worker : ℕ) (stack : Place) → Q line → slice_get s.stacks worker ≡ Some stack → P s → P (given_run s line worker stack)

module _ (P : RunState → Type 0) (Q : ℕ → Type 0) (kept : IsKept P Q) where
  call-on : (fuel : ℕ) (s : RunState) (line worker n export : ℕ) (args : List ℕ) (m : ModuleState) (o : Option Place) → P s → slice_get s.modules n ≡ Some m
      → P (option_map_or (λ stack. let call : Call = record { line = line; worker = worker; export = export; under = m.movable; stack = stack } in called_run s n m fuel call args) o s)
  call-on fuel s line worker n export args m None p there = p
  call-on fuel s line worker n export args m (Some stack) p there =
      let call : Call = record { line = line; worker = worker; export = export; under = m.movable; stack = stack } in
      kept.call s n m fuel call args there p

  call-of : (fuel : ℕ) (s : RunState) (line worker n export : ℕ) (args : List ℕ) (o : Option ModuleState) → P s → slice_get s.modules n ≡ o
      → P (option_map_or (λ m. option_map_or (λ stack. let call : Call = record { line = line; worker = worker; export = export; under = m.movable; stack = stack } in called_run s n m fuel call args) (slice_get s.stacks worker) s) o s)
  call-of fuel s line worker n export args None p there = p
  call-of fuel s line worker n export args (Some m) p there = call-on fuel s line worker n export args m (slice_get s.stacks worker) p there

  move-of : (line : ℕ) (s : RunState) (n : ℕ) (o : Option ModuleState) → Q line → P s → slice_get s.modules n ≡ o → P (option_map_or (λ m. moved_run s line n m) o s)
  move-of line s n None q p there = p
  move-of line s n (Some m) q p there = kept.move s line n m q there p

  stack-of : (line : ℕ) (s : RunState) (worker : ℕ) (o : Option Place) → Q line → P s → slice_get s.stacks worker ≡ o → P (option_map_or (λ stack. given_run s line worker stack) o s)
  stack-of line s worker None q p there = p
  stack-of line s worker (Some stack) q p there = kept.stack s line worker stack q there p

  -- a step keeps it
  pub step-keeps : (fuel : ℕ) (s : RunState) (step : ReadyStep) → Q (line_of step) → P s → P (after_step fuel s step)
  unfolding after_step
  step-keeps fuel s (steps.Call line worker n export args) q p = call-of fuel s line worker n export args (slice_get s.modules n) p refl
  step-keeps fuel s (steps.Move line modules) q p = fold-keeps P (with_module_moved line) (λ t n h. move-of line t n (slice_get t.modules n) q h refl) s modules p
  step-keeps fuel s (steps.Stack line worker) q p = stack-of line s worker (slice_get s.stacks worker) q p refl

  -- and so a run of steps
  pub run-keeps : (fuel : ℕ) (s : RunState) (all : List ReadyStep) → All (λ x. Q (line_of x)) all → P s → P (line_run fuel s all)
  run-keeps fuel s [] each p = p
  run-keeps fuel s (step ∷ rest) each p =
      run-keeps fuel (after_step fuel s step) rest (All-tail (λ x. Q (line_of x)) step rest each)
      (step-keeps fuel s step (All-head (λ x. Q (line_of x)) step rest each) p)
