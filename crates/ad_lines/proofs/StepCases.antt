-- What a step makes of the run, by whether what it names is there.
use Rattle.std.proofs.Common.{◌≡◌, ℕ, List, Option, Some, None, slice_get, refl, ap, ◌∙◌}
use Rattle.std.specs.Option.{option_map_or}
use Rattle.std.proofs.Math.ListN.{set}
use Rattle.ad_base.specs.declared.ledger.Kind.TheVariants.{Code, Stack}
use Rattle.ad_base.specs.declared.place.Place.{Place}
use Rattle.ad_call.specs.declared.call.Call.{Call}
use Rattle.ad_call.specs.Call.{after_call}
use Rattle.ad_lines.specs.LineRun.{ModuleState, RunState, after_move, move_end, place_after, with_call, with_fresh_stack, with_module_moved}

module _ (fuel : ℕ) (s : RunState) (line worker n export : ℕ) (args : List ℕ) where
  -- the call of a module that lies there, on this stack
  abbrev pub call_at : ModuleState → Place → Call
  call_at m stack = record { line = line; worker = worker; export = export; under = m.movable; stack = stack }

  -- the run once it was made
  abbrev pub called : ModuleState → Place → RunState
  called m stack = record { modules = set s.modules n (record { image = m.image; movable = m.movable; book = after_call m.image fuel m.book (call_at m stack) args }); stacks = s.stacks; placement = s.placement }

  -- where the module and the stack are there, the call is made
  pub call-is : (m : ModuleState) (stack : Place) → slice_get s.modules n ≡ Some m → slice_get s.stacks worker ≡ Some stack → with_call fuel s line worker n export args ≡ called m stack
  call-is m stack there here =
      ap (λ (o : Option ModuleState). option_map_or (λ x. option_map_or (λ p. called x p) (slice_get s.stacks worker) s) o s) there
      ∙ ap (λ (o : Option Place). option_map_or (λ p. called m p) o s) here

  call-stack : (P : RunState → Type 0) → P s → (m : ModuleState) → ((stack : Place) → slice_get s.stacks worker ≡ Some stack → P (called m stack))
      → (o : Option Place) → slice_get s.stacks worker ≡ o → P (option_map_or (λ p. called m p) o s)
  call-stack P p m step None here = p
  call-stack P p m step (Some stack) here = step stack here

  call-module : (P : RunState → Type 0) → P s → ((m : ModuleState) (stack : Place) → slice_get s.modules n ≡ Some m → slice_get s.stacks worker ≡ Some stack → P (called m stack))
      → (o : Option ModuleState) → slice_get s.modules n ≡ o → P (option_map_or (λ x. option_map_or (λ p. called x p) (slice_get s.stacks worker) s) o s)
  call-module P p step None there = p
  call-module P p step (Some m) there = call-stack P p m (λ stack here. step m stack there here) (slice_get s.stacks worker) refl

  -- what holds before a call holds after it, if it holds once the call is made
  pub call-keeps : (P : RunState → Type 0) → P s → ((m : ModuleState) (stack : Place) → slice_get s.modules n ≡ Some m → slice_get s.stacks worker ≡ Some stack → P (called m stack)) → P (with_call fuel s line worker n export args)
  call-keeps P p step = call-module P p step (slice_get s.modules n) refl

module _ (line : ℕ) (s : RunState) (n : ℕ) where
  -- the run once the module was moved
  abbrev pub moved_to : ModuleState → RunState
  moved_to m = record { modules = set s.modules n (record { image = m.image; movable = place_after m.movable (move_end s.placement.drawn Code m.movable.pages); book = m.book }); stacks = s.stacks; placement = after_move s.placement line Code n m.movable }

  move-by : (P : RunState → Type 0) → P s → ((m : ModuleState) → slice_get s.modules n ≡ Some m → P (moved_to m)) → (o : Option ModuleState) → slice_get s.modules n ≡ o → P (option_map_or (λ m. moved_to m) o s)
  move-by P p step None there = p
  move-by P p step (Some m) there = step m there

  pub move-keeps : (P : RunState → Type 0) → P s → ((m : ModuleState) → slice_get s.modules n ≡ Some m → P (moved_to m)) → P (with_module_moved line s n)
  move-keeps P p step = move-by P p step (slice_get s.modules n) refl

  -- the run once the worker had a fresh stack
  abbrev pub fresh_at : Place → RunState
  fresh_at stack = record { modules = s.modules; stacks = set s.stacks n (place_after stack (move_end s.placement.drawn Stack stack.pages)); placement = after_move s.placement line Stack n stack }

  fresh-by : (P : RunState → Type 0) → P s → ((stack : Place) → slice_get s.stacks n ≡ Some stack → P (fresh_at stack)) → (o : Option Place) → slice_get s.stacks n ≡ o → P (option_map_or (λ stack. fresh_at stack) o s)
  fresh-by P p step None there = p
  fresh-by P p step (Some stack) there = step stack there

  pub fresh-keeps : (P : RunState → Type 0) → P s → ((stack : Place) → slice_get s.stacks n ≡ Some stack → P (fresh_at stack)) → P (with_fresh_stack line s n)
  fresh-keeps P p step = fresh-by P p step (slice_get s.stacks n) refl
