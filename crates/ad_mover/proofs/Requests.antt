-- The moves of a script are those that its steps ask for, in order.
use Rattle.std.proofs.Common.{◌≡◌, ℕ, List, [], ◌∷◌, ◌++◌, map, append-nil, append_assoc, sym, ap, ◌∙◌}
use Rattle.std.specs.List.{flat_map}
use Rattle.std.proofs.lemmas.List.{map-append}
use Rattle.ad_base.specs.declared.ledger.Kind.{Kind}
use Rattle.ad_base.specs.declared.ledger.Kind.TheVariants as kinds
use Rattle.ad_maps.specs.declared.shape.Shape.{Shape}
use Rattle.ad_maps.specs.declared.view.Deed.{Deed}
use Rattle.ad_mover.specs.Moves.{end_of, stack_end, MakesStep, MakesSteps, MovesModules, Moving}
use Rattle.ad_mover.specs.Requests.{moved_by, moved_in}
use Rattle.ad_script.specs.declared.script.Step.{Step}
use Rattle.ad_script.specs.declared.script.Step.TheVariants as steps

module _ {A : Type 0} (tell : ℕ → Kind → ℕ → A) (shape : Shape) where
  -- what was moved
  told : Moving → List A
  told s = map (moved_in tell) s.moves

  told-modules : (line : ℕ) (ms : List ℕ) (before after : Moving) (retires : List Deed) → MovesModules shape line ms before retires after → told after ≡ told before ++ map (tell line kinds.Code) ms
  unfolding told
  told-modules line [] before after retires moved = ap told moved.1 ∙ sym (append-nil (told before))
  told-modules line (m ∷ ms) before after retires moved =
      let one : told moved.0 ≡ told before ++ tell line kinds.Code m ∷ [] =
      ap told moved.3.is ∙ map-append (moved_in tell) before.moves (record { line = line; kind = kinds.Code; who = m; end = end_of moved.3.outcome } ∷ []) in
      told-modules line ms moved.0 after moved.2 moved.4
      ∙ (ap (λ (ts : List A). ts ++ map (tell line kinds.Code) ms) one ∙ append_assoc (told before) (tell line kinds.Code m ∷ []) (map (tell line kinds.Code) ms))

  told-step : (step : Step) (before after : Moving) → MakesStep shape step before after → told after ≡ told before ++ moved_by tell step
  unfolding told
  told-step (steps.Call line worker n export args) before after made = ap told made ∙ sym (append-nil (told before))
  told-step (steps.Move line modules) before after made = ap told made.is ∙ told-modules line modules before made.switched made.retires made.moved
  told-step (steps.Stack line worker) before after made =
      ap told made ∙ map-append (moved_in tell) before.moves (record { line = line; kind = kinds.Stack; who = worker; end = stack_end before.drawn } ∷ [])

  -- each step adds what it asks for
  pub told-steps : (list : List Step) (before after : Moving) → MakesSteps shape list before after → map (moved_in tell) after.moves ≡ map (moved_in tell) before.moves ++ flat_map (moved_by tell) list
  unfolding told
  told-steps [] before after made = ap told made ∙ sym (append-nil (told before))
  told-steps (step ∷ list) before after made =
      told-steps list made.0 after made.2
      ∙ (ap (λ (ts : List A). ts ++ flat_map (moved_by tell) list) (told-step step before made.0 made.1) ∙ append_assoc (told before) (moved_by tell step) (flat_map (moved_by tell) list))
