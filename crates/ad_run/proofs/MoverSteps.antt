-- What every move keeps, all steps of a script keep.
use Rattle.std.proofs.Common.{◌≡◌, ℕ, ◌<◌, ◌≤◌, List, [], ◌∷◌, ◌++◌, map, sym, ap, subst, ◌∙◌, append_assoc, append-nil}
use Rattle.std.specs.List.{All, flat_map}
use Rattle.std.proofs.lemmas.List.{map_push}
use Rattle.std.proofs.lemmas.List.Elements.{All-head, All-tail}
use Rattle.ad_base.specs.declared.ledger.Kind.TheVariants as kinds
use Rattle.ad_lines.specs.LineLaws.{MoveRequest, move_request}
use Rattle.ad_maps.specs.declared.shape.Shape.{Shape}
use Rattle.ad_maps.specs.declared.view.Deed.{Deed}
use Rattle.ad_maps.specs.declared.view.Deed.TheVariants as deed
use Rattle.ad_maps.specs.Ledger.{all_made}
use Rattle.ad_mover.specs.Moves.{MakesStep, MakesSteps, MayCome, MovesModules, Moving, Outcome, end_of, retired_by, stack_end, with_outcome, with_stack}
use Rattle.ad_script.specs.declared.script.Step.{Step}
use Rattle.ad_script.specs.declared.script.Step.TheVariants as step
use Rattle.ad_run.proofs.ScriptSteps.{AreMovable, IsMovable, step_requests}

-- the mover at the end of a move line: what waited is retired, and some of it unmapped
abbrev pub with_end : Moving → List Deed → List ℕ → Moving
with_end s waiting numbers = record s { deeds = s.deeds ++ waiting ++ map (λ (n : ℕ). deed.Unmap n) numbers }

-- what each move, each end of a move line and each stack line keeps of the mover, with the retires that wait for the end of a line
pub record IsKept (shape : Shape) (modules workers : ℕ) (P : Moving → List Deed → Type 0) : Type 0 where
  pub moved : (s : Moving) (waiting : List Deed) (line m : ℕ) (o : Outcome) → 1 ≤ line → m < modules → MayCome shape m s.drawn (all_made shape s.deeds) o → P s waiting
      → P (with_outcome shape line m o s) (waiting ++ retired_by line m s.current o)
  pub ended : (s : Moving) (waiting : List Deed) (numbers : List ℕ) → P s waiting → P (with_end s waiting numbers) []
  pub given : (s : Moving) (line worker : ℕ) → 1 ≤ line → worker < workers → P s [] → P (with_stack line worker s) []

module _ (shape : Shape) (modules workers : ℕ) (P : Moving → List Deed → Type 0) (kept : IsKept shape modules workers P) where
  keeps-modules : (line : ℕ) (ms : List ℕ) (s t : Moving) (waiting out : List Deed) → 1 ≤ line → All (λ m. m < modules) ms → MovesModules shape line ms s out t → P s waiting → P t (waiting ++ out)
  keeps-modules line [] s t waiting out some within h p =
      let none : waiting ≡ waiting ++ out = sym (append-nil waiting) ∙ ap (λ (ds : List Deed). waiting ++ ds) (sym h.0) in
      subst (λ u. P u (waiting ++ out)) (sym h.1) (subst (P s) none p)
  keeps-modules line (m ∷ ms) s t waiting out some within h p =
      let o = h.3.outcome in
      let one = kept.moved s waiting line m o some (All-head (λ k. k < modules) m ms within) h.3.may p in
      let first = subst (λ (ds : List Deed). P (with_outcome shape line m o s) (waiting ++ ds)) (sym h.3.out) one in
      let mid = subst (λ u. P u (waiting ++ h.1)) (sym h.3.is) first in
      let rest = keeps-modules line ms h.0 t (waiting ++ h.1) h.2 some (All-tail (λ k. k < modules) m ms within) h.4 mid in
      subst (P t) (append_assoc waiting h.1 h.2 ∙ ap (λ (ds : List Deed). waiting ++ ds) (sym h.5)) rest

  keeps-step : (x : Step) (s t : Moving) → IsMovable modules workers x → MakesStep shape x s t → P s [] → P t []
  keeps-step (step.Call line worker number export args) s t can h p = subst (λ u. P u []) (sym h) p
  keeps-step (step.Move line ms) s t can h p =
      subst (λ u. P u []) (sym h.is) (kept.ended h.switched h.retires h.unmapped (keeps-modules line ms s h.switched [] h.retires can.0 can.1 h.moved p))
  keeps-step (step.Stack line worker) s t can h p = subst (λ u. P u []) (sym h) (kept.given s line worker can.0 can.1 p)

  pub keeps-steps : (script : List Step) (s t : Moving) → AreMovable modules workers script → MakesSteps shape script s t → P s [] → P t []
  keeps-steps [] s t can h p = subst (λ u. P u []) (sym h) p
  keeps-steps (x ∷ script) s t can h p = keeps-steps script h.0 t can.1 h.2 (keeps-step x s h.0 can.0 h.1 p)

-- ---- what was moved

abbrev code_request : ℕ → ℕ → MoveRequest
code_request line m = record { line = line; kind = kinds.Code; who = m }

moved-modules : (shape : Shape) (line : ℕ) (ms : List ℕ) (s t : Moving) (out : List Deed) → MovesModules shape line ms s out t → map move_request t.moves ≡ map move_request s.moves ++ map (code_request line) ms
moved-modules shape line [] s t out h = ap (λ (u : Moving). map move_request u.moves) h.1 ∙ sym (append-nil (map move_request s.moves))
moved-modules shape line (m ∷ ms) s t out h =
    moved-modules shape line ms h.0 t h.2 h.4
    ∙ ap (λ xs. xs ++ map (code_request line) ms)
    (ap (λ (u : Moving). map move_request u.moves) h.3.is ∙ map_push move_request s.moves (record { line = line; kind = kinds.Code; who = m; end = end_of h.3.outcome }))
    ∙ append_assoc (map move_request s.moves) (code_request line m ∷ []) (map (code_request line) ms)

moved-step : (shape : Shape) (x : Step) (s t : Moving) → MakesStep shape x s t → map move_request t.moves ≡ map move_request s.moves ++ step_requests x
moved-step shape (step.Call line worker number export args) s t h = ap (λ (u : Moving). map move_request u.moves) h ∙ sym (append-nil (map move_request s.moves))
moved-step shape (step.Move line ms) s t h = ap (λ (u : Moving). map move_request u.moves) h.is ∙ moved-modules shape line ms s h.switched h.retires h.moved
moved-step shape (step.Stack line worker) s t h =
    ap (λ (u : Moving). map move_request u.moves) h ∙ map_push move_request s.moves (record { line = line; kind = kinds.Stack; who = worker; end = stack_end s.drawn })

-- the steps of a script move what they ask for, in order
pub moved-steps : (shape : Shape) (script : List Step) (s t : Moving) → MakesSteps shape script s t → map move_request t.moves ≡ map move_request s.moves ++ flat_map step_requests script
moved-steps shape [] s t h = ap (λ (u : Moving). map move_request u.moves) h ∙ sym (append-nil (map move_request s.moves))
moved-steps shape (x ∷ script) s t h =
    moved-steps shape script h.0 t h.2
    ∙ ap (λ xs. xs ++ flat_map step_requests script) (moved-step shape x s h.0 h.1)
    ∙ append_assoc (map move_request s.moves) (step_requests x) (flat_map step_requests script)
