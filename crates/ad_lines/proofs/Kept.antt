-- What every step keeps: the images, and how many modules and stacks there are.
use Rattle.std.proofs.Common.{◌≡◌, ◌≢◌, ◌⊎◌, ℕ, zero, suc, ◌-◌, List, [], ◌∷◌, length, map, fold, get_or, slice_get, Option, Some, None, inl, inr, refl, sym, ap, ◌∙◌, arith}
use Rattle.std.specs.Option.{option_map_or, unwrap_or}
use Rattle.std.specs.Prelude.{slice_index}
use Rattle.std.proofs.Math.ListN.{set}
use Rattle.std.proofs.Math.Seq.{map-set_same}
use Rattle.std.proofs.lemmas.Bool.Decides.{nat_tests}
use Rattle.std.proofs.lemmas.List.{length-set}
use Rattle.std.proofs.lemmas.List.Sums.{sum_by-cons}
use Rattle.std.proofs.lemmas.Option.{unwrap_or-slice_get}
use Rattle.ad_base.specs.declared.ledger.Kind.TheVariants as kinds
use Rattle.ad_base.specs.declared.place.Place.{Place}
use Rattle.ad_call.specs.declared.call.Call.{Call}
use Rattle.ad_call.specs.Call.{after_call}
use Rattle.ad_lines.specs.declared.ready.ReadyStep.{ReadyStep}
use Rattle.ad_lines.specs.declared.ready.ReadyStep.TheVariants as steps
use Rattle.ad_lines.specs.LineRun.{ModuleState, RunState, after_move, after_step, line_run, move_end, place_after, with_module_moved}
use Rattle.ad_lines.specs.Room.{HasRoom, Running, calls_of, images_of, moves_of}

-- what a fold keeps at each step it keeps in all
pub fold-keeps : {A S : Type 0} (P : A → Type 0) (f : A → S → A) → ((a : A) (x : S) → P a → P (f a x)) → (a : A) (xs : List S) → P a → P (fold f a xs)
fold-keeps P f step a [] p = p
fold-keeps P f step a (x ∷ xs) p = fold-keeps P f step (f a x) xs (step a x p)

-- an element that is there is the one that is read
pub read : {A : Type 0} (xs : List A) (n : ℕ) (x d : A) → slice_get xs n ≡ Some x → get_or xs n d ≡ x
read xs n x d there = sym (unwrap_or-slice_get xs n d) ∙ ap (λ o. unwrap_or o d) there

-- a module is replaced by one of the same image
images-set : (ms : List ModuleState) (n : ℕ) (m y : ModuleState) → slice_get ms n ≡ Some m → y.image ≡ m.image → map (λ (x : ModuleState). x.image) (set ms n y) ≡ map (λ (x : ModuleState). x.image) ms
images-set ms n m y there same = map-set_same (λ (x : ModuleState). x.image) ms n y m (same ∙ ap (λ (x : ModuleState). x.image) (sym (read ms n m m there)))

-- what a step keeps
pub record Keeps (s t : RunState) : Type 0 where
  pub images : images_of t ≡ images_of s
  pub stacks : length t.stacks ≡ length s.stacks

keeps-refl : (s : RunState) → Keeps s s
keeps-refl s = record { images = refl; stacks = refl }

keeps-trans : (s t u : RunState) → Keeps s t → Keeps t u → Keeps s u
keeps-trans s t u a b = record { images = b.images ∙ a.images; stacks = b.stacks ∙ a.stacks }

module _ (fuel : ℕ) (s : RunState) (line worker n export : ℕ) (args : List ℕ) where
  call-stack : (m : ModuleState) (o : Option Place) → slice_get s.modules n ≡ Some m
      → Keeps s (option_map_or (λ stack. let call : Call = record { line = line; worker = worker; export = export; under = m.movable; stack = stack } in record { modules = set s.modules n (record { image = m.image; movable = m.movable; book = after_call m.image fuel m.book call args }); stacks = s.stacks; placement = s.placement }) o s)
  call-stack m None there = keeps-refl s
  call-stack m (Some stack) there = record { images = images-set s.modules n m _ there refl; stacks = refl }

  call-module : (o : Option ModuleState) → slice_get s.modules n ≡ o
      → Keeps s (option_map_or (λ m. option_map_or (λ stack. let call : Call = record { line = line; worker = worker; export = export; under = m.movable; stack = stack } in record { modules = set s.modules n (record { image = m.image; movable = m.movable; book = after_call m.image fuel m.book call args }); stacks = s.stacks; placement = s.placement }) (slice_get s.stacks worker) s) o s)
  call-module None there = keeps-refl s
  call-module (Some m) there = call-stack m (slice_get s.stacks worker) there

moved-module : (line : ℕ) (s : RunState) (n : ℕ) (o : Option ModuleState) → slice_get s.modules n ≡ o
    → Keeps s (option_map_or (λ m. record { modules = set s.modules n (record { image = m.image; movable = place_after m.movable (move_end s.placement.drawn kinds.Code m.movable.pages); book = m.book }); stacks = s.stacks; placement = after_move s.placement line kinds.Code n m.movable }) o s)
moved-module line s n None there = keeps-refl s
moved-module line s n (Some m) there = record { images = images-set s.modules n m _ there refl; stacks = refl }

stack-given : (line : ℕ) (s : RunState) (worker : ℕ) (o : Option Place)
    → Keeps s (option_map_or (λ stack. record { modules = s.modules; stacks = set s.stacks worker (place_after stack (move_end s.placement.drawn kinds.Stack stack.pages)); placement = after_move s.placement line kinds.Stack worker stack }) o s)
stack-given line s worker None = keeps-refl s
stack-given line s worker (Some stack) = record { images = refl; stacks = length-set s.stacks worker _ }

pub keeps-step : (fuel : ℕ) (s : RunState) (step : ReadyStep) → Keeps s (after_step fuel s step)
unfolding after_step
keeps-step fuel s (steps.Call line worker n export args) = call-module fuel s line worker n export args (slice_get s.modules n) refl
keeps-step fuel s (steps.Move line modules) = fold-keeps (Keeps s) (with_module_moved line) (λ t n k. keeps-trans s t (with_module_moved line t n) k (moved-module line t n (slice_get t.modules n) refl)) s modules (keeps-refl s)
keeps-step fuel s (steps.Stack line worker) = stack-given line s worker (slice_get s.stacks worker)

pub keeps-run : (fuel : ℕ) (s : RunState) (all : List ReadyStep) → Keeps s (line_run fuel s all)
keeps-run fuel s all = fold-keeps (Keeps s) (after_step fuel) (λ t step k. keeps-trans s t (after_step fuel t step) k (keeps-step fuel t step)) s all (keeps-refl s)

-- one number of a list is lowered
pub lowered : (xs : List ℕ) (n m room : ℕ) → slice_get (set xs n (slice_index xs n - 1)) m ≡ Some room
    → ((m ≡ n) × (slice_get xs m ≡ Some (slice_index xs n)) × (room ≡ slice_index xs n - 1)) ⊎ ((m ≢ n) × (slice_get xs m ≡ Some room))
lowered [] n m room e = absurd cc
lowered (x ∷ xs) zero zero room e = inl (refl, refl, cc)
lowered (x ∷ xs) zero (suc m) room e = inr ((λ h. absurd (omega (arith, h))), e)
lowered (x ∷ xs) (suc n) zero room e = inr ((λ h. absurd (omega (arith, h))), e)
lowered (x ∷ xs) (suc n) (suc m) room e = elim (lowered xs n m room e) [
  | inl h ↦ inl (ap suc h.0, h.1, h.2)
  | inr h ↦ inr ((λ k. h.0 (omega (arith, k))), h.1)
]

-- a call takes the room of one
pub room-after : (fuel move_room : ℕ) (room : List ℕ) (s t : RunState) (line worker n export : ℕ) (args : List ℕ) (rest : List ReadyStep)
    → HasRoom (steps.Call line worker n export args ∷ rest) (record { state = s; fuel = fuel; call_room = room; move_room = move_room })
    → HasRoom rest (record { state = t; fuel = fuel; call_room = set room n (slice_index room n - 1); move_room = move_room })
room-after fuel move_room room s t line worker n export args rest h = record {
  calls = λ m left there. elim (lowered room n m left there) [
    | inl same ↦ let one : calls_of m (steps.Call line worker n export args) ≡ 1 = grind (arith, nat_tests, same.0) in omega (arith, h.calls m (slice_index room n) same.1, sum_by-cons (calls_of m) (steps.Call line worker n export args) rest, one, same.2)
    | inr other ↦ omega (arith, h.calls m left other.1, sum_by-cons (calls_of m) (steps.Call line worker n export args) rest)
  ];
  moves = omega (arith, h.moves, sum_by-cons moves_of (steps.Call line worker n export args) rest);
}

-- room for steps is room for the first
pub first-room : (step : ReadyStep) (rest : List ReadyStep) (r : Running) → HasRoom (step ∷ rest) r → HasRoom (step ∷ []) r
first-room step rest r h = record {
  calls = λ m room there. omega (arith, h.calls m room there, sum_by-cons (calls_of m) step rest, sum_by-cons (calls_of m) step []);
  moves = omega (arith, h.moves, sum_by-cons moves_of step rest, sum_by-cons moves_of step []);
}
