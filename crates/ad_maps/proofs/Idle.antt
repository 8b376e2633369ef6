-- The mover's seat between two calls.
use Rattle.std.proofs.Common.{◌≡◌, ℕ, ◌+◌, ◌<◌, List, [], ◌∷◌, ◌++◌, Result, Ok, Err, IfOk, IfErr, refl, sym, subst}
use Rattle.std.specs.List.{Contains}
use Rattle.ad_maps.specs.declared.shape.Shape.{Shape}
use Rattle.ad_maps.specs.declared.view.Deed.{Deed}
use Rattle.ad_maps.specs.declared.view.Made.{Made}
use Rattle.ad_maps.specs.declared.view.Passing.{Passing}
use Rattle.ad_maps.specs.declared.view.Passing.TheVariants as passing
use Rattle.ad_maps.specs.declared.view.Stage.{Stage}
use Rattle.ad_maps.specs.declared.view.Stage.TheVariants as stage
use Rattle.ad_maps.specs.declared.view.Doing.TheVariants.{Mover}
use Rattle.ad_maps.specs.Steps.{Sat, switching}
use Rattle.ad_maps.specs.Seen.{looks_from}
use Rattle.ad_maps.specs.Private.Handles.{mapped_plan, plan_of, FindsFrame, FindsNone, IsIdle}

module _ (me : Sat) (slots batches : ℕ) (idle : IsIdle me slots batches) where
  -- its plan is another, with no mapping and no batch under way, and it has as many batches as the plan says
  pub goes-idle : (me' : Sat) (batches' : ℕ) {d : Stage} {e : Passing} {n : ℕ} {current rooms : List ℕ} {fresh outs : List Made} {deeds : List Deed}
      → me' ≡ (Mover (record (plan_of me.0) { stage = d; passing = e; batches = n; current = current; fresh = fresh; outs = outs; rooms = rooms; deeds = deeds }), [])
      → d ≡ stage.Idle → e ≡ passing.Rest → batches' ≡ n → ((g : Made) → Contains outs g → n + 1 < 4096) → IsIdle me' slots batches'
  goes-idle me' batches' is none rests number room = subst (λ (m : Sat). IsIdle m slots batches') (sym is) (record {
    mover = refl;
    stage = none;
    passing = rests;
    freed = idle.freed;
    given = idle.given;
    room = room;
    slots_are = idle.slots_are;
    some_slot = idle.some_slot;
    few_slots = idle.few_slots;
    batches_are = number;
    back = idle.back;
  })

  -- it has looked at frames
  pub looked-idle : (me' : Sat) (rooms : List ℕ) (deeds : List Deed) → me' ≡ (Mover (record (plan_of me.0) { rooms = rooms; deeds = deeds }), []) → IsIdle me' slots batches
  looked-idle me' rooms deeds is = goes-idle me' batches is idle.stage idle.passing idle.batches_are idle.room

  pub finds-idle : (shape : Shape) (first frames : ℕ) (found : Result ℕ ℕ) (me' : Sat) → IfOk found (λ frame. FindsFrame shape first frames frame (plan_of me.0) me') → IfErr found (λ owner. FindsNone shape first frames owner (plan_of me.0) me') → IsIdle me' slots batches
  finds-idle shape first frames (Ok frame) me' found none = looked-idle me' (frame ∷ (plan_of me.0).rooms) ((plan_of me.0).deeds ++ looks_from first (found.owners ++ 0 ∷ [])) found.view
  finds-idle shape first frames (Err owner) me' found none = looked-idle me' (plan_of me.0).rooms ((plan_of me.0).deeds ++ looks_from first (none.owners ++ owner ∷ [])) none.view

  -- it has made a mapping
  pub mapped-idle : (me' : Sat) (g : Made) → me' ≡ (Mover (mapped_plan g (plan_of me.0)), []) → IsIdle me' slots batches
  mapped-idle me' g is = goes-idle me' batches is refl idle.passing idle.batches_are idle.room

  -- it has made a mapping current
  pub switched-idle : (me' : Sat) (g : Made) (word : ℕ) → (plan_of me.0).batches + 1 < 4096 → me' ≡ (Mover (switching g (plan_of me.0) word), []) → IsIdle me' slots batches
  switched-idle me' g word room is = goes-idle me' batches is idle.stage idle.passing idle.batches_are (λ o c. room)
