-- The state of the joined machine: it meets the machine's invariant, and a step more is reached too.
use Rattle.std.proofs.Common.{◌≡◌, ℕ, ◌<◌, [], ◌∷◌, ◌++◌, length, get_or, refl, sym, ap, ◌∙◌, subst, arith}
use Rattle.std.proofs.lemmas.List.{length-map, get_or-map}
use Rattle.ad_events.specs.World.{AllDiffer}
use Rattle.ad_events.specs.OwedInvariant.{IsSized}
use Rattle.ad_events.specs.Reclaim as machine
use Rattle.ad_events.specs.Reclaim.{ReclaimState}
use Rattle.ad_events.specs.ReclaimInvariant.{Holds}
use Rattle.ad_events.specs.ReclaimLaws.{LawfulIfSome}
use Rattle.ad_events.proofs.RunLemmas.{may-append, run-append}
use Rattle.ad_events.proofs.ReclaimRuns.{Holds-opening, Holds-run, lawful-in_both}
use Rattle.ad_maps.specs.declared.shape.Opening.{Opening}
use Rattle.ad_maps.specs.declared.shape.Shape.{Shape}
use Rattle.ad_maps.specs.MapPlace.{no_opening, opening_of, numbers, IsShape}
use Rattle.ad_maps.specs.Rule.{Reached}

pub number_at : (shape : Shape) (m : ℕ) → m < length shape.modules → get_or (numbers shape) m 0 ≡ (opening_of shape m).place.mapping
number_at shape m l = get_or-map (λ (o : Opening). o.place.mapping) shape.modules m no_opening 0 l

pub sized : (shape : Shape) → IsShape shape → IsSized shape.slots shape.workers
sized shape h = let a = h.some_slot in let b = h.few_slots in let c = h.few_workers in record { some_slot = omega arith; few_slots = omega arith; few_seats = omega arith }

pub differ : (shape : Shape) → IsShape shape → AllDiffer (numbers shape)
differ shape h i j before inside same =
    let long = length-map shape.modules (λ (o : Opening). o.place.mapping) in
    h.numbers_differ i j before (omega arith) (sym (number_at shape i (omega arith)) ∙ (same ∙ number_at shape j (omega arith)))

pub holds_of : (shape : Shape) → IsShape shape → (j : ReclaimState) → Reached shape j → Holds j
holds_of shape h j reached =
    let start = machine.reclaim_opening shape.slots shape.workers (numbers shape) in
    subst Holds (sym reached.is) (Holds-run start (Holds-opening shape.slots shape.workers (numbers shape) (sized shape h) (differ shape h)) reached.past reached.may)

pub reached_after : (shape : Shape) (j : ReclaimState) (x : machine.Step) → Reached shape j → machine.MayStep j x → Reached shape (machine.after j x)
reached_after shape j x reached may =
    let start = machine.reclaim_opening shape.slots shape.workers (numbers shape) in record {
      past = reached.past ++ x ∷ [];
      may = may-append machine.MayStep machine.after start reached.past (x ∷ []) reached.may (subst (λ (k : ReclaimState). machine.MayStep k x) reached.is may, tt);
      is = ap (λ (k : ReclaimState). machine.after k x) reached.is ∙ sym (run-append machine.MayStep machine.after start reached.past x);
    }

-- it is the last one made
pub past_after : (shape : Shape) (j : ReclaimState) (x : machine.Step) (reached : Reached shape j) (may : machine.MayStep j x) → (reached_after shape j x reached may).past ≡ reached.past ++ x ∷ []
unfolding reached_after
past_after shape j x reached may = refl

-- a step that may be made is lawful in the world
pub lawful_of : (shape : Shape) → IsShape shape → (j : ReclaimState) → Reached shape j → (x : machine.Step) → machine.MayStep j x → LawfulIfSome j.world (machine.event_of x)
lawful_of shape h j reached x may = (lawful-in_both j (holds_of shape h j reached) x may).0
