-- What a world has after an event: the mapping at a number, its status, who is inside, and who has entered.
use Rattle.std.proofs.Common.{◌≡◌, ◌≢◌, ◌⊎◌, ℕ, ◌+◌, true, false, cond, ◌&&◌, eqb, List, get_or, Option, Some, None, refl, sym, ap, ◌∙◌, inl, inr, arith, nat_cmp}
use Rattle.std.specs.Option.{option_map}
use Rattle.std.specs.Cmp.{nat_cmp_total}
use Rattle.std.specs.FinMap as map
use Rattle.std.specs.FinSet as set
use Rattle.std.proofs.lemmas.Bool.{cases_Bool, and_parts}
use Rattle.ad_events.specs.declared.mapping.Status.{Status}
use Rattle.ad_events.specs.declared.mapping.Status.TheVariants.{Fresh, Current, Out, Retired, Gone}
use Rattle.ad_events.specs.declared.mapping.Mapping.{Mapping}
use Rattle.ad_events.specs.declared.event.Event.TheVariants.{Enter, Read, Leave, Map, Switch, Retire, Unmap}
use Rattle.ad_events.specs.World.{EventWorld, mapping_of, status_of, IsLawful, is_current, ended, map_values, with_status, effect, AllDiffer}
use Rattle.ad_events.specs.WorldLaws.{IsCurrent, OpeningHas}
use Rattle.ad_events.proofs.FiniteMaps.{get-insert_same, get-insert_other, get-remove_same, get-remove_other, contains-insert_same, contains-insert_other, contains-remove_same, contains-remove_other}
use Rattle.ad_events.proofs.WorldLemmas.{get-map_values, from_status, with_status-is}
use Rattle.ad_events.proofs.Events.{current_of, ended-current}
use Rattle.ad_events.proofs.OpeningWorld.{find-listed, find-place}

-- the status of what a map has
abbrev status_in : map.FinMap nat_cmp Mapping → ℕ → Option Status
status_in ms q = option_map (λ x. x.status) (map.get ms q)

-- ---- map

pub map-here : (w : EventWorld) (m p q : ℕ) → q ≡ p → map.get (effect w (Map m p)).mappings q ≡ Some (mapping_of m Fresh)
map-here w m p q e = get-insert_same w.mappings p (mapping_of m Fresh) q e

pub map-other : (w : EventWorld) (m p q : ℕ) → q ≢ p → map.get (effect w (Map m p)).mappings q ≡ map.get w.mappings q
map-other w m p q apart = get-insert_other w.mappings p (mapping_of m Fresh) q apart

-- ---- switch

pub switch-here : (w : EventWorld) (m p q : ℕ) → q ≡ p → map.get (effect w (Switch m p)).mappings q ≡ Some (mapping_of m Current)
switch-here w m p q e = get-insert_same (map_values (ended m) w.mappings) p (mapping_of m Current) q e

pub switch-elsewhere : (w : EventWorld) (m p q : ℕ) → q ≢ p → map.get (effect w (Switch m p)).mappings q ≡ option_map (ended m) (map.get w.mappings q)
switch-elsewhere w m p q apart = get-insert_other (map_values (ended m) w.mappings) p (mapping_of m Current) q apart ∙ get-map_values (ended m) w.mappings q

-- what was current in the module is out
pub switch-out : (w : EventWorld) (m p q : ℕ) → q ≢ p → IsCurrent w m q → map.get (effect w (Switch m p)).mappings q ≡ Some (mapping_of m Out)
switch-out w m p q apart is = switch-elsewhere w m p q apart ∙ ap (option_map (ended m)) is ∙ ap (λ x. Some x) (ended-current m m refl)

ended-cases : (m : ℕ) (x : Mapping) → (ended m x ≡ x) ⊎ ((x.status ≡ Current) × (ended m x ≡ mapping_of x.module Out))
ended-cases m x =
    elim (cases_Bool (eqb x.module m && is_current x.status)) [
      | inl both ↦ inr (current_of x.status (and_parts (eqb x.module m) (is_current x.status) both).1, ap (λ b. cond b (mapping_of x.module Out) x) both)
      | inr none ↦ inl (ap (λ b. cond b (mapping_of x.module Out) x) none)
    ]

option-cases : (m : ℕ) (o : Option Mapping) → (option_map (ended m) o ≡ o) ⊎ ((option_map (λ x. x.status) o ≡ Some Current) × (option_map (λ x. x.status) (option_map (ended m) o) ≡ Some Out))
option-cases m None = inl refl
option-cases m (Some x) =
    elim (ended-cases m x) [
      | inl same ↦ inl (ap (λ y. Some y) same)
      | inr out ↦ inr (ap (λ s. Some s) out.0, ap (λ (y : Mapping). Some y.status) out.1)
    ]

-- every other mapping keeps its status, or was current and is out
pub switch-status : (w : EventWorld) (m p q : ℕ) → q ≢ p → (status_of (effect w (Switch m p)) q ≡ status_of w q) ⊎ ((status_of w q ≡ Some Current) × (status_of (effect w (Switch m p)) q ≡ Some Out))
switch-status w m p q apart =
    let here = ap (option_map (λ x. x.status)) (switch-elsewhere w m p q apart) in
    elim (option-cases m (map.get w.mappings q)) [
      | inl same ↦ inl (here ∙ ap (option_map (λ x. x.status)) same)
      | inr out ↦ inr (out.0, here ∙ out.1)
    ]

-- ---- retire and unmap

with-here : (ms : map.FinMap nat_cmp Mapping) (p : ℕ) (old new : Status) → status_in ms p ≡ Some old → (q : ℕ) → q ≡ p → status_in (with_status ms p new) q ≡ Some new
with-here ms p old new is q e =
    let was = from_status (map.get ms p) old is in
    ap (λ m. status_in m q) (with_status-is ms p was.0 old new was.1) ∙ ap (option_map (λ x. x.status)) (get-insert_same ms p (mapping_of was.0 new) q e)

with-other : (ms : map.FinMap nat_cmp Mapping) (p : ℕ) (old new : Status) → status_in ms p ≡ Some old → (q : ℕ) → q ≢ p → map.get (with_status ms p new) q ≡ map.get ms q
with-other ms p old new is q apart =
    let was = from_status (map.get ms p) old is in
    ap (λ m. map.get m q) (with_status-is ms p was.0 old new was.1) ∙ get-insert_other ms p (mapping_of was.0 new) q apart

pub retire-here : (w : EventWorld) (p : ℕ) → IsLawful w (Retire p) → (q : ℕ) → q ≡ p → status_of (effect w (Retire p)) q ≡ Some Retired
retire-here w p lawful q e = with-here w.mappings p Out Retired lawful q e

pub retire-other : (w : EventWorld) (p : ℕ) → IsLawful w (Retire p) → (q : ℕ) → q ≢ p → map.get (effect w (Retire p)).mappings q ≡ map.get w.mappings q
retire-other w p lawful q apart = with-other w.mappings p Out Retired lawful q apart

pub unmap-here : (w : EventWorld) (p : ℕ) → IsLawful w (Unmap p) → (q : ℕ) → q ≡ p → status_of (effect w (Unmap p)) q ≡ Some Gone
unmap-here w p lawful q e = with-here w.mappings p Retired Gone lawful.0 q e

pub unmap-other : (w : EventWorld) (p : ℕ) → IsLawful w (Unmap p) → (q : ℕ) → q ≢ p → map.get (effect w (Unmap p)).mappings q ≡ map.get w.mappings q
unmap-other w p lawful q apart = with-other w.mappings p Retired Gone lawful.0 q apart

-- both keep the module
pub retire-mapping : (w : EventWorld) (m p : ℕ) → map.get w.mappings p ≡ Some (mapping_of m Out) → (q : ℕ) → q ≡ p → map.get (effect w (Retire p)).mappings q ≡ Some (mapping_of m Retired)
retire-mapping w m p is q e = ap (λ ms. map.get ms q) (with_status-is w.mappings p m Out Retired is) ∙ get-insert_same w.mappings p (mapping_of m Retired) q e

pub unmap-mapping : (w : EventWorld) (m p : ℕ) → map.get w.mappings p ≡ Some (mapping_of m Retired) → (q : ℕ) → q ≡ p → map.get (effect w (Unmap p)).mappings q ≡ Some (mapping_of m Gone)
unmap-mapping w m p is q e = ap (λ ms. map.get ms q) (with_status-is w.mappings p m Retired Gone is) ∙ get-insert_same w.mappings p (mapping_of m Gone) q e

-- the status, where the mapping is the same
pub same-status : (v w : EventWorld) (q : ℕ) → map.get v.mappings q ≡ map.get w.mappings q → status_of v q ≡ status_of w q
same-status v w q e = ap (option_map (λ x. x.status)) e

-- ---- who is inside

pub read-here : (w : EventWorld) (i m p k : ℕ) → k ≡ i → map.get (effect w (Read i m p)).inside k ≡ Some p
read-here w i m p k e = get-insert_same w.inside i p k e

pub read-other : (w : EventWorld) (i m p k : ℕ) → k ≢ i → map.get (effect w (Read i m p)).inside k ≡ map.get w.inside k
read-other w i m p k apart = get-insert_other w.inside i p k apart

pub leave-here : (w : EventWorld) (i k : ℕ) → k ≡ i → map.get (effect w (Leave i)).inside k ≡ None
leave-here w i k e = get-remove_same w.inside i k e

pub leave-other : (w : EventWorld) (i k : ℕ) → k ≢ i → map.get (effect w (Leave i)).inside k ≡ map.get w.inside k
leave-other w i k apart = get-remove_other w.inside i k apart

-- ---- who has entered

pub enter-here : (w : EventWorld) (i k : ℕ) → k ≡ i → set.contains (effect w (Enter i)).entered k ≡ true
enter-here w i k e = contains-insert_same w.entered i k e

pub enter-other : (w : EventWorld) (i k : ℕ) → k ≢ i → set.contains (effect w (Enter i)).entered k ≡ set.contains w.entered k
enter-other w i k apart = contains-insert_other w.entered i k apart

pub entered-here : (w : EventWorld) (i m p k : ℕ) → k ≡ i → set.contains (effect w (Read i m p)).entered k ≡ false
entered-here w i m p k e = contains-remove_same w.entered i k e

pub entered-other : (w : EventWorld) (i m p k : ℕ) → k ≢ i → set.contains (effect w (Read i m p)).entered k ≡ set.contains w.entered k
entered-other w i m p k apart = contains-remove_other w.entered i k apart

-- ---- the opening

pub opening-has : (workers : ℕ) (current : List ℕ) → AllDiffer current → OpeningHas workers current
opening-has workers current differ =
    record {
      given = λ m l. (let place : 0 + m ≡ m = omega arith in map.get-from_entries nat_cmp_total _ (get_or current m 0) ∙ find-listed 0 current differ m l ∙ ap (λ k. Some (mapping_of k Current)) place);
      no_other = λ p x found.
          (let place = find-place 0 current p x (sym (map.get-from_entries nat_cmp_total _ p) ∙ found) in
          let same : 0 + place.0 ≡ place.0 = omega arith in
          (place.0, place.1, place.3, place.2 ∙ ap (λ m. mapping_of m Current) same));
      nobody_entered = λ worker. set.contains-empty nat_cmp worker;
      nobody_inside = λ worker. map.get-empty nat_cmp worker;
    }
