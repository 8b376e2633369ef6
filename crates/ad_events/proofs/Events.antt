-- A lawful event keeps what holds of a world.
use Rattle.std.proofs.Common.{◌≡◌, ◌≢◌, ℕ, ◌<◌, Bool, true, false, cond, ◌&&◌, eqb, List, length, get_or, set as put, Option, Some, None, refl, sym, ap, ap₂, ◌∙◌, subst, inl, inr, arith, nat_cmp, eq-eqb, ne_eqb, eqb-true, true≢false, length-set, get_or-set_same, get_or-set_other}
use Rattle.std.specs.Option.{option_map, is_some, IsSome, unwrap_or}
use Rattle.std.specs.FinMap as map
use Rattle.std.specs.FinSet as set
use Rattle.std.proofs.lemmas.Bool.{cases_eq, cases_Bool, and_parts}
use Rattle.ad_events.specs.declared.mapping.Status.{Status}
use Rattle.ad_events.specs.declared.mapping.Status.TheVariants.{Fresh, Current, Out, Retired, Gone}
use Rattle.ad_events.specs.declared.mapping.Mapping.{Mapping}
use Rattle.ad_events.specs.declared.event.Event.{Event}
use Rattle.ad_events.specs.declared.event.Event.TheVariants.{Enter, Read, Leave, Map, Switch, Retire, Unmap}
use Rattle.ad_events.specs.World.{EventWorld, mapping_of, IsLawful, is_current, ended, map_values, with_status, mappings_after, inside_after, entered_after, MayHold, MayBeInside, WorldFits, current_after}
use Rattle.ad_events.proofs.FiniteMaps.{get-insert_same, get-insert_other, get-remove_same, get-remove_other, contains-insert_other, contains-remove_same, contains-remove_other, same_number_map}
use Rattle.ad_events.proofs.WorldLemmas.{get-map_values, same_mapping, from_status, with_status-is, WorldFits-one}

-- a mapping that has another status isn't current
not_current : (o : Option Mapping) (n m : ℕ) (s : Status) → is_current s ≡ false → o ≡ Some (mapping_of n s) → o ≢ Some (mapping_of m Current)
not_current o n m s other is found =
    true≢false (sym (sym other ∙ ap (λ (y : Mapping). is_current y.status) (same_mapping (mapping_of n s) (mapping_of m Current) (sym is ∙ found))))

-- ---- what `ended` leaves

ended-module : (m : ℕ) (x : Mapping) → (ended m x).module ≡ x.module
ended-module m x = elim (eqb x.module m && is_current x.status) as (λ b. (cond b (mapping_of x.module Out) x).module ≡ x.module) [ true ↦ refl | false ↦ refl ]

ended-other : (m n : ℕ) (s : Status) → n ≢ m → ended m (mapping_of n s) ≡ mapping_of n s
ended-other m n s apart = ap (λ b. cond (b && is_current s) (mapping_of n Out) (mapping_of n s)) (ne_eqb n m apart)

pub ended-current : (m n : ℕ) → n ≡ m → ended m (mapping_of n Current) ≡ mapping_of n Out
ended-current m n e = ap (λ b. cond (b && true) (mapping_of n Out) (mapping_of n Current)) (eq-eqb n m e)

ended-stays : (m n : ℕ) (s : Status) → is_current s ≡ false → ended m (mapping_of n s) ≡ mapping_of n s
ended-stays m n s other = elim (eqb n m) as (λ b. cond (b && is_current s) (mapping_of n Out) (mapping_of n s) ≡ mapping_of n s) [ true ↦ ap (λ b. cond b (mapping_of n Out) (mapping_of n s)) other | false ↦ refl ]

-- a mapping that is current after it is one that was current, of another module
ended-back : (m n k : ℕ) (s : Status) → ended m (mapping_of k s) ≡ mapping_of n Current → (mapping_of k s ≡ mapping_of n Current) × (n ≢ m)
ended-back m n k Current e =
    elim (cases_eq k m) [
      | inl same ↦ absurd (true≢false (ap (λ (y : Mapping). is_current y.status) (sym e ∙ ended-current m k same)))
      | inr apart ↦
          let kept = sym (ended-other m k Current apart) ∙ e in
          (kept, λ same. apart (ap (λ (y : Mapping). y.module) kept ∙ same))
    ]
ended-back m n k Fresh e = absurd (true≢false (ap (λ (y : Mapping). is_current y.status) (sym e ∙ ended-stays m k Fresh refl)))
ended-back m n k Out e = absurd (true≢false (ap (λ (y : Mapping). is_current y.status) (sym e ∙ ended-stays m k Out refl)))
ended-back m n k Retired e = absurd (true≢false (ap (λ (y : Mapping). is_current y.status) (sym e ∙ ended-stays m k Retired refl)))
ended-back m n k Gone e = absurd (true≢false (ap (λ (y : Mapping). is_current y.status) (sym e ∙ ended-stays m k Gone refl)))

ended-back_option : (m n : ℕ) (o : Option Mapping) → option_map (ended m) o ≡ Some (mapping_of n Current) → (o ≡ Some (mapping_of n Current)) × (n ≢ m)
ended-back_option m n None e = absurd (true≢false (sym (ap is_some e)))
ended-back_option m n (Some x) e =
    let back = ended-back m n x.module x.status (same_mapping (ended m x) (mapping_of n Current) e) in
    (ap (λ y. Some y) back.0, back.1)

module-option : (m : ℕ) (o : Option Mapping) (y : Mapping) → option_map (ended m) o ≡ Some y → (x : Mapping) × (o ≡ Some x) × (x.module ≡ y.module)
module-option m None y e = absurd (true≢false (sym (ap is_some e)))
module-option m (Some x) y e = (x, refl, sym (ended-module m x) ∙ ap (λ (z : Mapping). z.module) (same_mapping (ended m x) y e))

hold-ended : (b : Bool) (x : Mapping) → (b ≡ true → is_current x.status ≡ true) → MayHold x.status → MayHold (cond b (mapping_of x.module Out) x).status
hold-ended true x current may = tt
hold-ended false x current may = may

inside-ended : (m : ℕ) (o : Option Mapping) → MayBeInside o → MayBeInside (option_map (ended m) o)
inside-ended m None may = may
inside-ended m (Some x) may = hold-ended (eqb x.module m && is_current x.status) x (λ e. (and_parts (eqb x.module m) (is_current x.status) e).1) may

module _ (current : List ℕ) (ms : map.FinMap nat_cmp Mapping) (inside : map.FinMap nat_cmp ℕ) (entered : set.FinSet nat_cmp) (fits : WorldFits current ms inside entered) where
  -- nobody is inside a mapping that may hold none
  nobody : (worker p m : ℕ) (s : Status) → map.get ms p ≡ Some (mapping_of m s) → map.get inside worker ≡ Some p → MayHold s
  nobody worker p m s is found = subst MayBeInside is (fits.held worker p found)

  fits-enter : (worker : ℕ) → map.get inside worker ≡ None → WorldFits current ms inside (set.insert entered worker)
  fits-enter worker free =
      record {
        listed = fits.listed;
        only = fits.only;
        of_module = fits.of_module;
        held = fits.held;
        apart = λ w in_set.
            elim (cases_eq w worker) [
              | inl e ↦ ap (map.get inside) e ∙ free
              | inr other ↦ fits.apart w (sym (contains-insert_other entered worker w other) ∙ in_set)
            ];
      }

  fits-read : (worker m p : ℕ) → map.get ms p ≡ Some (mapping_of m Current) → WorldFits current ms (map.insert inside worker p) (set.remove entered worker)
  fits-read worker m p is =
      record {
        listed = fits.listed;
        only = fits.only;
        of_module = fits.of_module;
        apart = λ w in_set.
            elim (cases_eq w worker) [
              | inl e ↦ absurd (true≢false (sym in_set ∙ contains-remove_same entered worker w e))
              | inr other ↦ get-insert_other inside worker p w other ∙ fits.apart w (sym (contains-remove_other entered worker w other) ∙ in_set)
            ];
        held = λ w q found.
            elim (cases_eq w worker) [
              | inl e ↦
                  let same : p ≡ q = ap (λ o. unwrap_or o p) (sym (get-insert_same inside worker p w e) ∙ found) in
                  subst (λ z. MayBeInside (map.get ms z)) same (subst MayBeInside (sym is) tt)
              | inr other ↦ fits.held w q (sym (get-insert_other inside worker p w other) ∙ found)
            ];
      }

  fits-leave : (worker : ℕ) → WorldFits current ms (map.remove inside worker) entered
  fits-leave worker =
      record {
        listed = fits.listed;
        only = fits.only;
        of_module = fits.of_module;
        apart = λ w in_set.
            elim (cases_eq w worker) [
              | inl e ↦ get-remove_same inside worker w e
              | inr other ↦ get-remove_other inside worker w other ∙ fits.apart w in_set
            ];
        held = λ w q found.
            elim (cases_eq w worker) [
              | inl e ↦ absurd (true≢false (sym (ap is_some (sym (get-remove_same inside worker w e) ∙ found))))
              | inr other ↦ fits.held w q (sym (get-remove_other inside worker w other) ∙ found)
            ];
      }

  fits-map : (m p : ℕ) → m < length current → map.get ms p ≡ None → WorldFits current (map.insert ms p (mapping_of m Fresh)) inside entered
  fits-map m p l absent =
      WorldFits-one current ms (map.insert ms p (mapping_of m Fresh)) inside entered fits p (mapping_of m Fresh)
      (get-insert_same ms p (mapping_of m Fresh) p refl) (λ q other. get-insert_other ms p (mapping_of m Fresh) q other)
      (λ k found. true≢false (sym (ap is_some (sym absent ∙ found)))) refl l (λ worker found. subst MayBeInside absent (fits.held worker p found))

  fits-status : (p m : ℕ) (old new : Status) → map.get ms p ≡ Some (mapping_of m old) → is_current old ≡ false → is_current new ≡ false
      → ((worker : ℕ) → map.get inside worker ≡ Some p → MayHold new) → WorldFits current (with_status ms p new) inside entered
  fits-status p m old new is was will may =
      subst (λ ms'. WorldFits current ms' inside entered) (sym (with_status-is ms p m old new is))
      (WorldFits-one current ms (map.insert ms p (mapping_of m new)) inside entered fits p (mapping_of m new)
      (get-insert_same ms p (mapping_of m new) p refl) (λ q other. get-insert_other ms p (mapping_of m new) q other)
      (λ k. not_current (map.get ms p) m k old was is) will (fits.of_module p (mapping_of m old) is) may)

  module _ (m p : ℕ) (fresh : map.get ms p ≡ Some (mapping_of m Fresh)) where
    new : map.FinMap nat_cmp Mapping
    new = map.insert (map_values (ended m) ms) p (mapping_of m Current)

    new-here : (q : ℕ) → q ≡ p → map.get new q ≡ Some (mapping_of m Current)
    unfolding new
    new-here q e = get-insert_same (map_values (ended m) ms) p (mapping_of m Current) q e

    new-other : (q : ℕ) → q ≢ p → map.get new q ≡ option_map (ended m) (map.get ms q)
    unfolding new
    new-other q apart = get-insert_other (map_values (ended m) ms) p (mapping_of m Current) q apart ∙ get-map_values (ended m) ms q

    below : m < length current
    below = fits.of_module p (mapping_of m Fresh) fresh

    switch-listed : (k : ℕ) → k < length (put current m p) → map.get new (get_or (put current m p) k 0) ≡ Some (mapping_of k Current)
    switch-listed k l =
        let l' : k < length current = (let same = length-set current m p in omega arith) in
        elim (cases_eq k m) [
          | inl e ↦
              new-here (get_or (put current m p) k 0) (ap (λ z. get_or (put current m p) z 0) e ∙ get_or-set_same current m p 0 below)
              ∙ ap (λ z. Some (mapping_of z Current)) (sym e)
          | inr apart ↦
              let old = fits.listed k l' in
              let place = get_or-set_other current m k p 0 apart in
              let other : get_or current k 0 ≢ p = λ e. not_current (map.get ms p) m k Fresh refl fresh (ap (map.get ms) (sym e) ∙ old) in
              ap (map.get new) place ∙ new-other (get_or current k 0) other ∙ ap (option_map (ended m)) old ∙ ap (λ x. Some x) (ended-other m k Current apart)
        ]

    switch-only : (q k : ℕ) → map.get new q ≡ Some (mapping_of k Current) → (k < length (put current m p)) × (get_or (put current m p) k 0 ≡ q)
    switch-only q k found =
        let len = length-set current m p in
        elim (cases_eq q p) [
          | inl e ↦
              let same = ap (λ (y : Mapping). y.module) (same_mapping (mapping_of m Current) (mapping_of k Current) (sym (new-here q e) ∙ found)) in
              let l = below in
              (omega arith, ap (λ z. get_or (put current m p) z 0) (sym same) ∙ get_or-set_same current m p 0 below ∙ sym e)
          | inr apart ↦
              let back = ended-back_option m k (map.get ms q) (sym (new-other q apart) ∙ found) in
              let old = fits.only q k back.0 in
              let l = old.0 in
              (omega arith, get_or-set_other current m k p 0 back.1 ∙ old.1)
        ]

    switch-module : (q : ℕ) (x : Mapping) → map.get new q ≡ Some x → x.module < length (put current m p)
    switch-module q x found =
        let len = length-set current m p in
        elim (cases_eq q p) [
          | inl e ↦ let same = ap (λ (y : Mapping). y.module) (same_mapping (mapping_of m Current) x (sym (new-here q e) ∙ found)) in let l = below in omega arith
          | inr apart ↦
              let old = module-option m (map.get ms q) x (sym (new-other q apart) ∙ found) in
              let l = fits.of_module q old.0 old.1 in let same = old.2 in omega arith
        ]

    switch-held : (worker q : ℕ) → map.get inside worker ≡ Some q → MayBeInside (map.get new q)
    switch-held worker q found =
        elim (cases_eq q p) [
          | inl e ↦ absurd (nobody worker p m Fresh fresh (found ∙ ap (λ z. Some z) e))
          | inr apart ↦ subst MayBeInside (sym (new-other q apart)) (inside-ended m (map.get ms q) (fits.held worker q found))
        ]

    fits-switch : WorldFits (put current m p) (map.insert (map_values (ended m) ms) p (mapping_of m Current)) inside entered
    unfolding new
    fits-switch = record { listed = switch-listed; only = switch-only; of_module = switch-module; apart = fits.apart; held = switch-held }

-- a lawful event keeps what holds of a world
pub WorldFits-event : (current : List ℕ) (w : EventWorld) → w.modules ≡ length current → WorldFits current w.mappings w.inside w.entered → (e : Event) → IsLawful w e → WorldFits (current_after current e) (mappings_after w.mappings e) (inside_after w.inside e) (entered_after w.entered e)
WorldFits-event current w modules fits (Enter worker) lawful = fits-enter current w.mappings w.inside w.entered fits worker lawful.2
WorldFits-event current w modules fits (Read worker m p) lawful = fits-read current w.mappings w.inside w.entered fits worker m p lawful.1
WorldFits-event current w modules fits (Leave worker) lawful = fits-leave current w.mappings w.inside w.entered fits worker
WorldFits-event current w modules fits (Map m p) lawful = fits-map current w.mappings w.inside w.entered fits m p (let l = lawful.0 in omega arith) lawful.1
WorldFits-event current w modules fits (Switch m p) lawful = fits-switch current w.mappings w.inside w.entered fits m p lawful
WorldFits-event current w modules fits (Retire p) lawful =
    let was = from_status (map.get w.mappings p) Out lawful in
    fits-status current w.mappings w.inside w.entered fits p was.0 Out Retired was.1 refl refl (λ _ _. tt)
WorldFits-event current w modules fits (Unmap p) lawful =
    let was = from_status (map.get w.mappings p) Retired lawful.0 in
    fits-status current w.mappings w.inside w.entered fits p was.0 Retired Gone was.1 refl refl (λ worker found. absurd (lawful.1 worker found))

-- the same, where the event is lawful in an equal world
pub WorldFits-after : (current : List ℕ) (w v : EventWorld) → w ≡ v → w.modules ≡ length current → WorldFits current w.mappings w.inside w.entered → (e : Event) → IsLawful v e → WorldFits (current_after current e) (mappings_after w.mappings e) (inside_after w.inside e) (entered_after w.entered e)
WorldFits-after current w v same modules fits e lawful = WorldFits-event current w modules fits e (subst (λ x. IsLawful x e) (sym same) lawful)

-- a mapping that is there is still there after another is put
pub some-kept : (ms : map.FinMap nat_cmp Mapping) (k : ℕ) (v : Mapping) (q : ℕ) → IsSome (map.get ms q) → IsSome (map.get (map.insert ms k v) q)
some-kept ms k v q some =
    elim (cases_eq q k) [
      | inl e ↦ ap is_some (get-insert_same ms k v q e)
      | inr apart ↦ ap is_some (get-insert_other ms k v q apart) ∙ some
    ]

pub current_of : (s : Status) → is_current s ≡ true → s ≡ Current
current_of Fresh e = absurd (true≢false (sym e))
current_of Current e = refl
current_of Out e = absurd (true≢false (sym e))
current_of Retired e = absurd (true≢false (sym e))
current_of Gone e = absurd (true≢false (sym e))

-- a mapping that isn't the current one of the module stays
ended-not : (m : ℕ) (x : Mapping) → (x ≡ mapping_of m Current → ⊥) → ended m x ≡ x
ended-not m x other =
    elim (cases_Bool (eqb x.module m && is_current x.status)) [
      | inl both ↦
          let parts = and_parts (eqb x.module m) (is_current x.status) both in
          absurd (other (ap₂ mapping_of (eqb-true x.module m parts.0) (current_of x.status parts.1)))
      | inr none ↦ ap (λ b. cond b (mapping_of x.module Out) x) none
    ]

ended-not_option : (m : ℕ) (o : Option Mapping) → o ≢ Some (mapping_of m Current) → option_map (ended m) o ≡ o
ended-not_option m None other = refl
ended-not_option m (Some x) other = ap (λ y. Some y) (ended-not m x (λ e. other (ap (λ y. Some y) e)))

-- to put the module's listed mapping out is to put every current mapping of the module out
pub switch-same : (current : List ℕ) (ms : map.FinMap nat_cmp Mapping) (inside : map.FinMap nat_cmp ℕ) (entered : set.FinSet nat_cmp) → WorldFits current ms inside entered → (m p b : ℕ)
    → map.get ms p ≡ Some (mapping_of m Fresh) → b ≡ get_or current m 0
    → map.insert (map.insert ms b (mapping_of m Out)) p (mapping_of m Current) ≡ map.insert (map_values (ended m) ms) p (mapping_of m Current)
switch-same current ms inside entered fits m p b fresh before =
    let listed = ap (map.get ms) before ∙ fits.listed m (fits.of_module p (mapping_of m Fresh) fresh) in
    same_number_map _ _ (λ q.
    elim (cases_eq q p) [
      | inl e ↦ get-insert_same (map.insert ms b (mapping_of m Out)) p (mapping_of m Current) q e ∙ sym (get-insert_same (map_values (ended m) ms) p (mapping_of m Current) q e)
      | inr apart ↦
          get-insert_other (map.insert ms b (mapping_of m Out)) p (mapping_of m Current) q apart
          ∙ elim (cases_eq q b) [
            | inl e ↦
                get-insert_same ms b (mapping_of m Out) q e
                ∙ sym (ap (option_map (ended m)) (ap (map.get ms) e ∙ listed) ∙ ap (λ y. Some y) (ended-current m m refl))
            | inr other ↦
                get-insert_other ms b (mapping_of m Out) q other
                ∙ sym (ended-not_option m (map.get ms q) (λ found. other (sym (fits.only q m found).1 ∙ sym before)))
          ]
          ∙ sym (get-insert_other (map_values (ended m) ms) p (mapping_of m Current) q apart ∙ get-map_values (ended m) ms q)
    ])
