-- The laws of worlds follow from what holds of every world.
use Rattle.std.proofs.Common.{◌≡◌, ◌≢◌, ℕ, ◌+◌, ◌≤◌, Bool, true, false, cond, ◌&&◌, eqb, List, [], ◌∷◌, length, get_or, Option, Some, None, refl, sym, ap, ◌∙◌, subst, inl, inr, arith, nat_cmp, eq-eqb, ne_eqb, true≢false, length-set}
use Rattle.std.specs.List.{count_by}
use Rattle.std.specs.Option.{option_map, is_some, unwrap_or}
use Rattle.std.specs.FinMap as map
use Rattle.std.proofs.lemmas.Bool.{cases_eq, and_parts}
use Rattle.ad_events.specs.declared.mapping.Status.{Status}
use Rattle.ad_events.specs.declared.mapping.Status.TheVariants.{Fresh, Current, Out, Retired, Gone}
use Rattle.ad_events.specs.declared.mapping.Mapping.{Mapping}
use Rattle.ad_events.specs.declared.event.Event.{Event}
use Rattle.ad_events.specs.declared.event.Event.TheVariants.{Enter, Read, Leave, Map, Switch, Retire, Unmap}
use Rattle.ad_events.specs.Sums.{bit}
use Rattle.ad_events.specs.Mapping.{rank_of}
use Rattle.ad_events.specs.World.{EventWorld, mapping_of, status_of, IsLawful, is_current, ended, map_values, with_status, effect, world_opening, opening_entries, AllDiffer, MayHold, MayBeInside, IsWorld, current_after}
use Rattle.ad_events.specs.WorldLaws.{world_run, AllLawful, OneCurrent, GoesOn, EachGoesOn, NeverBack, NoneGoneInside, unmaps, GoneOnce, NotGoneNever}
use Rattle.ad_events.proofs.RunLemmas.{run-keeps}
use Rattle.ad_events.proofs.SumLemmas.{count_by-cons}
use Rattle.ad_events.proofs.FiniteMaps.{get-insert_same, get-insert_other}
use Rattle.ad_events.proofs.WorldLemmas.{get-map_values, from_status, with_status-is}
use Rattle.ad_events.proofs.Events.{WorldFits-event, current_of}
use Rattle.ad_events.proofs.OpeningWorld.{WorldFits-opening}

length-current_after : (current : List ℕ) (e : Event) → length (current_after current e) ≡ length current
length-current_after current (Enter worker) = refl
length-current_after current (Read worker m p) = refl
length-current_after current (Leave worker) = refl
length-current_after current (Map m p) = refl
length-current_after current (Switch m p) = length-set current m p
length-current_after current (Retire p) = refl
length-current_after current (Unmap p) = refl

pub IsWorld-event : (w : EventWorld) → IsWorld w → (e : Event) → IsLawful w e → IsWorld (effect w e)
IsWorld-event w is e lawful =
    record {
      current = current_after is.current e;
      same = is.same ∙ sym (length-current_after is.current e);
      fits = WorldFits-event is.current w is.same is.fits e lawful;
    }

pub IsWorld-run : (w : EventWorld) → IsWorld w → (events : List Event) → AllLawful w events → IsWorld (world_run w events)
IsWorld-run w is events lawful = run-keeps IsLawful effect IsWorld IsWorld-event w is events lawful

pub IsWorld-opening : (workers : ℕ) (current : List ℕ) → AllDiffer current → IsWorld (world_opening workers current)
IsWorld-opening workers current differ = record { current = current; same = refl; fits = WorldFits-opening current differ }

-- what holds of every world holds after all lawful events
pub after_all_events : (Law : EventWorld → Type 0) → ((w : EventWorld) → IsWorld w → Law w) → (workers : ℕ) (current : List ℕ) (events : List Event) → AllDiffer current → AllLawful (world_opening workers current) events → Law (world_run (world_opening workers current) events)
after_all_events Law law workers current events differ lawful = law _ (IsWorld-run (world_opening workers current) (IsWorld-opening workers current differ) events lawful)

pub one_current : (w : EventWorld) → IsWorld w → OneCurrent w
one_current w is m l = (get_or is.current m 0, is.fits.listed m (let same = is.same in omega arith), λ q found. sym (is.fits.only q m found).1)

none_gone : (o : Option Mapping) → MayBeInside o → option_map (λ x. x.status) o ≢ Some Gone
none_gone None may e = may
none_gone (Some x) may e = subst MayHold (ap (λ o. unwrap_or o Fresh) e) may

pub none_gone_inside : (w : EventWorld) → IsWorld w → NoneGoneInside w
none_gone_inside w is worker p found = none_gone (map.get w.mappings p) (is.fits.held worker p found)

-- ---- what one event makes of one mapping

GoesOn-same : (o p : Option Mapping) → p ≡ o → GoesOn o p
GoesOn-same None p e = subst (GoesOn None) (sym e) tt
GoesOn-same (Some x) p e = subst (GoesOn (Some x)) (sym e) (refl, inl refl)

-- from one status to the next
GoesOn-next : (o p : Option Mapping) (m : ℕ) (s t : Status) → o ≡ Some (mapping_of m s) → p ≡ Some (mapping_of m t) → rank_of t ≡ rank_of s + 1 → GoesOn o p
GoesOn-next o p m s t e f next = subst (λ x. GoesOn x p) (sym e) (subst (GoesOn (Some (mapping_of m s))) (sym f) (refl, inr next))

ended-next : (b : Bool) (x : Mapping) → (b ≡ true → x.status ≡ Current) → GoesOn (Some x) (Some (cond b (mapping_of x.module Out) x))
ended-next true x current = (refl, inr (let rank = ap rank_of (current refl) in omega arith))
ended-next false x current = (refl, inl refl)

GoesOn-ended : (m : ℕ) (o : Option Mapping) → GoesOn o (option_map (ended m) o)
GoesOn-ended m None = tt
GoesOn-ended m (Some x) = ended-next (eqb x.module m && is_current x.status) x (λ both. current_of x.status (and_parts (eqb x.module m) (is_current x.status) both).1)

put-goes_on : (ms : map.FinMap nat_cmp Mapping) (p m : ℕ) (s t : Status) → map.get ms p ≡ Some (mapping_of m s) → rank_of t ≡ rank_of s + 1 → (q : ℕ) → GoesOn (map.get ms q) (map.get (map.insert ms p (mapping_of m t)) q)
put-goes_on ms p m s t is next q =
    elim (cases_eq q p) [
      | inl e ↦ GoesOn-next (map.get ms q) _ m s t (ap (map.get ms) e ∙ is) (get-insert_same ms p (mapping_of m t) q e) next
      | inr apart ↦ GoesOn-same (map.get ms q) _ (get-insert_other ms p (mapping_of m t) q apart)
    ]

status-goes_on : (ms : map.FinMap nat_cmp Mapping) (p : ℕ) (s t : Status) → option_map (λ x. x.status) (map.get ms p) ≡ Some s → rank_of t ≡ rank_of s + 1 → (q : ℕ) → GoesOn (map.get ms q) (map.get (with_status ms p t) q)
status-goes_on ms p s t is next q =
    let was = from_status (map.get ms p) s is in
    subst (λ new. GoesOn (map.get ms q) (map.get new q)) (sym (with_status-is ms p was.0 s t was.1)) (put-goes_on ms p was.0 s t was.1 next q)

pub each_goes_on : (w : EventWorld) → IsWorld w → EachGoesOn w
each_goes_on w is (Enter worker) lawful q = GoesOn-same (map.get w.mappings q) _ refl
each_goes_on w is (Read worker m p) lawful q = GoesOn-same (map.get w.mappings q) _ refl
each_goes_on w is (Leave worker) lawful q = GoesOn-same (map.get w.mappings q) _ refl
each_goes_on w is (Map m p) lawful q =
    elim (cases_eq q p) [
      | inl e ↦
          subst (λ o. GoesOn o (map.get (map.insert w.mappings p (mapping_of m Fresh)) q)) (sym (ap (map.get w.mappings) e ∙ lawful.1))
          (subst (GoesOn None) (sym (get-insert_same w.mappings p (mapping_of m Fresh) q e)) refl)
      | inr apart ↦ GoesOn-same (map.get w.mappings q) _ (get-insert_other w.mappings p (mapping_of m Fresh) q apart)
    ]
each_goes_on w is (Switch m p) lawful q =
    elim (cases_eq q p) [
      | inl e ↦ GoesOn-next (map.get w.mappings q) _ m Fresh Current (ap (map.get w.mappings) e ∙ lawful) (get-insert_same (map_values (ended m) w.mappings) p (mapping_of m Current) q e) refl
      | inr apart ↦
          subst (GoesOn (map.get w.mappings q)) (sym (get-insert_other (map_values (ended m) w.mappings) p (mapping_of m Current) q apart ∙ get-map_values (ended m) w.mappings q))
          (GoesOn-ended m (map.get w.mappings q))
    ]
each_goes_on w is (Retire p) lawful q = status-goes_on w.mappings p Out Retired lawful refl q
each_goes_on w is (Unmap p) lawful q = status-goes_on w.mappings p Retired Gone lawful.0 refl q

-- ---- never back

next-status : (o p : Option Mapping) (s : Status) → GoesOn o p → option_map (λ x. x.status) o ≡ Some s → (t : Status) × (option_map (λ x. x.status) p ≡ Some t) × (rank_of s ≤ rank_of t)
next-status None p s goes e = absurd (true≢false (sym (ap is_some e)))
next-status (Some x) None s goes e = absurd goes
next-status (Some x) (Some y) s goes e =
    let was = ap rank_of (ap (λ o. unwrap_or o Fresh) e) in
    (y.status, refl, elim goes.1 [ inl same ↦ (let now = ap rank_of same in omega arith) | inr next ↦ omega arith ])

never-back : (w : EventWorld) → IsWorld w → (more : List Event) → AllLawful w more → (p : ℕ) (s : Status) → status_of w p ≡ Some s → (t : Status) × (status_of (world_run w more) p ≡ Some t) × (rank_of s ≤ rank_of t)
never-back w is [] lawful p s e = (s, e, omega arith)
never-back w is (x ∷ more) lawful p s e =
    let step = next-status (map.get w.mappings p) (map.get (effect w x).mappings p) s (each_goes_on w is x lawful.0 p) e in
    let rest = never-back (effect w x) (IsWorld-event w is x lawful.0) more lawful.1 p step.0 step.1 in
    let a = step.2 in let b = rest.2 in
    (rest.0, rest.1, omega arith)

pub never_back : (w : EventWorld) → IsWorld w → NeverBack w
never_back w is more lawful p s e = never-back w is more lawful p s e

-- ---- gone once

abbrev is_gone : Status → Bool
is_gone Fresh = false
is_gone Current = false
is_gone Out = false
is_gone Retired = false
is_gone Gone = true

-- 1 where there is a mapping and it is gone, else 0
abbrev gone : Option Mapping → ℕ
gone None = 0
gone (Some x) = bit (is_gone x.status)

gone-cond : (b : Bool) (x : Mapping) → (b ≡ true → x.status ≡ Current) → bit (is_gone (cond b (mapping_of x.module Out) x).status) ≡ bit (is_gone x.status)
gone-cond true x current = ap (λ s. bit (is_gone s)) (sym (current refl))
gone-cond false x current = refl

gone-ended : (m : ℕ) (o : Option Mapping) → gone (option_map (ended m) o) ≡ gone o
gone-ended m None = refl
gone-ended m (Some x) = gone-cond (eqb x.module m && is_current x.status) x (λ both. current_of x.status (and_parts (eqb x.module m) (is_current x.status) both).1)

put-gone : (ms : map.FinMap nat_cmp Mapping) (p : ℕ) (x : Mapping) (q : ℕ) → gone (map.get ms p) ≡ 0 → is_gone x.status ≡ false → gone (map.get (map.insert ms p x) q) ≡ gone (map.get ms q)
put-gone ms p x q was is =
    elim (cases_eq q p) [
      | inl e ↦ ap gone (get-insert_same ms p x q e) ∙ ap bit is ∙ sym (ap (λ k. gone (map.get ms k)) e ∙ was)
      | inr apart ↦ ap gone (get-insert_other ms p x q apart)
    ]

-- one event: an unmap makes its mapping gone, and nothing else does
gone-step : (w : EventWorld) (e : Event) → IsLawful w e → (q : ℕ) → bit (unmaps q e) + gone (map.get w.mappings q) ≡ gone (map.get (effect w e).mappings q)
gone-step w (Enter worker) lawful q = omega arith
gone-step w (Read worker m p) lawful q = omega arith
gone-step w (Leave worker) lawful q = omega arith
gone-step w (Map m p) lawful q = let same = put-gone w.mappings p (mapping_of m Fresh) q (ap gone lawful.1) refl in omega arith
gone-step w (Switch m p) lawful q =
    let ms = map_values (ended m) w.mappings in
    let at = λ (k : ℕ). ap gone (get-map_values (ended m) w.mappings k) ∙ gone-ended m (map.get w.mappings k) in
    let same = put-gone ms p (mapping_of m Current) q (at p ∙ ap gone lawful) refl in
    let before = at q in omega arith
gone-step w (Retire p) lawful q =
    let was = from_status (map.get w.mappings p) Out lawful in
    let is = ap (λ ms. gone (map.get ms q)) (with_status-is w.mappings p was.0 Out Retired was.1) in
    let same = put-gone w.mappings p (mapping_of was.0 Retired) q (ap gone was.1) refl in omega arith
gone-step w (Unmap p) lawful q =
    let was = from_status (map.get w.mappings p) Retired lawful.0 in
    let is = ap (λ ms. gone (map.get ms q)) (with_status-is w.mappings p was.0 Retired Gone was.1) in
    elim (cases_eq q p) [
      | inl e ↦
          let one = ap bit (eq-eqb p q (sym e)) in
          let before = ap (λ k. gone (map.get w.mappings k)) e ∙ ap gone was.1 in
          let now = ap gone (get-insert_same w.mappings p (mapping_of was.0 Gone) q e) in omega arith
      | inr apart ↦
          let none = ap bit (ne_eqb p q (λ e. apart (sym e))) in
          let now = ap gone (get-insert_other w.mappings p (mapping_of was.0 Gone) q apart) in omega arith
    ]

gone-run : (w : EventWorld) (events : List Event) → AllLawful w events → (q : ℕ) → count_by (unmaps q) events + gone (map.get w.mappings q) ≡ gone (map.get (world_run w events).mappings q)
gone-run w [] lawful q = omega arith
gone-run w (e ∷ es) lawful q =
    let one = gone-step w e lawful.0 q in
    let rest = gone-run (effect w e) es lawful.1 q in
    omega (arith, count_by-cons (unmaps q) e es)

-- every mapping of the opening is current
opening-gone : (n : ℕ) (ps : List ℕ) (q : ℕ) → gone (map.get (map.from_entries {R = nat_cmp} (opening_entries n ps)) q) ≡ 0
opening-gone n [] q = ap gone (map.get-empty nat_cmp q)
opening-gone n (p ∷ ps) q =
    elim (cases_eq q p) [
      | inl e ↦ ap gone (get-insert_same (map.from_entries (opening_entries (n + 1) ps)) p (mapping_of n Current) q e)
      | inr apart ↦ ap gone (get-insert_other (map.from_entries (opening_entries (n + 1) ps)) p (mapping_of n Current) q apart) ∙ opening-gone (n + 1) ps q
    ]

gone-status : (o : Option Mapping) → option_map (λ x. x.status) o ≡ Some Gone → gone o ≡ 1
gone-status None e = absurd (true≢false (sym (ap is_some e)))
gone-status (Some x) e = ap (λ s. bit (is_gone s)) (ap (λ o. unwrap_or o Fresh) e)

not_gone : (s : Status) → s ≢ Gone → is_gone s ≡ false
not_gone Fresh apart = refl
not_gone Current apart = refl
not_gone Out apart = refl
not_gone Retired apart = refl
not_gone Gone apart = absurd (apart refl)

status-not_gone : (o : Option Mapping) → option_map (λ x. x.status) o ≢ Some Gone → gone o ≡ 0
status-not_gone None apart = refl
status-not_gone (Some x) apart = ap bit (not_gone x.status (λ e. apart (ap (λ s. Some s) e)))

gone-opening : (workers : ℕ) (current : List ℕ) (q : ℕ) → gone (map.get (world_opening workers current).mappings q) ≡ 0
gone-opening workers current q = opening-gone 0 current q

pub gone_once : GoneOnce
gone_once workers current events differ lawful p e =
    let all = gone-run (world_opening workers current) events lawful p in
    let none = gone-opening workers current p in
    let one = gone-status (map.get (world_run (world_opening workers current) events).mappings p) e in omega arith

pub not_gone_never : NotGoneNever
not_gone_never workers current events differ lawful p apart =
    let all = gone-run (world_opening workers current) events lawful p in
    let none = status-not_gone (map.get (world_run (world_opening workers current) events).mappings p) apart in omega arith
