-- What an event keeps of a world.
use Rattle.std.proofs.Common.{◌≡◌, ◌≢◌, ℕ, ◌<◌, true, false, cond, List, [], ◌∷◌, map as list_map, length, get_or, Option, Some, None, refl, sym, ap, ◌∙◌, subst, inl, inr, arith, nat_cmp, true≢false}
use Rattle.std.specs.Option.{option_map, is_some, unwrap_or}
use Rattle.std.specs.Cmp.{nat_cmp_total}
use Rattle.std.specs.Ordering.{eq_by_cmp}
use Rattle.std.specs.FinMap as map
use Rattle.std.specs.FinMap.{find}
use Rattle.std.specs.FinSet as set
use Rattle.std.proofs.lemmas.Bool.{cases_eq}
use Rattle.ad_events.specs.declared.mapping.Status.{Status}
use Rattle.ad_events.specs.declared.mapping.Status.TheVariants.{Current}
use Rattle.ad_events.specs.declared.mapping.Mapping.{Mapping}
use Rattle.ad_events.specs.World.{mapping_of, is_current, map_values, put_status, with_status, MayHold, MayBeInside, WorldFits}

-- ---- reading the mappings after a change

find-map : (f : Mapping → Mapping) (q : ℕ) (es : List (ℕ × Mapping)) → find nat_cmp q (list_map (λ e. (e.0, f e.1)) es) ≡ option_map f (find nat_cmp q es)
find-map f q [] = refl
find-map f q (e ∷ es) =
    elim (eq_by_cmp nat_cmp q e.0) as (λ b. cond b (Some (f e.1)) (find nat_cmp q (list_map (λ e. (e.0, f e.1)) es)) ≡ option_map f (cond b (Some e.1) (find nat_cmp q es))) [ true ↦ refl | false ↦ find-map f q es ]

pub get-map_values : (f : Mapping → Mapping) (ms : map.FinMap nat_cmp Mapping) (q : ℕ) → map.get (map_values f ms) q ≡ option_map f (map.get ms q)
get-map_values f ms q =
    map.get-from_entries nat_cmp_total (list_map (λ e. (e.0, f e.1)) (map.entries ms)) q ∙ find-map f q (map.entries ms) ∙ ap (option_map f) (sym (map.get-entries ms q))

pub same_mapping : (x y : Mapping) → Some x ≡ Some y → x ≡ y
same_mapping x y e = ap (λ o. unwrap_or o x) e

-- what has a status is a mapping with it
pub from_status : (o : Option Mapping) (s : Status) → option_map (λ x. x.status) o ≡ Some s → (m : ℕ) × (o ≡ Some (mapping_of m s))
from_status None s e = absurd (true≢false (sym (ap is_some e)))
from_status (Some x) s e = (x.module, ap (λ (t : Status). Some (mapping_of x.module t)) (ap (λ o. unwrap_or o x.status) e))

pub with_status-is : (ms : map.FinMap nat_cmp Mapping) (p m : ℕ) (old new : Status) → map.get ms p ≡ Some (mapping_of m old) → with_status ms p new ≡ map.insert ms p (mapping_of m new)
with_status-is ms p m old new e = ap (put_status ms p new) e

-- statuses with different numbers differ
pub status≢ : (s t : Status) (n : Status → ℕ) → n s ≢ n t → Some s ≢ Some t
status≢ s t n apart e = apart (ap (λ o. n (unwrap_or o s)) e)

-- ---- where one mapping changes, which isn't current before or after

module _ (current : List ℕ) (ms new : map.FinMap nat_cmp Mapping) (inside : map.FinMap nat_cmp ℕ) (entered : set.FinSet nat_cmp)
    (fits : WorldFits current ms inside entered) (p : ℕ) (x : Mapping)
    (here : map.get new p ≡ Some x) (elsewhere : (q : ℕ) → q ≢ p → map.get new q ≡ map.get ms q)
    (was : (m : ℕ) → map.get ms p ≢ Some (mapping_of m Current)) (is : is_current x.status ≡ false)
    (of : x.module < length current) (holds : (worker : ℕ) → map.get inside worker ≡ Some p → MayHold x.status) where
  one-listed : (m : ℕ) → m < length current → map.get new (get_or current m 0) ≡ Some (mapping_of m Current)
  one-listed m l =
      elim (cases_eq (get_or current m 0) p) [
        | inl e ↦ absurd (was m (ap (map.get ms) (sym e) ∙ fits.listed m l))
        | inr apart ↦ elsewhere (get_or current m 0) apart ∙ fits.listed m l
      ]

  one-only : (q m : ℕ) → map.get new q ≡ Some (mapping_of m Current) → (m < length current) × (get_or current m 0 ≡ q)
  one-only q m found =
      elim (cases_eq q p) [
        | inl e ↦
            let same = same_mapping x (mapping_of m Current) (sym here ∙ ap (map.get new) (sym e) ∙ found) in
            absurd (true≢false (sym (sym is ∙ ap (λ (y : Mapping). is_current y.status) same)))
        | inr apart ↦ fits.only q m (sym (elsewhere q apart) ∙ found)
      ]

  one-module : (q : ℕ) (y : Mapping) → map.get new q ≡ Some y → y.module < length current
  one-module q y found =
      elim (cases_eq q p) [
        | inl e ↦
            let same = same_mapping x y (sym here ∙ ap (map.get new) (sym e) ∙ found) in
            let modules = ap (λ (z : Mapping). z.module) same in omega arith
        | inr apart ↦ fits.of_module q y (sym (elsewhere q apart) ∙ found)
      ]

  one-held : (worker q : ℕ) → map.get inside worker ≡ Some q → MayBeInside (map.get new q)
  one-held worker q found =
      elim (cases_eq q p) [
        | inl e ↦ subst MayBeInside (sym (ap (map.get new) e ∙ here)) (holds worker (found ∙ ap (λ z. Some z) e))
        | inr apart ↦ subst MayBeInside (sym (elsewhere q apart)) (fits.held worker q found)
      ]

  pub WorldFits-one : WorldFits current new inside entered
  WorldFits-one = record { listed = one-listed; only = one-only; of_module = one-module; apart = fits.apart; held = one-held }
