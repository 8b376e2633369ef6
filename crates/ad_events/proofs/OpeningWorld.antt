-- The world at the opening.
use Rattle.std.proofs.Common.{◌≡◌, ◌≢◌, ℕ, zero, suc, ◌+◌, ◌<◌, cond, List, [], ◌∷◌, ◌++◌, length, get_or, take, Some, None, refl, sym, ap, ◌∙◌, inl, inr, arith, nat_cmp, eq-eqb, ne_eqb, true≢false}
use Rattle.std.specs.Option.{is_some}
use Rattle.std.specs.Cmp.{nat_cmp_total}
use Rattle.std.specs.FinMap as map
use Rattle.std.specs.FinMap.{find, nat_cmp-IsAntisymmetric}
use Rattle.std.specs.FinSet as set
use Rattle.std.proofs.lemmas.Bool.{cases_eq}
use Rattle.std.proofs.lemmas.List.{take_more, length-take-le, get_or-take}
use Rattle.ad_events.specs.declared.mapping.Status.TheVariants.{Current}
use Rattle.ad_events.specs.declared.mapping.Mapping.{Mapping}
use Rattle.ad_events.specs.World.{mapping_of, opening_entries, AllDiffer, WorldFits}
use Rattle.ad_events.proofs.FiniteMaps.{tied}
use Rattle.ad_events.proofs.WorldLemmas.{same_mapping}

-- a number that isn't among those given is found nowhere
find-absent : (n : ℕ) (ps : List ℕ) (q : ℕ) → ((j : ℕ) → j < length ps → get_or ps j 0 ≢ q) → find nat_cmp q (opening_entries n ps) ≡ None
find-absent n [] q none = refl
find-absent n (p ∷ ps) q none =
    ap (λ b. cond b (Some (mapping_of n Current)) (find nat_cmp q (opening_entries (n + 1) ps))) (tied q p ∙ ne_eqb q p (λ e. none 0 (omega arith) (sym e)))
    ∙ find-absent (n + 1) ps q (λ j l. none (suc j) (omega arith))

-- a number that is found is one of those given, at its module's place
pub find-place : (n : ℕ) (ps : List ℕ) (q : ℕ) (x : Mapping) → find nat_cmp q (opening_entries n ps) ≡ Some x → (j : ℕ) × (j < length ps) × (x ≡ mapping_of (n + j) Current) × (get_or ps j 0 ≡ q)
find-place n [] q x found = absurd (true≢false (sym (ap is_some found)))
find-place n (p ∷ ps) q x found =
    elim (cases_eq q p) [
      | inl e ↦
          let here = ap (λ b. cond b (Some (mapping_of n Current)) (find nat_cmp q (opening_entries (n + 1) ps))) (tied q p ∙ eq-eqb q p e) in
          let place : n ≡ n + 0 = omega arith in
          (0, omega arith, sym (same_mapping (mapping_of n Current) x (sym here ∙ found)) ∙ ap (λ m. mapping_of m Current) place, sym e)
      | inr apart ↦
          let rest = ap (λ b. cond b (Some (mapping_of n Current)) (find nat_cmp q (opening_entries (n + 1) ps))) (tied q p ∙ ne_eqb q p apart) in
          let found' = find-place (n + 1) ps q x (sym rest ∙ found) in
          let l = found'.1 in
          let place : (n + 1) + found'.0 ≡ n + suc found'.0 = omega arith in
          (suc found'.0, omega arith, found'.2 ∙ ap (λ m. mapping_of m Current) place, found'.3)
    ]

-- each number given is found
pub find-listed : (n : ℕ) (ps : List ℕ) → AllDiffer ps → (m : ℕ) → m < length ps → find nat_cmp (get_or ps m 0) (opening_entries n ps) ≡ Some (mapping_of (n + m) Current)
find-listed n [] differ m l = absurd (omega arith)
find-listed n (p ∷ ps) differ zero l =
    let place : n ≡ n + 0 = omega arith in
    ap (λ b. cond b (Some (mapping_of n Current)) (find nat_cmp p (opening_entries (n + 1) ps))) (tied p p ∙ eq-eqb p p refl) ∙ ap (λ m. Some (mapping_of m Current)) place
find-listed n (p ∷ ps) differ (suc m) l =
    let q = get_or ps m 0 in
    let apart : q ≢ p = λ e. differ 0 (suc m) (omega arith) l (sym e) in
    let place : (n + 1) + m ≡ n + suc m = omega arith in
    ap (λ b. cond b (Some (mapping_of n Current)) (find nat_cmp q (opening_entries (n + 1) ps))) (tied q p ∙ ne_eqb q p apart)
    ∙ find-listed (n + 1) ps (λ i j less below. differ (suc i) (suc j) (omega arith) (omega arith)) m (omega arith) ∙ ap (λ k. Some (mapping_of k Current)) place

opening_entries-push : (n : ℕ) (ps : List ℕ) (p : ℕ) → opening_entries n (ps ++ p ∷ []) ≡ opening_entries n ps ++ (p, mapping_of (n + length ps) Current) ∷ []
opening_entries-push n [] p = let place : n ≡ n + 0 = omega arith in ap (λ (m : ℕ). (p, mapping_of m Current) ∷ []) place
opening_entries-push n (x ∷ ps) p =
    let place : (n + 1) + length ps ≡ n + suc (length ps) = omega arith in
    ap (λ es. (x, mapping_of n Current) ∷ es) (opening_entries-push (n + 1) ps p ∙ ap (λ m. opening_entries (n + 1) ps ++ (p, mapping_of m Current) ∷ []) place)

-- the mappings of the first i modules
abbrev pub mappings_of : List ℕ → ℕ → map.FinMap nat_cmp Mapping
mappings_of ps i = map.from_entries (opening_entries 0 (take i ps))

-- one module more
pub mappings_of-more : (ps : List ℕ) (i : ℕ) → i < length ps → AllDiffer ps → mappings_of ps (i + 1) ≡ map.insert (mappings_of ps i) (get_or ps i 0) (mapping_of i Current)
mappings_of-more ps i l differ =
    let front = length-take-le i ps (omega arith) in
    let place : 0 + length (take i ps) ≡ i = omega arith in
    let absent = find-absent 0 (take i ps) (get_or ps i 0) (λ j below e. differ j i (omega arith) l (sym (get_or-take i ps j 0 (omega arith)) ∙ e)) in
    ap (λ xs. map.from_entries (opening_entries 0 xs)) (take_more ps i 0 l)
    ∙ ap (λ es. map.from_entries es) (opening_entries-push 0 (take i ps) (get_or ps i 0))
    ∙ map.from_entries_push nat_cmp_total nat_cmp-IsAntisymmetric (opening_entries 0 (take i ps)) (get_or ps i 0) (mapping_of (0 + length (take i ps)) Current) absent
    ∙ ap (λ m. map.insert (mappings_of ps i) (get_or ps i 0) (mapping_of m Current)) place

-- what holds of every world holds at the opening
pub WorldFits-opening : (ps : List ℕ) → AllDiffer ps → WorldFits ps (map.from_entries (opening_entries 0 ps)) map.empty set.empty
WorldFits-opening ps differ =
    let at = λ (q : ℕ). map.get-from_entries nat_cmp_total (opening_entries 0 ps) q in
    record {
      listed = λ m l. (let place : 0 + m ≡ m = omega arith in at (get_or ps m 0) ∙ find-listed 0 ps differ m l ∙ ap (λ k. Some (mapping_of k Current)) place);
      only = λ p m found.
          (let place = find-place 0 ps p (mapping_of m Current) (sym (at p) ∙ found) in
          let l = place.1 in
          let modules = ap (λ (x : Mapping). x.module) place.2 in
          let same : m ≡ place.0 = omega arith in
          (omega arith, ap (λ k. get_or ps k 0) same ∙ place.3));
      of_module = λ p x found.
          (let place = find-place 0 ps p x (sym (at p) ∙ found) in
          let l = place.1 in let modules = ap (λ (y : Mapping). y.module) place.2 in omega arith);
      apart = λ worker in_set. absurd (true≢false (sym in_set ∙ set.contains-empty nat_cmp worker));
      held = λ worker p found. absurd (true≢false (sym (ap is_some (sym (map.get-empty nat_cmp worker) ∙ found))));
    }
