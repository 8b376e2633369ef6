-- The number of workers inside a mapping, as the pairs (worker, mapping) change.
use Rattle.std.proofs.Common.{◌≡◌, ◌≢◌, ℕ, suc, ◌+◌, ◌<◌, ◌-◌, Bool, true, false, cond, eqb, List, [], ◌∷◌, Option, Some, None, refl, sym, ap, ◌∙◌, inl, inr, arith, nat_cmp, eq-eqb, ne_eqb, eqb-true, true≢false, unwrap_or}
use Rattle.std.specs.Option.{option_map, is_some, IsSome}
use Rattle.std.specs.Bool.{IsTrue}
use Rattle.std.specs.Cmp.{nat_cmp_total, eq_by_cmp_equiv}
use Rattle.std.specs.BTreeMap.{is_at, insert_entry}
use Rattle.std.specs.Map.{lookup, remove_entry, keys_of, values_of}
use Rattle.std.specs.List.{count_by, slice_get}
use Rattle.std.specs.List.Sorted.{IsStrictlySortedBy}
use Rattle.std.specs.FinMap as map
use Rattle.std.proofs.lemmas.Bool.{cases_eq}
use Rattle.std.proofs.lemmas.Map.Entries.{sum_by-insert_entry, sum_by-remove_entry, lookup_from_place}
use Rattle.std.proofs.lemmas.Map.Keys.{IsDistinct-from_sorted}
use Rattle.ad_events.specs.Sums.{bit}
use Rattle.ad_events.specs.Inside.{IsCounted}
use Rattle.ad_events.proofs.SumLemmas.{count_by-cons}
use Rattle.ad_events.proofs.FiniteMaps.{get_number, get-insert_same, get-insert_other}

-- how many pairs have the mapping
abbrev number_of : List (ℕ × ℕ) → ℕ → ℕ
number_of pairs p = count_by (λ m. eqb m p) (values_of pairs)

number_of-insert : (es : List (ℕ × ℕ)) (k v p : ℕ) → IsStrictlySortedBy nat_cmp (keys_of es) → lookup (is_at (nat_cmp k)) es ≡ None → number_of (insert_entry nat_cmp es k v) p ≡ number_of es p + bit (eqb v p)
number_of-insert es k v p sorted none =
    let f : ℕ → ℕ = λ m. cond (eqb m p) 1 0 in
    let sums = sum_by-insert_entry f nat_cmp_total es k v sorted in
    let absent = ap (λ o. unwrap_or (option_map f o) 0) none in omega arith

number_of-remove : (es : List (ℕ × ℕ)) (k v p : ℕ) → lookup (is_at (nat_cmp k)) es ≡ Some v → number_of (remove_entry (is_at (nat_cmp k)) es) p + bit (eqb v p) ≡ number_of es p
number_of-remove es k v p some =
    let f : ℕ → ℕ = λ m. cond (eqb m p) 1 0 in
    let sums = sum_by-remove_entry f (is_at (nat_cmp k)) es in
    let there = ap (λ o. unwrap_or (option_map f o) 0) some in omega arith

number_of-absent : (es : List (ℕ × ℕ)) (k p : ℕ) → lookup (is_at (nat_cmp k)) es ≡ None → number_of (remove_entry (is_at (nat_cmp k)) es) p ≡ number_of es p
number_of-absent es k p none =
    let f : ℕ → ℕ = λ m. cond (eqb m p) 1 0 in
    let sums = sum_by-remove_entry f (is_at (nat_cmp k)) es in
    let there = ap (λ o. unwrap_or (option_map f o) 0) none in omega arith

-- a pair that is found is counted
found-counted : (test : ℕ → Bool) (es : List (ℕ × ℕ)) (p : ℕ) → lookup test es ≡ Some p → 0 < number_of es p
found-counted test [] p e = absurd (true≢false (sym (ap is_some e)))
found-counted test (x ∷ es) p e =
    elim (test x.0) as (λ b. cond b (Some x.1) (lookup test es) ≡ Some p → 0 < number_of (x ∷ es) p) [
      | true ↦ λ same.
          let here : x.1 ≡ p = ap (λ o. unwrap_or o 0) same in
          let one = ap bit (eq-eqb x.1 p here) in
          omega (arith, count_by-cons (λ m. eqb m p) x.1 (values_of es))
      | false ↦ λ rest. let more = found-counted test es p rest in omega (arith, count_by-cons (λ m. eqb m p) x.1 (values_of es))
    ] e

-- where some are counted, one stands in the list
counted-place : (es : List (ℕ × ℕ)) (p : ℕ) → 0 < number_of es p → (i : ℕ) × (k : ℕ) × (slice_get es i ≡ Some (k, p))
counted-place [] p some = absurd (omega arith)
counted-place (x ∷ es) p some =
    elim (cases_eq x.1 p) [
      | inl e ↦ (0, x.0, ap (λ v. Some (x.0, v)) e)
      | inr apart ↦
          let none = ap bit (ne_eqb x.1 p apart) in
          let rest = counted-place es p (omega (arith, count_by-cons (λ m. eqb m p) x.1 (values_of es))) in
          (suc rest.0, rest.1, rest.2)
    ]

module _ (counts : map.FinMap nat_cmp ℕ) (pairs : List (ℕ × ℕ)) (is : IsCounted counts pairs) where
  -- a mapping that no pair has is counted 0, and the other way round
  pub free-is : (p n : ℕ) → unwrap_or (map.get counts p) 0 ≡ n → (IsTrue (eqb n 0) → (w : ℕ) → map.get (map.from_entries {R = nat_cmp} pairs) w ≢ Some p) × (((w : ℕ) → map.get (map.from_entries {R = nat_cmp} pairs) w ≢ Some p) → IsTrue (eqb n 0))
  free-is p n e =
      let number = is.counted p in (
        (λ zero w found.
            (let none = eqb-true n 0 zero in
            let some = found-counted (is_at (nat_cmp w)) pairs p (sym (get_number pairs w) ∙ found) in omega arith)),
        (λ nobody.
            elim (cases_eq n 0) [
              | inl zero ↦ eq-eqb n 0 zero
              | inr apart ↦
                  let place = counted-place pairs p (omega arith) in
                  let found = lookup_from_place (eq_by_cmp_equiv nat_cmp_total) pairs place.0 place.1 p (IsDistinct-from_sorted nat_cmp (keys_of pairs) is.ordered) place.2 in
                  absurd (nobody place.1 (get_number pairs place.1 ∙ found))
            ]),
      )

  module _ (p n : ℕ) (count : n ≡ unwrap_or (map.get counts p) 0) where
    -- writing the count that is there changes none
    pub counts-kept : (q : ℕ) → unwrap_or (map.get (map.insert counts p n) q) 0 ≡ unwrap_or (map.get counts q) 0
    counts-kept q =
        elim (cases_eq q p) [
          | inl e ↦ ap (λ o. unwrap_or o 0) (get-insert_same counts p n q e) ∙ count ∙ ap (λ x. unwrap_or (map.get counts x) 0) (sym e)
          | inr apart ↦ ap (λ o. unwrap_or o 0) (get-insert_other counts p n q apart)
        ]

    pub IsCounted-kept : IsCounted (map.insert counts p n) pairs
    IsCounted-kept = record { ordered = is.ordered; counted = λ q. counts-kept q ∙ is.counted q }

    -- a new pair is one more
    pub IsCounted-put : (w : ℕ) (new : List (ℕ × ℕ)) → lookup (is_at (nat_cmp w)) pairs ≡ None → new ≡ insert_entry nat_cmp pairs w p → IsStrictlySortedBy nat_cmp (keys_of new) → IsCounted (map.insert (map.insert counts p n) p (n + 1)) new
    IsCounted-put w new none e sorted =
        record {
          ordered = sorted;
          counted = λ q.
              (let number = is.counted q in
              let kept = counts-kept q in
              let more = number_of-insert pairs w p q is.ordered none in
              let here = ap (λ es. number_of es q) e in
              elim (cases_eq q p) [
                | inl same ↦
                    let read = ap (λ o. unwrap_or o 0) (get-insert_same (map.insert counts p n) p (n + 1) q same) in
                    let was = ap (λ o. unwrap_or o 0) (get-insert_same counts p n q same) in
                    let one = ap bit (eq-eqb p q (sym same)) in omega arith
                | inr apart ↦
                    let read = ap (λ o. unwrap_or o 0) (get-insert_other (map.insert counts p n) p (n + 1) q apart) in
                    let none' = ap bit (ne_eqb p q (λ e'. apart (sym e'))) in omega arith
              ]);
        }

    -- a pair that goes is one less, and it was there
    pub counted-some : (w : ℕ) → lookup (is_at (nat_cmp w)) pairs ≡ Some p → 0 < n
    counted-some w found =
        let number = is.counted p in
        let some = found-counted (is_at (nat_cmp w)) pairs p found in omega arith

    pub IsCounted-remove : (w : ℕ) (new : List (ℕ × ℕ)) → lookup (is_at (nat_cmp w)) pairs ≡ Some p → new ≡ remove_entry (is_at (nat_cmp w)) pairs → IsStrictlySortedBy nat_cmp (keys_of new) → IsCounted (map.insert counts p (n - 1)) new
    IsCounted-remove w new found e sorted =
        record {
          ordered = sorted;
          counted = λ q.
              (let number = is.counted q in
              let less = number_of-remove pairs w p q found in
              let here = ap (λ es. number_of es q) e in
              let some = counted-some w found in
              elim (cases_eq q p) [
                | inl same ↦
                    let read = ap (λ o. unwrap_or o 0) (get-insert_same counts p (n - 1) q same) in
                    let was = ap (λ x. unwrap_or (map.get counts x) 0) same in
                    let one = ap bit (eq-eqb p q (sym same)) in omega arith
                | inr apart ↦
                    let read = ap (λ o. unwrap_or o 0) (get-insert_other counts p (n - 1) q apart) in
                    let none = ap bit (ne_eqb p q (λ e'. apart (sym e'))) in omega arith
              ]);
        }

-- a count that isn't 0 is there
pub some_of_positive : (o : Option ℕ) → 0 < unwrap_or o 0 → IsSome o
some_of_positive None l = absurd (omega arith)
some_of_positive (Some x) l = refl
