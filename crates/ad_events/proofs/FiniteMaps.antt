-- Finite maps and sets of numbers, as the entries of a tree make them, and what one change of an entry changes.
use Rattle.std.proofs.Common.{arith, ◌≡◌, ℕ, Bool, true, false, cond, not, ◌&&◌, ◌||◌, List, [], ◌∷◌, ◌≢◌, refl, sym, ap, ◌∙◌, Some, None, eqb, nat_cmp, eq-eqb, ne_eqb}
use Rattle.std.specs.List.{list_any}
use Rattle.std.specs.Map.{lookup}
use Rattle.std.specs.BTreeMap.{is_at}
use Rattle.std.specs.Ordering.{eq_by_cmp}
use Rattle.std.specs.Cmp.{nat_cmp_total, eq_by_cmp_equiv}
use Rattle.std.proofs.lemmas.Bool.Decides.{nat_tests}
use Rattle.std.specs.FinMap as map
use Rattle.std.specs.FinMap.{find, nat_cmp-IsAntisymmetric}
use Rattle.std.specs.FinSet as set

-- whether two numbers tie
pub tied : (q k : ℕ) → eq_by_cmp nat_cmp q k ≡ eqb q k
tied q k = grind (arith, nat_tests)

or_is : (a b : Bool) → cond a true b ≡ (a || b)
or_is true b = refl
or_is false b = refl

and_is : (a b : Bool) → cond a false b ≡ (not a && b)
and_is true b = refl
and_is false b = refl

module _ {V : Type 0} where
  find-lookup : (es : List (ℕ × V)) (q : ℕ) → find nat_cmp q es ≡ lookup (is_at (nat_cmp q)) es
  find-lookup [] q = refl
  find-lookup (e ∷ es) q = ap (cond (is_at (nat_cmp q) e.0) (Some e.1)) (find-lookup es q)

  -- what the map that the entries make has at a number
  pub get_number : (es : List (ℕ × V)) (q : ℕ) → map.get (map.from_entries {R = nat_cmp} es) q ≡ lookup (is_at (nat_cmp q)) es
  get_number es q = map.get-from_entries nat_cmp_total es q ∙ find-lookup es q

  -- entries that differ at one number make maps that differ there
  pub one_given : (es fs : List (ℕ × V)) (k : ℕ) (v : V) → ((q : ℕ) → lookup (is_at (nat_cmp q)) fs ≡ cond (is_at (nat_cmp k) q) (Some v) (lookup (is_at (nat_cmp q)) es)) → map.from_entries {R = nat_cmp} fs ≡ map.insert (map.from_entries es) k v
  one_given es fs k v h = map.same_map nat_cmp_total nat_cmp-IsAntisymmetric _ _ (λ q.
      get_number fs q ∙ h q ∙ ap (λ b. cond b (Some v) (lookup (is_at (nat_cmp q)) es)) ((eq_by_cmp_equiv nat_cmp_total).symm k q)
      ∙ sym (map.get-insert nat_cmp_total (map.from_entries es) k v q ∙ ap (cond (is_at (nat_cmp q) k) (Some v)) (get_number es q)))

  pub one_removed : (es fs : List (ℕ × V)) (k : ℕ) → ((q : ℕ) → lookup (is_at (nat_cmp q)) fs ≡ cond (is_at (nat_cmp k) q) None (lookup (is_at (nat_cmp q)) es)) → map.from_entries {R = nat_cmp} fs ≡ map.remove (map.from_entries es) k
  one_removed es fs k h = map.same_map nat_cmp_total nat_cmp-IsAntisymmetric _ _ (λ q.
      get_number fs q ∙ h q ∙ ap (λ b. cond b None (lookup (is_at (nat_cmp q)) es)) ((eq_by_cmp_equiv nat_cmp_total).symm k q)
      ∙ sym (map.get-remove nat_cmp_total (map.from_entries es) k q ∙ ap (cond (is_at (nat_cmp q) k) None) (get_number es q)))

  -- reading a map of numbers after a change
  pub get-insert_same : (m : map.FinMap nat_cmp V) (k : ℕ) (v : V) (q : ℕ) → q ≡ k → map.get (map.insert m k v) q ≡ Some v
  get-insert_same m k v q e = map.get-insert nat_cmp_total m k v q ∙ ap (λ b. cond b (Some v) (map.get m q)) (tied q k ∙ eq-eqb q k e)

  pub get-insert_other : (m : map.FinMap nat_cmp V) (k : ℕ) (v : V) (q : ℕ) → q ≢ k → map.get (map.insert m k v) q ≡ map.get m q
  get-insert_other m k v q apart = map.get-insert nat_cmp_total m k v q ∙ ap (λ b. cond b (Some v) (map.get m q)) (tied q k ∙ ne_eqb q k apart)

  pub get-remove_same : (m : map.FinMap nat_cmp V) (k : ℕ) (q : ℕ) → q ≡ k → map.get (map.remove m k) q ≡ None
  get-remove_same m k q e = map.get-remove nat_cmp_total m k q ∙ ap (λ b. cond b None (map.get m q)) (tied q k ∙ eq-eqb q k e)

  pub get-remove_other : (m : map.FinMap nat_cmp V) (k : ℕ) (q : ℕ) → q ≢ k → map.get (map.remove m k) q ≡ map.get m q
  get-remove_other m k q apart = map.get-remove nat_cmp_total m k q ∙ ap (λ b. cond b None (map.get m q)) (tied q k ∙ ne_eqb q k apart)

  -- maps that answer alike are one
  pub same_number_map : (m n : map.FinMap nat_cmp V) → ((q : ℕ) → map.get m q ≡ map.get n q) → m ≡ n
  same_number_map m n alike = map.same_map nat_cmp_total nat_cmp-IsAntisymmetric m n alike

-- the set that the keys make has what is among them
pub contains_number : (ks : List ℕ) (q : ℕ) → set.contains (set.from_list {R = nat_cmp} ks) q ≡ list_any (is_at (nat_cmp q)) ks
contains_number ks q = set.contains-from_list nat_cmp_total ks q

-- reading a set of numbers after a change
pub contains-insert_same : (s : set.FinSet nat_cmp) (k q : ℕ) → q ≡ k → set.contains (set.insert s k) q ≡ true
contains-insert_same s k q e = set.contains-insert nat_cmp_total s k q ∙ ap (λ b. b || set.contains s q) (tied q k ∙ eq-eqb q k e)

pub contains-insert_other : (s : set.FinSet nat_cmp) (k q : ℕ) → q ≢ k → set.contains (set.insert s k) q ≡ set.contains s q
contains-insert_other s k q apart = set.contains-insert nat_cmp_total s k q ∙ ap (λ b. b || set.contains s q) (tied q k ∙ ne_eqb q k apart)

pub contains-remove_same : (s : set.FinSet nat_cmp) (k q : ℕ) → q ≡ k → set.contains (set.remove s k) q ≡ false
contains-remove_same s k q e = set.contains-remove nat_cmp_total s k q ∙ ap (λ b. not b && set.contains s q) (tied q k ∙ eq-eqb q k e)

pub contains-remove_other : (s : set.FinSet nat_cmp) (k q : ℕ) → q ≢ k → set.contains (set.remove s k) q ≡ set.contains s q
contains-remove_other s k q apart = set.contains-remove nat_cmp_total s k q ∙ ap (λ b. not b && set.contains s q) (tied q k ∙ ne_eqb q k apart)

-- keys that differ in one number make sets that differ in it
pub one_added : (ks ls : List ℕ) (k : ℕ) → ((q : ℕ) → list_any (is_at (nat_cmp q)) ls ≡ cond (is_at (nat_cmp k) q) true (list_any (is_at (nat_cmp q)) ks)) → set.from_list {R = nat_cmp} ls ≡ set.insert (set.from_list ks) k
one_added ks ls k h = set.same_set nat_cmp_total nat_cmp-IsAntisymmetric _ _ (λ q.
    contains_number ls q ∙ h q ∙ ap (λ b. cond b true (list_any (is_at (nat_cmp q)) ks)) ((eq_by_cmp_equiv nat_cmp_total).symm k q)
    ∙ or_is (is_at (nat_cmp q) k) (list_any (is_at (nat_cmp q)) ks)
    ∙ sym (set.contains-insert nat_cmp_total (set.from_list ks) k q ∙ ap (λ b. eq_by_cmp nat_cmp q k || b) (contains_number ks q)))

pub one_taken : (ks ls : List ℕ) (k : ℕ) → ((q : ℕ) → list_any (is_at (nat_cmp q)) ls ≡ cond (is_at (nat_cmp k) q) false (list_any (is_at (nat_cmp q)) ks)) → set.from_list {R = nat_cmp} ls ≡ set.remove (set.from_list ks) k
one_taken ks ls k h = set.same_set nat_cmp_total nat_cmp-IsAntisymmetric _ _ (λ q.
    contains_number ls q ∙ h q ∙ ap (λ b. cond b false (list_any (is_at (nat_cmp q)) ks)) ((eq_by_cmp_equiv nat_cmp_total).symm k q)
    ∙ and_is (is_at (nat_cmp q) k) (list_any (is_at (nat_cmp q)) ks)
    ∙ sym (set.contains-remove nat_cmp_total (set.from_list ks) k q ∙ ap (λ b. not (eq_by_cmp nat_cmp q k) && b) (contains_number ks q)))
