-- The names of a section of strings are read where they begin.
use Rattle.std.proofs.Common.{◌≡◌, ◌⊎◌, inl, inr, ℕ, zero, suc, ◌+◌, ◌<◌, ◌≤◌, ◌==◌, ◌||◌, ◌&&◌, nat_le, nat_eq, Bool, true, false, cond, List, [], ◌∷◌, ◌++◌, append_assoc, drop, fold, get_or, length, sum_by, take, Option, Some, None, is_some, unwrap_or, refl, sym, ap, ◌∙◌, arith, length-append, length-drop}
use Rattle.std.specs.List.{before_first, list_any, position_or_len, starts_with}
use Rattle.std.specs.Option.{option_or}
use Rattle.std.specs.Str.{bytes_eq}
use Rattle.std.proofs.Math.Seq.{drop-append-add}
use Rattle.std.proofs.lemmas.Bool.{cases_Bool, eqb-true, le-leb, lt-leb, or_parts}
use Rattle.std.proofs.lemmas.Bool.Decides.{nat_tests}
use Rattle.std.proofs.lemmas.List.Sums.{sum_by-cons}
use Rattle.std.proofs.lemmas.Slice.Eq.{bytes_eq-Decides}
use Rattle.ad_elf.specs.File.{has_string, is_zero, string_at}
use Rattle.ad_kit.specs.ObjectFile.{find_place, place, strings, used, with_name}
use Rattle.ad_kit.specs.Writable.{HasNoZero}
use Rattle.ad_kit.proofs.Names.{ended, find_place-push, length-strings, same_bytes}

-- A name begins at a place of these strings, and ends with a zero byte.
pub record IsAt (text : List ℕ) (at : ℕ) (name : List ℕ) : Type 0 where
  pub rest : List ℕ
  pub here : drop at text ≡ name ++ 0 ∷ rest

-- where a name is found, it is
pub found_here : (at : ℕ) (ns : List (List ℕ)) (name : List ℕ) (p : ℕ) → find_place at ns name ≡ Some p → (k : ℕ) × (p ≡ at + k) × IsAt (ended ns) k name
unfolding find_place
found_here at [] name p found = cc
found_here at (n ∷ ns) name p found =
    elim (cases_Bool (bytes_eq n name)) [
      | inl same ↦ (
          let place : Some at ≡ Some p = rw same at found in
          let whole : drop 0 (ended (n ∷ ns)) ≡ name ++ 0 ∷ ended ns = rw (same_bytes n name same) (append_assoc name (0 ∷ []) (ended ns)) in
          let here : p ≡ at + 0 = omega (arith, ap (λ (o : Option ℕ). unwrap_or o 0) place) in
          (0, here, record { rest = ended ns; here = whole }))
      | inr other ↦ (
          let later : find_place (at + length n + 1) ns name ≡ Some p = rw other at found in
          let behind = found_here (at + length n + 1) ns name p later in
          let length_front : length (n ++ 0 ∷ []) ≡ length n + 1 = length-append n (0 ∷ []) in
          let place : p ≡ at + (length (n ++ 0 ∷ []) + behind.0) = omega (arith, behind.1, length_front) in
          let moved : drop (length (n ++ 0 ∷ []) + behind.0) (ended (n ∷ ns)) ≡ drop behind.0 (ended ns) = drop-append-add (n ++ 0 ∷ []) (ended ns) behind.0 in
          (length (n ++ 0 ∷ []) + behind.0, place, record { rest = behind.2.rest; here = moved ∙ behind.2.here }))
    ]

-- a name that is among the names, or is empty, begins at its place
is_some_is : (o : Option ℕ) → is_some o ≡ true → (p : ℕ) × (o ≡ Some p)
is_some_is None e = cc
is_some_is (Some p) e = (p, refl)

some_or_none : (o : Option ℕ) → (o ≡ None) ⊎ (is_some o ≡ true)
some_or_none None = inl refl
some_or_none (Some p) = inr refl

empty_name : (name : List ℕ) → (length name == 0) ≡ true → name ≡ []
empty_name [] e = refl
empty_name (x ∷ xs) e = absurd (omega (arith, eqb-true _ _ e))

pub IsAt-place : (ns : List (List ℕ)) (name : List ℕ) → ((length name == 0) || is_some (find_place 1 ns name)) ≡ true → IsAt (strings ns) (place ns name) name
unfolding strings
IsAt-place ns name there =
    elim (some_or_none (find_place 1 ns name)) [
      | inl none ↦ (
          let empty : name ≡ [] = empty_name name (or_left (length name == 0) (is_some (find_place 1 ns name)) there (ap is_some none)) in
          let at : place ns name ≡ 0 = ap (λ (o : Option ℕ). unwrap_or o 0) none in
          record { rest = ended ns; here = rw (at, empty) refl })
      | inr some ↦ (
          let p = is_some_is (find_place 1 ns name) some in
          let found = found_here 1 ns name p.0 p.1 in
          let at : place ns name ≡ suc found.0 = omega (arith, ap (λ (o : Option ℕ). unwrap_or o 0) p.1, found.1) in
          record { rest = found.2.rest; here = ap (λ (k : ℕ). drop k (strings ns)) at ∙ found.2.here })
    ]
  where
    or_left : (a b : Bool) → (a || b) ≡ true → b ≡ false → a ≡ true
    or_left true b e f = refl
    or_left false b e f = let bad = sym e ∙ f in cc

-- every name that was put in is there
found_still : (ns : List (List ℕ)) (n q : List ℕ) → is_some (find_place 1 ns q) ≡ true → is_some (find_place 1 (ns ++ n ∷ []) q) ≡ true
found_still ns n q had = rw (find_place-push 1 ns n q) (some_first (find_place 1 ns q) (cond (bytes_eq n q) (Some (1 + length (ended ns))) None) had)
  where
    some_first : (o p : Option ℕ) → is_some o ≡ true → is_some (option_or o p) ≡ true
    some_first None p e = cc
    some_first (Some x) p e = refl

same_name : (n : List ℕ) → bytes_eq n n ≡ true
same_name n = (bytes_eq-Decides n n).1 refl

found_last : (ns : List (List ℕ)) (n : List ℕ) → is_some (find_place 1 (ns ++ n ∷ []) n) ≡ true
found_last ns n = rw (find_place-push 1 ns n n, same_name n) (some_last (find_place 1 ns n) (1 + length (ended ns)))
  where
    some_last : (o : Option ℕ) (x : ℕ) → is_some (option_or o (Some x)) ≡ true
    some_last None x = refl
    some_last (Some y) x = refl

abbrev is_there : List (List ℕ) → List ℕ → Bool
is_there ns q = (length q == 0) || is_some (find_place 1 ns q)

there_still : (ns : List (List ℕ)) (n q : List ℕ) → is_there ns q ≡ true → is_there (with_name ns n) q ≡ true
there_still ns n q had =
    elim (cases_Bool (is_there ns n)) [
      | inl here ↦ rw here had
      | inr new ↦ rw new (or_still (length q == 0) (is_some (find_place 1 ns q)) (is_some (find_place 1 (ns ++ n ∷ []) q)) had (found_still ns n q))
    ]
  where
    or_still : (a b c : Bool) → (a || b) ≡ true → (b ≡ true → c ≡ true) → (a || c) ≡ true
    or_still true b c e f = refl
    or_still false b c e f = f e

there_now : (ns : List (List ℕ)) (n : List ℕ) → is_there (with_name ns n) n ≡ true
there_now ns n =
    elim (cases_Bool (is_there ns n)) [
      | inl here ↦ rw here here
      | inr new ↦ rw new (or_last (length n == 0) (is_some (find_place 1 (ns ++ n ∷ []) n)) (found_last ns n))
    ]
  where
    or_last : (a b : Bool) → b ≡ true → (a || b) ≡ true
    or_last true b e = refl
    or_last false b e = e

there_through : (ns names : List (List ℕ)) (q : List ℕ) → is_there ns q ≡ true → is_there (fold with_name ns names) q ≡ true
there_through ns [] q had = had
there_through ns (n ∷ names) q had = there_through (with_name ns n) names q (there_still ns n q had)

there_all : (ns names : List (List ℕ)) (k : ℕ) (d : List ℕ) → k < length names → is_there (fold with_name ns names) (get_or names k d) ≡ true
there_all ns [] k d below = absurd (omega arith)
there_all ns (n ∷ names) zero d below = there_through (with_name ns n) names n (there_now ns n)
there_all ns (n ∷ names) (suc k) d below = there_all (with_name ns n) names k d (omega arith)

-- each name that is used begins at its place
pub IsAt-used : (names : List (List ℕ)) (k : ℕ) (d : List ℕ) → k < length names → IsAt (strings (used names)) (place (used names) (get_or names k d)) (get_or names k d)
unfolding used
IsAt-used names k d below = IsAt-place (used names) (get_or names k d) (there_all [] names k d below)

-- the string at the place of a name is the name
before_zero : (name rest : List ℕ) → HasNoZero name → before_first is_zero (name ++ 0 ∷ rest) ≡ name
before_zero [] rest none = refl
before_zero (x ∷ name) rest none =
    let parts = or_parts (x == 0) (list_any (λ b. b == 0) name) none in
    let more : (1 + position_or_len is_zero (name ++ 0 ∷ rest)) ≡ suc (position_or_len is_zero (name ++ 0 ∷ rest)) = omega arith in
    rw (parts.0, more) (ap (λ (xs : List ℕ). x ∷ xs) (before_zero name rest parts.1))

pub string_at-name : (text : List ℕ) (at : ℕ) (name : List ℕ) → IsAt text at name → HasNoZero name → string_at text at ≡ name
unfolding string_at
string_at-name text at name is none = ap (before_first is_zero) is.here ∙ before_zero name is.rest none

zero_among : (name rest : List ℕ) (n : ℕ) → HasNoZero name → list_any is_zero (take (suc n) (name ++ 0 ∷ rest)) ≡ nat_le (length name) n
zero_among [] rest n none = sym (le-leb 0 n (omega arith))
zero_among (x ∷ name) rest zero none =
    let parts = or_parts (x == 0) (list_any (λ b. b == 0) name) none in
    rw parts.0 (sym (lt-leb (length (x ∷ name)) 0 (omega arith)))
zero_among (x ∷ name) rest (suc n) none =
    let parts = or_parts (x == 0) (list_any (λ b. b == 0) name) none in
    let same : nat_le (length (x ∷ name)) (suc n) ≡ nat_le (length name) n = grind (arith, nat_tests) in
    rw parts.0 (zero_among name rest n parts.1 ∙ sym same)

pub has_string-name : (text : List ℕ) (at : ℕ) (name : List ℕ) → IsAt text at name → HasNoZero name → has_string text at ≡ nat_le (length name) 4096
unfolding has_string
has_string-name text at name is none = ap (λ (xs : List ℕ). list_any is_zero (take 4097 xs)) is.here ∙ zero_among name is.rest 4096 none

-- a string of a text begins as its name does
begins_alike : (name rest front : List ℕ) → HasNoZero front → starts_with nat_eq (name ++ 0 ∷ rest) front ≡ starts_with nat_eq name front
begins_alike name rest [] none = refl
begins_alike [] rest (c ∷ front) none =
    let parts = or_parts (c == 0) (list_any (λ b. b == 0) front) none in
    rw parts.0 refl
begins_alike (x ∷ name) rest (c ∷ front) none =
    let parts = or_parts (c == 0) (list_any (λ b. b == 0) front) none in
    ap (λ (b : Bool). nat_eq c x && b) (begins_alike name rest front parts.1)

pub starts_with-name : (text : List ℕ) (at : ℕ) (name front : List ℕ) → IsAt text at name → HasNoZero front → starts_with nat_eq (drop at text) front ≡ starts_with nat_eq name front
starts_with-name text at name front is none = ap (λ (xs : List ℕ). starts_with nat_eq xs front) is.here ∙ begins_alike name is.rest front none

-- a place is among the strings, which are no longer than the names
pub place-below : (text : List ℕ) (at : ℕ) (name : List ℕ) → IsAt text at name → at < length text
place-below text at name is = omega (arith, ap length is.here, length-drop at text, length-append name (0 ∷ is.rest))

abbrev measure : List ℕ → ℕ
measure n = length n + 1

length-ended : (ns : List (List ℕ)) (n : List ℕ) → length (ended (ns ++ n ∷ [])) ≡ length (ended ns) + measure n
length-ended [] n = omega (arith, length-append (n ++ 0 ∷ []) [], length-append n (0 ∷ []))
length-ended (m ∷ ns) n = omega (arith, length-ended ns n, length-append (m ++ 0 ∷ []) (ended (ns ++ n ∷ [])), length-append (m ++ 0 ∷ []) (ended ns))

ended-through : (ns names : List (List ℕ)) → length (ended (fold with_name ns names)) ≤ length (ended ns) + sum_by measure names
ended-through ns [] = omega arith
ended-through ns (n ∷ names) =
    let step = ended-through (with_name ns n) names in
    let sums = sum_by-cons measure n names in
    elim (cases_Bool (is_there ns n)) [
      | inl here ↦ (
          let same : with_name ns n ≡ ns = rw here refl in
          omega (arith, step, ap (λ (xs : List (List ℕ)). length (ended xs)) same, sums))
      | inr new ↦ (
          let more : with_name ns n ≡ ns ++ n ∷ [] = rw new refl in
          omega (arith, step, ap (λ (xs : List (List ℕ)). length (ended xs)) more, length-ended ns n, sums))
    ]

pub strings-short : (names : List (List ℕ)) → length (strings (used names)) ≤ 1 + sum_by measure names
unfolding used
strings-short names = omega (arith, length-strings (used names), ended-through [] names)

-- the empty name is at the start
pub IsAt-empty : (ns : List (List ℕ)) → IsAt (strings ns) 0 []
unfolding strings
IsAt-empty ns = record { rest = ended ns; here = refl }
