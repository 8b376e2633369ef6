-- The names of a section of strings.
use Rattle.std.proofs.Common.{◌≡◌, inl, inr, ℕ, ◌+◌, ◌<◌, ◌==◌, true, false, cond, List, [], ◌∷◌, ◌++◌, append_assoc, flat_map, get_or, length, take, Bor, Option, Some, None, is_some, refl, sym, ap, ap₂, ◌∙◌, arith}
use Rattle.std.specs.BTreeMap.{Updates, get}
use Rattle.std.specs.Option.{option_or}
use Rattle.std.specs.Str.{bytes_eq}
use Rattle.std.proofs.lemmas.Bool.{cases_Bool}
use Rattle.std.proofs.lemmas.List.{flat_map_more, length-append}
use Rattle.std.proofs.lemmas.List.Sums.{fold_more}
use Rattle.std.proofs.lemmas.Map.Text.{is_eq-slice_cmp}
use Rattle.std.proofs.lemmas.Slice.Eq.{bytes_eq-Decides}
use Rattle.ad_kit.specs.ObjectFile.{find_place, strings, used, with_name}
use Rattle.ad_kit.specs.Private.Written.{AreFound, by_bytes}
use Rattle.ad_kit.specs.declared.strings.Found.{Found}

-- the bytes of names, each with a zero byte behind it
abbrev pub ended : List (List ℕ) → List ℕ
ended ns = flat_map (λ (n : List ℕ). n ++ 0 ∷ []) ns

or_none : (o : Option ℕ) → option_or o None ≡ o
or_none None = refl
or_none (Some x) = refl

-- one name more
pub find_place-push : (at : ℕ) (ns : List (List ℕ)) (name q : List ℕ) → find_place at (ns ++ name ∷ []) q ≡ option_or (find_place at ns q) (cond (bytes_eq name q) (Some (at + length (ended ns))) None)
unfolding find_place
find_place-push at [] name q =
    let end : at ≡ at + length (ended []) = omega arith in
    ap (λ (n : ℕ). cond (bytes_eq name q) (Some n) None) end
find_place-push at (n ∷ ns) name q =
    elim (cases_Bool (bytes_eq n q)) [
      | inl here ↦ (rw here refl)
      | inr other ↦ (
          let later = find_place-push (at + length n + 1) ns name q in
          let end : at + length n + 1 + length (ended ns) ≡ at + length (ended (n ∷ ns)) = omega (arith, length-append (n ++ 0 ∷ []) (ended ns), length-append n (0 ∷ [])) in
          rw (other, ← end) later)
    ]

strings-push : (ns : List (List ℕ)) (name : List ℕ) → strings (ns ++ name ∷ []) ≡ (strings ns ++ name) ++ 0 ∷ []
unfolding strings
strings-push ns name = sym (flat_map_more (λ (n : List ℕ). n ++ 0 ∷ []) (0 ∷ []) ns name) ∙ sym (append_assoc (0 ∷ ended ns) name (0 ∷ []))

pub length-strings : (ns : List (List ℕ)) → length (strings ns) ≡ 1 + length (ended ns)
unfolding strings
length-strings ns = omega arith

pub same_bytes : (xs ys : List ℕ) → bytes_eq xs ys ≡ true → xs ≡ ys
same_bytes xs ys e = (bytes_eq-Decides xs ys).0 e

is_none : (o : Option ℕ) → is_some o ≡ false → o ≡ None
is_none None e = refl
is_none (Some x) e = cc

-- what a key finds once a name is put behind the others
found_at : (ns : List (List ℕ)) (name q : List ℕ) (at : ℕ) → find_place 1 ns name ≡ None → at ≡ length (strings ns) → cond (bytes_eq name q) (Some at) (find_place 1 ns q) ≡ find_place 1 (ns ++ name ∷ []) q
found_at ns name q at absent end =
    let place : at ≡ 1 + length (ended ns) = end ∙ length-strings ns in
    elim (cases_Bool (bytes_eq name q)) [
      | inl here ↦ (
          let none : find_place 1 ns q ≡ None = rw (← same_bytes name q here) absent in
          rw (find_place-push 1 ns name q, here, none, place) refl)
      | inr other ↦ rw (find_place-push 1 ns name q, other) (sym (or_none (find_place 1 ns q)))
    ]

pub AreFound-none : (f : Found) → f.bytes.items ≡ 0 ∷ [] → f.places.entries ≡ [] → AreFound [] f
unfolding find_place strings
AreFound-none f bytes none = record { bytes = bytes; places = λ q. rw none refl }

pub AreFound-push : (ns : List (List ℕ)) (key : Bor (List ℕ)) (f g : Found) (at : ℕ) → AreFound ns f → is_some (get by_bytes f.places key) ≡ false → g.bytes.items ≡ (f.bytes.items ++ key.now) ++ 0 ∷ []
    → Updates by_bytes f.places g.places key (Some at) → at ≡ length f.bytes.items → AreFound (ns ++ key.now ∷ []) g
AreFound-push ns key f g at had absent bytes updates end =
    let none : find_place 1 ns key.now ≡ None = sym (had.places key) ∙ is_none (get by_bytes f.places key) absent in
    let here : at ≡ length (strings ns) = end ∙ ap length had.bytes in
    record {
      bytes = bytes ∙ ap (λ (b : List ℕ). (b ++ key.now) ++ 0 ∷ []) had.bytes ∙ sym (strings-push ns key.now);
      places = λ q. updates.0 q ∙ ap₂ (λ a b. cond a (Some at) b) (is_eq-slice_cmp key.now q.now) (had.places q) ∙ found_at ns key.now q.now at none here;
    }

-- a name that is not there, and isn't empty, is put behind the others
pub AreFound-more : (ns : List (List ℕ)) (key : Bor (List ℕ)) (f g : Found) (at : ℕ) → AreFound ns f → (length key.now == 0) ≡ false → is_some (get by_bytes f.places key) ≡ false
    → g.bytes.items ≡ (f.bytes.items ++ key.now) ++ 0 ∷ [] → Updates by_bytes f.places g.places key (Some at) → at ≡ length f.bytes.items → AreFound (with_name ns key.now) g
AreFound-more ns key f g at had some absent bytes updates end =
    let none : is_some (find_place 1 ns key.now) ≡ false = ap is_some (sym (had.places key)) ∙ absent in
    rw (some, none) (AreFound-push ns key f g at had absent bytes updates end)

pub used-none : used [] ≡ []
unfolding used
used-none = refl

pub used-more : (names : List (List ℕ)) (k : ℕ) (d : List ℕ) → k < length names → used (take (k + 1) names) ≡ with_name (used (take k names)) (get_or names k d)
unfolding used
used-more names k d below = fold_more with_name [] names k d below
