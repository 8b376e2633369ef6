-- The rows of mappings: numbered from 1, one of them retired, one more behind them.
use Rattle.std.proofs.Common.{◌≡◌, ℕ, zero, suc, ◌+◌, ◌<◌, ◌==◌, List, [], ◌∷◌, ◌++◌, length, map, get_or, slice_get, Some, refl, sym, ap, subst, ◌∙◌, arith}
use Rattle.std.proofs.Math.ListN.{set}
use Rattle.std.proofs.lemmas.Bool.{cond_both}
use Rattle.std.proofs.lemmas.Bool.Decides.{nat_tests}
use Rattle.std.proofs.lemmas.List.{length-map, length_push}
use Rattle.ad_base.specs.declared.ledger.Kind.{Kind}
use Rattle.ad_base.specs.declared.ledger.Row.{Row}
use Rattle.ad_base.specs.declared.place.Place.{Place}
use Rattle.ad_base.specs.Count.{risen}
use Rattle.ad_lines.specs.LineRun.{new_row, replaced, retired}
use Rattle.ad_lines.specs.Private.Places.{AreNumbered, IsMappingList}

-- rows are numbered from a number on
abbrev pub NumberedFrom : ℕ → List Row → Type 0
NumberedFrom n rows = (k : ℕ) (r : Row) → slice_get rows k ≡ Some r → r.mapping ≡ k + n

abbrev pub retired_row : ℕ → Row → Row
retired_row line r = record { mapping = r.mapping; kind = r.kind; who = r.who; place = r.place; line = line; unmaps = risen r.unmaps }

pub numbered-tail : (n : ℕ) (r : Row) (rs : List Row) → NumberedFrom n (r ∷ rs) → NumberedFrom (n + 1) rs
numbered-tail n r rs h k x e = let is = h (suc k) x e in omega (arith, is)

-- the row of another number stays, and that of the number is retired
pub retired-else : (number line : ℕ) (r : Row) → (r.mapping ≡ number → ⊥) → retired number line r ≡ r
retired-else number line r other = grind (arith, nat_tests)

pub retired-here : (number line : ℕ) (r : Row) → r.mapping ≡ number → retired number line r ≡ retired_row line r
retired-here number line r here = grind (arith, nat_tests)

-- so rows numbered behind a number stay
pub retired-behind : (number line n : ℕ) (rows : List Row) → NumberedFrom n rows → number < n → map (retired number line) rows ≡ rows
retired-behind number line n [] h low = refl
retired-behind number line n (r ∷ rs) h low =
    let is = h 0 r refl in
    let first = retired-else number line r (λ e. absurd (omega (arith, is, e))) in
    let rest = retired-behind number line (n + 1) rs (numbered-tail n r rs h) (omega arith) in
    λ j. first j ∷ rest j

-- the row at a place is written
pub retired-at : (n : ℕ) (rows : List Row) (k line : ℕ) (old : Row) → NumberedFrom n rows → k < length rows → old ≡ get_or rows k old → set rows k (retired_row line old) ≡ map (retired (k + n) line) rows
retired-at n [] k line old h within is = absurd (omega arith)
retired-at n (r ∷ rs) zero line old h within is =
    let number = h 0 r refl in
    let rest = retired-behind (0 + n) line (n + 1) rs (numbered-tail n r rs h) (omega arith) in
    let first : retired_row line old ≡ retired (0 + n) line r = ap (retired_row line) is ∙ sym (retired-here (0 + n) line r number) in
    λ j. first j ∷ sym rest j
retired-at n (r ∷ rs) (suc k) line old h within is =
    let number = h 0 r refl in
    let first : retired (suc k + n) line r ≡ r = retired-else (suc k + n) line r (λ e. absurd (omega (arith, number, e))) in
    let rest = retired-at (n + 1) rs k line old (numbered-tail n r rs h) (omega arith) is in
    let same : k + (n + 1) ≡ suc k + n = omega arith in
    (λ j. sym first j ∷ rest j) ∙ ap (λ m. retired (suc k + n) line r ∷ map (retired m line) rs) same

-- a retired row keeps its number
pub retired-number : (number line : ℕ) (r : Row) → (retired number line r).mapping ≡ r.mapping
retired-number number line r = cond_both (r.mapping == number) (retired_row line r) r (λ (x : Row). x.mapping ≡ r.mapping) (λ e. refl) (λ e. refl)

pub numbered-map : (f : Row → Row) → ((r : Row) → (f r).mapping ≡ r.mapping) → (n : ℕ) (rows : List Row) → NumberedFrom n rows → NumberedFrom n (map f rows)
numbered-map f same n (r ∷ rs) h zero x e = let first : f r ≡ x = cc in sym (ap (λ (y : Row). y.mapping) first) ∙ same r ∙ h 0 r refl
numbered-map f same n (r ∷ rs) h (suc k) x e = let rest = numbered-map f same (n + 1) rs (numbered-tail n r rs h) k x e in omega (arith, rest)
numbered-map f same n [] h k x e = absurd cc

pub numbered-push : (n : ℕ) (rows : List Row) (r : Row) → NumberedFrom n rows → r.mapping ≡ length rows + n → NumberedFrom n (rows ++ r ∷ [])
numbered-push n [] r h is zero x e = let same : r ≡ x = cc in sym (ap (λ (y : Row). y.mapping) same) ∙ is
numbered-push n [] r h is (suc k) x e = absurd cc
numbered-push n (y ∷ ys) r h is zero x e = h 0 x e
numbered-push n (y ∷ ys) r h is (suc k) x e =
    let rest = numbered-push (n + 1) ys r (numbered-tail n y ys h) (omega (arith, is)) k x e in omega (arith, rest)

-- a list of mappings goes on as one
pub list-replaced : (places more : List Place) (rows new_rows : List Row) (capacity number line who : ℕ) (kind : Kind) (old new : Place)
    → IsMappingList places rows capacity → new_rows ≡ replaced rows line kind who old new → new.mapping ≡ length places + 1 → length more ≡ length places + 1
    → IsMappingList more new_rows capacity
list-replaced places more rows new_rows capacity number line who kind old new l e is long =
    let kept = map (retired old.mapping line) rows in
    let size = length-map rows (retired old.mapping line) in
    let pushed = numbered-push 1 kept (new_row kind who new) (numbered-map (retired old.mapping line) (retired-number old.mapping line) 1 rows l.numbered) (omega (arith, is, size, l.each)) in
    record {
      numbered = subst AreNumbered (sym e) pushed;
      each = omega (arith, ap length e, length_push kept (new_row kind who new), size, l.each, long);
      room = l.room;
    }
