-- The ledger once one more mapping was made: it retires the last one of the same thing.
use Rattle.std.proofs.Common.{◌≡◌, ℕ, zero, suc, ◌+◌, ◌≤◌, true, false, ◌==◌, ◌&&◌, if◌then◌else◌, List, [], ◌∷◌, ◌++◌, map, slice_get, Some, inl, inr, refl, sym, ap, subst, ◌∙◌, eq-eqb, arith}
use Rattle.std.specs.Prelude.{find}
use Rattle.std.specs.Option.{option_map_or}
use Rattle.std.proofs.lemmas.Bool.{cases_Bool}
use Rattle.std.proofs.lemmas.Bool.Decides.{nat_tests}
use Rattle.ad_base.specs.declared.ledger.Kind.{Kind}
use Rattle.ad_base.specs.declared.ledger.Kind.TheVariants.{Code, Fixed, Stack}
use Rattle.ad_base.specs.declared.ledger.Row.{Row}
use Rattle.ad_base.specs.declared.place.Place.{Place}
use Rattle.ad_base.specs.Ledger.{IsLedger, IsRow, Mapping, is_same_kind, is_same_thing, retired_line}
use Rattle.ad_lines.specs.LineRun.{retired}
use Rattle.ad_lines.specs.Opening.{row_of}
use Rattle.ad_lines.proofs.ListReads.{Each, each-push, each-tail}
use Rattle.ad_lines.proofs.Rows.{NumberedFrom, numbered-tail, retired-behind, retired-else, retired-here, retired_row}

-- being of the same thing has no direction
kind-sym : (a b : Kind) → is_same_kind a b ≡ is_same_kind b a
kind-sym Code Code = refl
kind-sym Code Fixed = refl
kind-sym Code Stack = refl
kind-sym Fixed Code = refl
kind-sym Fixed Fixed = refl
kind-sym Fixed Stack = refl
kind-sym Stack Code = refl
kind-sym Stack Fixed = refl
kind-sym Stack Stack = refl

pub kind-same : (a : Kind) → is_same_kind a a ≡ true
kind-same Code = refl
kind-same Fixed = refl
kind-same Stack = refl

eqb-sym : (a b : ℕ) → (a == b) ≡ (b == a)
eqb-sym a b = grind (arith, nat_tests)

thing-sym : (m n : Mapping) → is_same_thing m n ≡ is_same_thing n m
thing-sym m n = λ j. kind-sym m.kind n.kind j && eqb-sym m.who n.who j

pub thing-same : (m n : Mapping) → m.kind ≡ n.kind → m.who ≡ n.who → is_same_thing m n ≡ true
thing-same m n k w = (λ j. is_same_kind (k j) n.kind && (w j == n.who)) ∙ (λ j. kind-same n.kind j && eq-eqb n.who n.who refl j)

-- the line that retires a mapping, by the first of those behind it
module _ (m x : Mapping) (xs : List Mapping) where
  retired-first : is_same_thing m x ≡ true → retired_line m (x ∷ xs) ≡ x.line
  retired-first e = ap (λ b. option_map_or (λ (n : Mapping). n.line) (if b then Some x else find (is_same_thing m) xs) 0) e

  pub retired-next : is_same_thing m x ≡ false → retired_line m (x ∷ xs) ≡ retired_line m xs
  retired-next e = ap (λ b. option_map_or (λ (n : Mapping). n.line) (if b then Some x else find (is_same_thing m) xs) 0) e

module _ (m n : Mapping) where
  -- a mapping of another thing retires nothing
  retired-other : (later : List Mapping) → is_same_thing m n ≡ false → retired_line m (later ++ n ∷ []) ≡ retired_line m later
  retired-other [] other = retired-next m n [] other
  retired-other (x ∷ xs) other = elim (cases_Bool (is_same_thing m x)) [
    | inl same ↦ retired-first m x (xs ++ n ∷ []) same ∙ sym (retired-first m x xs same)
    | inr apart ↦ retired-next m x (xs ++ n ∷ []) apart ∙ retired-other xs other ∙ sym (retired-next m x xs apart)
  ]

  -- what was retired stays so
  retired-before : (later : List Mapping) (k : ℕ) (y : Mapping) → slice_get later k ≡ Some y → is_same_thing m y ≡ true → retired_line m (later ++ n ∷ []) ≡ retired_line m later
  retired-before [] k y e is = absurd cc
  retired-before (x ∷ xs) zero y e is =
      let here : x ≡ y = cc in
      let same : is_same_thing m x ≡ true = ap (is_same_thing m) here ∙ is in
      retired-first m x (xs ++ n ∷ []) same ∙ sym (retired-first m x xs same)
  retired-before (x ∷ xs) (suc k) y e is = elim (cases_Bool (is_same_thing m x)) [
    | inl same ↦ retired-first m x (xs ++ n ∷ []) same ∙ sym (retired-first m x xs same)
    | inr apart ↦ retired-next m x (xs ++ n ∷ []) apart ∙ retired-before xs k y e is ∙ sym (retired-next m x xs apart)
  ]

  -- what none of those before retired is retired now
  retired-now : (later : List Mapping) → Each (λ x. is_same_thing m x ≡ false) later → is_same_thing m n ≡ true → retired_line m (later ++ n ∷ []) ≡ n.line
  retired-now [] none is = retired-first m n [] is
  retired-now (x ∷ xs) none is = retired-next m x (xs ++ n ∷ []) (none 0 x refl) ∙ retired-now xs (each-tail (λ y. is_same_thing m y ≡ false) x xs none) is

-- of one thing, each later mapping was made by a line
abbrev pub IsMadeLater : List Mapping → Type 0
IsMadeLater [] = Unit {0}
IsMadeLater (m ∷ ms) = Each (λ x. is_same_thing m x ≡ true → 1 ≤ x.line) ms × IsMadeLater ms

pub later-push : (ms : List Mapping) (n : Mapping) → IsMadeLater ms → 1 ≤ n.line → IsMadeLater (ms ++ n ∷ [])
later-push [] n h made = ((λ k x e. absurd cc), tt)
later-push (m ∷ ms) n h made = (each-push (λ x. is_same_thing m x ≡ true → 1 ≤ x.line) ms n h.0 (λ same. made), later-push ms n h.1 made)

-- so what has no line is the last of its thing
last-by : (m y : Mapping) (ys : List Mapping) → is_same_thing m y ≡ false → Each (λ x. is_same_thing m x ≡ false) ys → Each (λ x. is_same_thing m x ≡ false) (y ∷ ys)
last-by m y ys apart rest zero x e = let same : y ≡ x = cc in sym (ap (is_same_thing m) same) ∙ apart
last-by m y ys apart rest (suc k) x e = rest k x e

last-of : (m : Mapping) (later : List Mapping) → Each (λ x. is_same_thing m x ≡ true → 1 ≤ x.line) later → retired_line m later ≡ 0 → Each (λ x. is_same_thing m x ≡ false) later
last-of m [] made none = λ k x e. absurd cc
last-of m (y ∷ ys) made none = elim (cases_Bool (is_same_thing m y)) [
  | inl same ↦ absurd (omega (arith, made 0 y refl same, retired-first m y ys same, none))
  | inr apart ↦ last-by m y ys apart (last-of m ys (each-tail (λ z. is_same_thing m z ≡ true → 1 ≤ z.line) y ys made) (sym (retired-next m y ys apart) ∙ none))
]

none-read : (rows : List Row) → rows ≡ [] → (k : ℕ) (r : Row) → slice_get rows k ≡ Some r → ⊥
none-read [] l k r e = cc
none-read (x ∷ xs) l k r e = cc

-- a row is that of a mapping
pub mapping-at : (all : List Mapping) (rows : List Row) → IsLedger all rows → (k : ℕ) (r : Row) → slice_get rows k ≡ Some r → (m : Mapping) × (slice_get all k ≡ Some m) × (r.kind ≡ m.kind) × (r.who ≡ m.who)
mapping-at [] rows l k r e = absurd (none-read rows l k r e)
mapping-at (m ∷ later) [] l k r e = absurd l
mapping-at (m ∷ later) (x ∷ rows) l zero r e = let same : x ≡ r = cc in (m, refl, sym (ap (λ (y : Row). y.kind) same) ∙ l.0.kind, sym (ap (λ (y : Row). y.who) same) ∙ l.0.who)
mapping-at (m ∷ later) (x ∷ rows) l (suc k) r e = mapping-at later rows l.1 k r e

-- a row has the number of its place
pub number-at : (all : List Mapping) (rows : List Row) → IsLedger all rows → (k : ℕ) (r : Row) → slice_get rows k ≡ Some r → r.mapping ≡ r.place.mapping
number-at [] rows l k r e = absurd (none-read rows l k r e)
number-at (m ∷ later) [] l k r e = absurd l
number-at (m ∷ later) (x ∷ rows) l zero r e = let same : x ≡ r = cc in subst (λ (y : Row). y.mapping ≡ y.place.mapping) same (l.0.number ∙ sym (ap (λ (q : Place). q.mapping) l.0.place))
number-at (m ∷ later) (x ∷ rows) l (suc k) r e = number-at later rows l.1 k r e

-- a mapping of another thing than all before is only added
ledger-apart : (later : List Mapping) (rows : List Row) (n : Mapping) → Each (λ x. is_same_thing x n ≡ false) later → IsLedger later rows → IsLedger (later ++ n ∷ []) (rows ++ row_of n ∷ [])
ledger-apart [] [] n apart l = (record { number = refl; kind = refl; who = refl; place = refl; line = refl }, refl)
ledger-apart [] (r ∷ rows) n apart l = absurd cc
ledger-apart (m ∷ later) [] n apart l = absurd l
ledger-apart (m ∷ later) (r ∷ rows) n apart l = (
  record { number = l.0.number; kind = l.0.kind; who = l.0.who; place = l.0.place; line = l.0.line ∙ sym (retired-other m n later (apart 0 m refl)) },
  ledger-apart later rows n (each-tail (λ x. is_same_thing x n ≡ false) m later apart) l.1,
)

-- a mapping of a thing retires the row of the last one of it
pub ledger-push : (all : List Mapping) (rows : List Row) (n : Mapping) (number first : ℕ) → NumberedFrom first rows → IsLedger all rows → IsMadeLater all
    → (k : ℕ) (c : Row) → slice_get rows k ≡ Some c → c.kind ≡ n.kind → c.who ≡ n.who → c.line ≡ 0 → number ≡ k + first
    → IsLedger (all ++ n ∷ []) (map (retired number n.line) rows ++ row_of n ∷ [])
ledger-push [] rows n number first numbers l made k c e kind who none at = absurd (none-read rows l k c e)
ledger-push (m ∷ later) [] n number first numbers l made k c e kind who none at = absurd l
ledger-push (m ∷ later) (r ∷ rows) n number first numbers l made zero c e kind who none at =
    let here : r ≡ c = cc in
    let same_kind : m.kind ≡ n.kind = sym l.0.kind ∙ ap (λ (x : Row). x.kind) here ∙ kind in
    let same_who : m.who ≡ n.who = sym l.0.who ∙ ap (λ (x : Row). x.who) here ∙ who in
    let is = thing-same m n same_kind same_who in
    let line : retired_line m later ≡ 0 = sym l.0.line ∙ ap (λ (x : Row). x.line) here ∙ none in
    let last = last-of m later made.0 line in
    let apart : Each (λ x. is_same_thing x n ≡ false) later = λ j x f. (λ i. is_same_kind x.kind (sym same_kind i) && (x.who == sym same_who i)) ∙ thing-sym x m ∙ last j x f in
    let row = retired-here number n.line r (numbers 0 r refl ∙ sym at) in
    let rest = retired-behind number n.line (first + 1) rows (numbered-tail first r rows numbers) (omega (arith, at)) in
    let first_row : IsRow m (later ++ n ∷ []) (retired_row n.line r) = record { number = l.0.number; kind = l.0.kind; who = l.0.who; place = l.0.place; line = sym (retired-now m n later last is) } in (
      subst (IsRow m (later ++ n ∷ [])) (sym row) first_row,
      subst (λ xs. IsLedger (later ++ n ∷ []) (xs ++ row_of n ∷ [])) (sym rest) (ledger-apart later rows n apart l.1),
    )
ledger-push (m ∷ later) (r ∷ rows) n number first numbers l made (suc k) c e kind who none at =
    let row = retired-else number n.line r (λ f. absurd (omega (arith, numbers 0 r refl, f, at))) in
    let found = mapping-at later rows l.1 k c e in
    let same : is_same_thing m found.0 ≡ is_same_thing m n = λ i. is_same_kind m.kind ((sym found.2 ∙ kind) i) && (m.who == (sym found.3 ∙ who) i) in
    let kept : retired_line m (later ++ n ∷ []) ≡ retired_line m later = elim (cases_Bool (is_same_thing m n)) [
      | inl is ↦ retired-before m n later k found.0 found.1 (same ∙ is)
      | inr other ↦ retired-other m n later other
    ] in
    let first_row : IsRow m (later ++ n ∷ []) r = record { number = l.0.number; kind = l.0.kind; who = l.0.who; place = l.0.place; line = l.0.line ∙ sym kept } in (
      subst (IsRow m (later ++ n ∷ [])) (sym row) first_row,
      ledger-push later rows n number (first + 1) (numbered-tail first r rows numbers) l.1 made.1 k c e kind who none (omega (arith, at)),
    )
