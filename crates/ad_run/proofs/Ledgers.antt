-- Ledgers: that of the mappings of a kind, the rows that a ledger determines, and rows in order of number.
use Rattle.std.proofs.Common.{◌≡◌, inl, inr, ℕ, ◌+◌, ◌<◌, Bool, true, false, cond, eqb, ◌&&◌, List, [], ◌∷◌, ◌++◌, map, get_or, slice_get, Some, refl, sym, ap, subst, ◌∙◌, arith, zero, suc}
use Rattle.std.specs.Prelude.{find}
use Rattle.std.specs.List.{All, filter, sum_by}
use Rattle.std.specs.Option.{option_map_or}
use Rattle.std.proofs.lemmas.Bool.{cases_Bool}
use Rattle.std.proofs.lemmas.Bool.Decides.{eqb_tells}
use Rattle.std.proofs.lemmas.List.Elements.{All-filter}
use Rattle.std.proofs.lemmas.List.Sums.{sum_by-append, sum_by-cons}
use Rattle.std.proofs.lemmas.Option.{slice_get-get_or}
use Rattle.ad_base.specs.declared.ledger.Kind.{Kind}
use Rattle.ad_base.specs.declared.ledger.Kind.TheVariants.{Code, Fixed, Stack}
use Rattle.ad_base.specs.declared.ledger.Row.{Row}
use Rattle.ad_base.specs.Ledger.{IsLedger, IsRow, IsUnmappedOnce, Mapping, is_same_kind, is_same_thing, retired_line}
use Rattle.ad_lines.specs.Opening.{row_of}
use Rattle.ad_lines.proofs.Elements.{pairs-head, pairs-tail}
use Rattle.ad_lines.proofs.ListReads.{Each, each-tail}
use Rattle.ad_maps.specs.declared.view.Made.{Made}
use Rattle.ad_maps.specs.Steps.{made}
use Rattle.ad_run.proofs.Framed.{code_made, of_mapping_kind}
use Rattle.ad_run.proofs.Ordered.{Rises}

-- the rows of a kind
abbrev pub of_row_kind : Kind → List Row → List Row
of_row_kind kind rows = filter (λ (r : Row). is_same_kind kind r.kind) rows

pub same-kind-is : (a b : Kind) → is_same_kind a b ≡ true → a ≡ b
same-kind-is Code Code e = refl
same-kind-is Code Fixed e = absurd cc
same-kind-is Code Stack e = absurd cc
same-kind-is Fixed Code e = absurd cc
same-kind-is Fixed Fixed e = refl
same-kind-is Fixed Stack e = absurd cc
same-kind-is Stack Code e = absurd cc
same-kind-is Stack Fixed e = absurd cc
same-kind-is Stack Stack e = refl

-- ---- the ledger of a kind

-- whether a mapping retires, with what is behind it
retired-by : (m x : Mapping) (b : Bool) → is_same_thing m x ≡ b → (xs : List Mapping) → retired_line m (x ∷ xs) ≡ option_map_or (λ (n : Mapping). n.line) (cond b (Some x) (find (is_same_thing m) xs)) 0
retired-by m x b e xs = ap (λ (c : Bool). option_map_or (λ (n : Mapping). n.line) (cond c (Some x) (find (is_same_thing m) xs)) 0) e

retired-over : (m x : Mapping) (xs ys : List Mapping) → retired_line m xs ≡ retired_line m ys → retired_line m (x ∷ xs) ≡ retired_line m (x ∷ ys)
retired-over m x xs ys same = elim (cases_Bool (is_same_thing m x)) [
  | inl is ↦ retired-by m x true is xs ∙ sym (retired-by m x true is ys)
  | inr other ↦ retired-by m x false other xs ∙ same ∙ sym (retired-by m x false other ys)
]

-- a mapping of another kind retires nothing of this kind
other-thing : (kind : Kind) (m x : Mapping) → is_same_kind kind m.kind ≡ true → is_same_kind kind x.kind ≡ false → is_same_thing m x ≡ false
other-thing kind m x is other =
    let same = same-kind-is kind m.kind is in
    let apart : is_same_kind m.kind x.kind ≡ false = subst (λ (k : Kind). is_same_kind k x.kind ≡ false) same other in
    ap (λ (b : Bool). b && eqb m.who x.who) apart

retired-kind : (kind : Kind) (m : Mapping) (later : List Mapping) → is_same_kind kind m.kind ≡ true → retired_line m (of_mapping_kind kind later) ≡ retired_line m later
retired-kind kind m [] is = refl
retired-kind kind m (x ∷ xs) is =
    let rest = retired-kind kind m xs is in
    elim (cases_Bool (is_same_kind kind x.kind)) [
      | inl same ↦ ap (λ (b : Bool). retired_line m (cond b (x ∷ of_mapping_kind kind xs) (of_mapping_kind kind xs))) same ∙ retired-over m x (of_mapping_kind kind xs) xs rest
      | inr other ↦
          ap (λ (b : Bool). retired_line m (cond b (x ∷ of_mapping_kind kind xs) (of_mapping_kind kind xs))) other
          ∙ rest ∙ sym (retired-by m x false (other-thing kind m x is other) xs)
    ]

pub ledger-kind : (kind : Kind) (ms : List Mapping) (rs : List Row) → IsLedger ms rs → IsLedger (of_mapping_kind kind ms) (of_row_kind kind rs)
ledger-kind kind [] rs h = ap (of_row_kind kind) h
ledger-kind kind (m ∷ ms) [] h = absurd h
ledger-kind kind (m ∷ ms) (r ∷ rs) h =
    let rest = ledger-kind kind ms rs h.1 in
    let P : Bool → Bool → Type 0 = λ a b. IsLedger (cond a (m ∷ of_mapping_kind kind ms) (of_mapping_kind kind ms)) (cond b (r ∷ of_row_kind kind rs) (of_row_kind kind rs)) in
    let same : is_same_kind kind m.kind ≡ is_same_kind kind r.kind = ap (is_same_kind kind) (sym h.0.kind) in
    subst (P (is_same_kind kind m.kind)) same
    (elim (cases_Bool (is_same_kind kind m.kind)) [
      | inl is ↦
          let first : IsRow m (of_mapping_kind kind ms) r = record { number = h.0.number; kind = h.0.kind; who = h.0.who; place = h.0.place; line = h.0.line ∙ sym (retired-kind kind m ms is) } in
          let both : P true true = (first, rest) in
          subst (λ (b : Bool). P b b) (sym is) both
      | inr other ↦
          let both : P false false = rest in
          subst (λ (b : Bool). P b b) (sym other) both
    ])

-- ---- rows that a ledger determines

same-unmaps : (x y : Row) → x.line ≡ y.line → IsUnmappedOnce x → IsUnmappedOnce y → x.unmaps ≡ y.unmaps
same-unmaps x y same a b = elim (eqb_tells x.line 0) [
  | inl none ↦ a.never none.1 ∙ sym (b.never (sym same ∙ none.1))
  | inr some ↦ a.once some.1 ∙ sym (b.once (λ e. some.1 (same ∙ e)))
]

same-row : (m : Mapping) (later : List Mapping) (x y : Row) → IsRow m later x → IsRow m later y → IsUnmappedOnce x → IsUnmappedOnce y → x ≡ y
same-row m later x y a b once_x once_y =
    let number = a.number ∙ sym b.number in
    let kind = a.kind ∙ sym b.kind in
    let who = a.who ∙ sym b.who in
    let place = a.place ∙ sym b.place in
    let line = a.line ∙ sym b.line in
    let unmaps = same-unmaps x y line once_x once_y in
    λ j. record { mapping = number j; kind = kind j; who = who j; place = place j; line = line j; unmaps = unmaps j }

pub ledger-same : (ms : List Mapping) (xs ys : List Row) → IsLedger ms xs → IsLedger ms ys → Each IsUnmappedOnce xs → Each IsUnmappedOnce ys → xs ≡ ys
ledger-same [] xs ys a b once_x once_y = a ∙ sym b
ledger-same (m ∷ ms) [] ys a b once_x once_y = absurd a
ledger-same (m ∷ ms) (x ∷ xs) [] a b once_x once_y = absurd b
ledger-same (m ∷ ms) (x ∷ xs) (y ∷ ys) a b once_x once_y =
    let first = same-row m ms x y a.0 b.0 (once_x 0 x refl) (once_y 0 y refl) in
    let rest = ledger-same ms xs ys a.1 b.1 (each-tail IsUnmappedOnce x xs once_x) (each-tail IsUnmappedOnce y ys once_y) in
    λ j. first j ∷ rest j

-- rows that no line retired are new rows
new-row : (m : Mapping) (later : List Mapping) (x : Row) → IsRow m later x → IsUnmappedOnce x → x.line ≡ 0 → x ≡ row_of m
new-row m later x a once none =
    let unmaps = once.never none in
    λ j. record { mapping = a.number j; kind = a.kind j; who = a.who j; place = a.place j; line = none j; unmaps = unmaps j }

pub ledger-new : (ms : List Mapping) (xs : List Row) → IsLedger ms xs → Each IsUnmappedOnce xs → Each (λ (r : Row). r.line ≡ 0) xs → xs ≡ map row_of ms
ledger-new [] xs a once none = a
ledger-new (m ∷ ms) [] a once none = absurd a
ledger-new (m ∷ ms) (x ∷ xs) a once none =
    let first = new-row m ms x a.0 (once 0 x refl) (none 0 x refl) in
    let rest = ledger-new ms xs a.1 (each-tail IsUnmappedOnce x xs once) (each-tail (λ (r : Row). r.line ≡ 0) x xs none) in
    λ j. first j ∷ rest j

-- the places of rows, and what rows of movable parts tell, are those of the mappings
pub ledger-places : (ms : List Mapping) (xs : List Row) → IsLedger ms xs → map (λ (r : Row). r.place) xs ≡ map (λ (m : Mapping). m.place) ms
ledger-places [] xs a = ap (map (λ (r : Row). r.place)) a
ledger-places (m ∷ ms) [] a = absurd a
ledger-places (m ∷ ms) (x ∷ xs) a = λ j. a.0.place j ∷ ledger-places ms xs a.1 j

abbrev pub row_made : Row → Made
row_made r = made r.who r.place

pub ledger-made : (ms : List Mapping) (xs : List Row) → IsLedger ms xs → map row_made xs ≡ map code_made ms
ledger-made [] xs a = ap (map row_made) a
ledger-made (m ∷ ms) [] a = absurd a
ledger-made (m ∷ ms) (x ∷ xs) a = λ j. made (a.0.who j) (a.0.place j) ∷ ledger-made ms xs a.1 j

-- ---- order of number

module _ {X : Type 0} (n : X → ℕ) where
  -- what is numbered from 1 rises
  pub numbered-rises : (xs : List X) → ((k : ℕ) (x : X) → slice_get xs k ≡ Some x → n x ≡ k + 1) → Rises n xs
  numbered-rises xs h i j d less within =
      let a = h i (get_or xs i d) (slice_get-get_or xs i d (omega (arith, less, within))) in
      let b = h j (get_or xs j d) (slice_get-get_or xs j d within) in
      omega (arith, a, b, less)

  rises-cons : (x : X) (xs : List X) → All (λ y. n x < n y) xs → Rises n xs → Rises n (x ∷ xs)
  rises-cons x xs above h zero zero d less within = absurd (omega arith)
  rises-cons x xs above h zero (suc j) d less within = above j d (omega arith)
  rises-cons x xs above h (suc i) zero d less within = absurd (omega arith)
  rises-cons x xs above h (suc i) (suc j) d less within = h i j d (omega arith) (omega arith)

  -- so does what a test keeps of it
  pub rises-filter : (p : X → Bool) (xs : List X) → Rises n xs → Rises n (filter p xs)
  rises-filter p [] h = h
  rises-filter p (x ∷ xs) h =
      let rest = rises-filter p xs (pairs-tail (λ (a b : X). n a < n b) x xs h) in
      let above = All-filter p (λ y. n x < n y) xs (pairs-head (λ (a b : X). n a < n b) x xs h) in
      elim (p x) as (λ (b : Bool). Rises n (cond b (x ∷ filter p xs) (filter p xs))) [
        | true ↦ rises-cons x (filter p xs) above rest
        | false ↦ rest
      ]

-- ---- the rows of the three kinds are all rows

module _ (f : Row → ℕ) where
  sum-cond : (b : Bool) (r : Row) (xs : List Row) → sum_by f (cond b (r ∷ xs) xs) ≡ cond b (f r) 0 + sum_by f xs
  sum-cond true r xs = sum_by-cons f r xs
  sum-cond false r xs = omega arith

  one-kind : (k : Kind) (n : ℕ) → cond (is_same_kind Code k) n 0 + cond (is_same_kind Stack k) n 0 + cond (is_same_kind Fixed k) n 0 ≡ n
  one-kind Code n = omega arith
  one-kind Fixed n = omega arith
  one-kind Stack n = omega arith

  sum-each : (rs : List Row) → sum_by f (of_row_kind Code rs) + sum_by f (of_row_kind Stack rs) + sum_by f (of_row_kind Fixed rs) ≡ sum_by f rs
  sum-each [] = refl
  sum-each (r ∷ rs) =
      let rest = sum-each rs in
      let code = sum-cond (is_same_kind Code r.kind) r (of_row_kind Code rs) in
      let stack = sum-cond (is_same_kind Stack r.kind) r (of_row_kind Stack rs) in
      let fixed = sum-cond (is_same_kind Fixed r.kind) r (of_row_kind Fixed rs) in
      let one = one-kind r.kind (f r) in
      let all = sum_by-cons f r rs in
      omega (arith, rest, code, stack, fixed, one, all)

  pub sum-kinds : (rs : List Row) → sum_by f (of_row_kind Code rs ++ of_row_kind Stack rs ++ of_row_kind Fixed rs) ≡ sum_by f rs
  sum-kinds rs =
      sum_by-append f (of_row_kind Code rs ++ of_row_kind Stack rs) (of_row_kind Fixed rs)
      ∙ ap (λ n. n + sum_by f (of_row_kind Fixed rs)) (sum_by-append f (of_row_kind Code rs) (of_row_kind Stack rs))
      ∙ sum-each rs
