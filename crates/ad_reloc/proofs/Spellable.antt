-- Values of entries that aren't refused can be spelled, and their fields are as long as the format says.
use Rattle.std.proofs.Common.{◌≡◌, ℕ, zero, suc, ◌≤◌, ◌%◌, ◌==◌, ◌&&◌, ◌||◌, not, Bool, true, false, cond, find, inl, inr, List, [], ◌∷◌, Option, None, Some, slice_get, length, option_and_then, subst, ℤ, pos, neg_ℤ, refl, sym, ap, ◌∙◌, arith}
use Rattle.std.specs.List.{AllByRecursion}
use Rattle.std.specs.Option.{option_map, option_map_or, option_or}
use Rattle.std.specs.Prelude.{int_le, int_lt, unsigned_abs}
use Rattle.std.proofs.lemmas.Bool.{cases_Bool, eqb-true}
use Rattle.std.proofs.lemmas.Int.{ints}
use Rattle.ad_base.specs.declared.place.Place.{Place}
use Rattle.ad_elf.specs.Below.{first}
use Rattle.ad_elf.specs.Relocation.{width}
use Rattle.ad_elf.specs.declared.elf.TheConstants.{R_RISCV_BRANCH, R_RISCV_GOT_HI20, R_RISCV_JAL, R_RISCV_PCREL_HI20, SHN_UNDEF}
use Rattle.ad_elf.specs.declared.object.Object.{Object}
use Rattle.ad_elf.specs.declared.object.Rela.{Rela}
use Rattle.ad_elf.specs.declared.object.Symbol.{Symbol}
use Rattle.ad_isa.specs.Words.{IsMultiple}
use Rattle.ad_parts.specs.declared.layout.Layout.{Layout}
use Rattle.ad_tables.specs.declared.table_set.TableSet.{TableSet}
use Rattle.ad_tables.specs.Tables.{is_low}
use Rattle.ad_reloc.specs.declared.refusal.RelocRefusal.TheVariants.{CrossPart, Misaligned, MovablePointer, NoHi, Range, Unlisted}
use Rattle.ad_reloc.specs.declared.row.Row.{Row}
use Rattle.ad_reloc.specs.Addresses.{own_value}
use Rattle.ad_reloc.specs.Fields.{CanSpell, bytes_of}
use Rattle.ad_reloc.specs.Halves.{HasHalves}
use Rattle.ad_reloc.specs.Highs.{has_high_at, high_for, high_of, is_high, is_high_at}
use Rattle.ad_reloc.specs.Refusals.{crosses, is_among, is_even, is_misaligned, is_out_of_range, leaves_pointer, low_row, plain_row, row_of, value_of, value_row}
use Rattle.ad_reloc.specs.Relocated.{field_value}
use Rattle.ad_reloc.specs.Table.{TypeRow, row, rows}

halves_fit : (v : ℤ) → (int_lt v (neg_ℤ (pos 0x80000800)) || int_le (pos 0x7ffff800) v) ≡ false → HasHalves v
halves_fit v e = record { from = grind (arith, ints, e); to = grind (arith, ints, e) }

branch_fits : (v : ℤ) → (int_lt v (neg_ℤ (pos 4096)) || int_le (pos 4095) v) ≡ false → (unsigned_abs v % 2 == 0) ≡ true → IsMultiple 2 0x1000 v
branch_fits v e even = (grind (arith, ints, even), grind (arith, ints, e), grind (arith, ints, e))

jump_fits : (v : ℤ) → (int_lt v (neg_ℤ (pos 0x100000)) || int_le (pos 0xfffff) v) ≡ false → (unsigned_abs v % 2 == 0) ≡ true → IsMultiple 2 0x100000 v
jump_fits v e even = (grind (arith, ints, even), grind (arith, ints, e), grind (arith, ints, e))

-- what is in a row's range, and even where it has to be, or has halves where it is another entry's, can be spelled
abbrev pub is_out : Row → ℤ → Bool
is_out w v = option_map_or (λ (b : ℤ × ℤ). int_lt v b.0 || int_le b.1 v) w.range false

abbrev pub jumps : ℕ → Bool
jumps typ = is_among typ (R_RISCV_BRANCH ∷ R_RISCV_JAL ∷ [])

abbrev Spelled : TypeRow → Type 0
Spelled t = (n : ℕ) (v : ℤ) → (is_low t.typ ≡ true → HasHalves v) → (is_low t.typ ≡ false → is_out t.row v ≡ false) → (jumps t.typ ≡ true → is_even v ≡ true) → CanSpell t.row.form (field_value t.row.formula n v)

rows_spelled : AllByRecursion Spelled rows
unfolding rows
rows_spelled = (
  λ n v low out even. tt,
  (
    λ n v low out even. tt,
    (
      λ n v low out even. branch_fits v (out refl) (even refl),
      (
        λ n v low out even. jump_fits v (out refl) (even refl),
        (
          λ n v low out even. halves_fit v (out refl),
          (
            λ n v low out even. halves_fit v (out refl),
            (
              λ n v low out even. halves_fit v (out refl),
              (
                λ n v low out even. halves_fit v (out refl),
                (
                  λ n v low out even. low refl,
                  (
                    λ n v low out even. low refl,
                    (
                      λ n v low out even. tt,
                      (
                        λ n v low out even. tt,
                        (
                          λ n v low out even. tt,
                          (
                            λ n v low out even. tt,
                            (
                              λ n v low out even. tt,
                              (λ n v low out even. tt, tt),
                            ),
                          ),
                        ),
                      ),
                    ),
                  ),
                ),
              ),
            ),
          ),
        ),
      ),
    ),
  ),
)

-- a field is no longer than the format says
abbrev Wide : TypeRow → Type 0
Wide t = bytes_of t.row.form ≤ width t.typ

rows_wide : AllByRecursion Wide rows
unfolding rows width
rows_wide = (omega arith, (omega arith, (omega arith, (omega arith, (omega arith, (omega arith, (omega arith, (omega arith, (omega arith, (omega arith, (omega arith, (omega arith, (omega arith, (omega arith, (omega arith, (omega arith, tt))))))))))))))))

same_some : {X : Type 0} (a b : X) → Some a ≡ Some b → a ≡ b
same_some a b e = cc

pub clash : (b : Bool) → b ≡ true → b ≡ false → ⊥
clash b holds fails = cc

some_none : {X : Type 0} (x : X) → Some x ≡ None → ⊥
some_none x e = cc

found : {X : Type 0} (P : X → Type 0) (p : X → Bool) (xs : List X) (x : X) → AllByRecursion P xs → find p xs ≡ Some x → P x × (p x ≡ true)
found P p [] t all e = cc
found P p (x ∷ xs) t all e =
    elim (cases_Bool (p x)) [
      | inl here ↦ (let same = same_some x t (rw here at e) in (subst P same all.0, subst (λ y. p y ≡ true) same here))
      | inr other ↦ found P p xs t all.1 (rw other at e)
    ]

of_row : (x : Option TypeRow) (w : Row) → option_map (λ (t : TypeRow). t.row) x ≡ Some w → (t : TypeRow) × (x ≡ Some t) × (t.row ≡ w)
of_row None w e = cc
of_row (Some t) w e = (t, refl, same_some t.row w e)

pub fits_width : (typ : ℕ) (w : Row) → row typ ≡ Some w → bytes_of w.form ≤ width typ
unfolding row
fits_width typ w e =
    let t = of_row (find (λ (t : TypeRow). t.typ == typ) rows) w e in
    let here = found Wide (λ (t : TypeRow). t.typ == typ) rows t.0 rows_wide t.1 in
    subst (λ (w : Row). bytes_of w.form ≤ width typ) t.2 (subst (λ n. bytes_of t.0.row.form ≤ width n) (eqb-true t.0.typ typ here.1) here.0)

can_spell : (typ : ℕ) (w : Row) (n : ℕ) (v : ℤ) → row typ ≡ Some w → (is_low typ ≡ true → HasHalves v) → (is_low typ ≡ false → is_out_of_range typ v ≡ false) → (jumps typ ≡ true → is_even v ≡ true) → CanSpell w.form (field_value w.formula n v)
unfolding row is_out_of_range
can_spell typ w n v e low out even =
    let t = of_row (find (λ (t : TypeRow). t.typ == typ) rows) w e in
    let here = found Spelled (λ (t : TypeRow). t.typ == typ) rows t.0 rows_spelled t.1 in
    let same = eqb-true t.0.typ typ here.1 in
    let inside : is_low typ ≡ false → is_out w v ≡ false = λ other. rw e at (out other) in
    subst (λ (w : Row). CanSpell w.form (field_value w.formula n v)) t.2
    (here.0 n v (λ h. low (ap is_low (sym same) ∙ h)) (λ h. ap (λ w. is_out w v) t.2 ∙ inside (ap is_low (sym same) ∙ h)) (λ h. even (ap jumps (sym same) ∙ h)))

-- the high entry has a high half
last_holds : (test : ℕ → Bool) (n i : ℕ) (x : Option ℕ) → (x ≡ Some i → test i ≡ true) → option_or x (cond (test n) (Some n) None) ≡ Some i → test i ≡ true
last_holds test n i (Some j) before e = before e
last_holds test n i None before e =
    elim (cases_Bool (test n)) [
      | inl holds ↦ (subst (λ j. test j ≡ true) (same_some n i (rw holds at e)) holds)
      | inr fails ↦ (let none : None ≡ Some i = rw fails at e in cc)
    ]

pub first_holds : (test : ℕ → Bool) (n i : ℕ) → first test n ≡ Some i → test i ≡ true
unfolding first
first_holds test zero i e = cc
first_holds test (suc n) i e = last_holds test n i (first test n) (first_holds test n i) e

and_left : (a b : Bool) → (a && b) ≡ true → a ≡ true
and_left true b e = refl
and_left false b e = e

high_holds : (rs : List Rela) (target offset : ℕ) (x : Option ℕ) (h : Rela) → first (has_high_at rs target offset) (length rs) ≡ x → option_and_then (slice_get rs) x ≡ Some h → is_high h.typ ≡ true
high_holds rs target offset None h at e = cc
high_holds rs target offset (Some i) h at e =
    let here : option_map_or (is_high_at target offset) (slice_get rs i) false ≡ true = first_holds (has_high_at rs target offset) (length rs) i at in
    and_left (is_high h.typ) _ (rw e at here)

for_holds : (rs : List Rela) (r : Rela) (x : Option Symbol) (h : Rela) → option_and_then (high_for rs r) x ≡ Some h → is_high h.typ ≡ true
for_holds rs r None h e = cc
for_holds rs r (Some y) h e =
    elim (cases_Bool ((y.shndx == r.target) && not (y.shndx == SHN_UNDEF))) [
      | inl here ↦ high_holds rs r.target y.value (first (has_high_at rs r.target y.value) (length rs)) h refl (rw here at e)
      | inr other ↦ (let none : None ≡ Some h = rw other at e in cc)
    ]

high_is_high : (o : Object) (r h : Rela) → high_of o r ≡ Some h → is_high h.typ ≡ true
unfolding high_of
high_is_high o r h e =
    elim (cases_Bool (r.symbol == 0)) [
      | inl nothing ↦ (let none : None ≡ Some h = rw nothing at e in cc)
      | inr other ↦ for_holds o.relas r (slice_get o.symbols r.symbol) h (rw other at e)
    ]

at_high : (v : ℤ) → is_out_of_range R_RISCV_PCREL_HI20 v ≡ false → HasHalves v
unfolding is_out_of_range row rows
at_high v out = halves_fit v out

at_got : (v : ℤ) → is_out_of_range R_RISCV_GOT_HI20 v ≡ false → HasHalves v
unfolding is_out_of_range row rows
at_got v out = halves_fit v out

high_fits : (typ : ℕ) (v : ℤ) → is_high typ ≡ true → is_out_of_range typ v ≡ false → HasHalves v
high_fits typ v high out =
    elim (cases_Bool (typ == R_RISCV_PCREL_HI20)) [
      | inl here ↦ at_high v (subst (λ n. is_out_of_range n v ≡ false) (eqb-true typ R_RISCV_PCREL_HI20 here) out)
      | inr other ↦ (let got : (typ == R_RISCV_GOT_HI20) ≡ true = rw other at high in at_got v (subst (λ n. is_out_of_range n v ≡ false) (eqb-true typ R_RISCV_GOT_HI20 got) out))
    ]

-- an entry whose value can be had is in its range
value_in : (o : Object) (l : Layout) (t : TableSet) (fixed : Place) (asks r : Rela) → value_row o l t fixed asks r ≡ None → is_out_of_range r.typ (own_value o l t fixed r) ≡ false
unfolding value_row
value_in o l t fixed asks r e = by_crossing (crosses o l r) (is_out_of_range r.typ (own_value o l t fixed r)) e
  where
    by_crossing : (a b : Bool) → cond a (Some (CrossPart asks.section asks.entry)) (cond b (Some (Range asks.section asks.entry (own_value o l t fixed r))) None) ≡ None → b ≡ false
    by_crossing true b e = absurd (some_none _ e)
    by_crossing false true e = absurd (some_none _ e)
    by_crossing false false e = refl

low_value : (o : Object) (l : Layout) (t : TableSet) (fixed : Place) (r : Rela) (x : Option Rela) → high_of o r ≡ x → option_map_or (value_row o l t fixed r) x (Some (NoHi r.section r.entry)) ≡ None → HasHalves (option_map_or (own_value o l t fixed) x (pos 0))
low_value o l t fixed r None is e = absurd (some_none _ e)
low_value o l t fixed r (Some h) is e = high_fits h.typ (own_value o l t fixed h) (high_is_high o r h is) (value_in o l t fixed r h e)

-- an entry that is no low one, and isn't refused, is in its range and aligned
pub plain_fine : (o : Object) (l : Layout) (t : TableSet) (fixed : Place) (r : Rela) (k : ℕ) → plain_row o l t fixed r k ≡ None
    → (is_out_of_range r.typ (own_value o l t fixed r) ≡ false) × (is_misaligned o l r (own_value o l t fixed r) ≡ false)
unfolding plain_row
plain_fine o l t fixed r k e = by_tests (crosses o l r) (leaves_pointer o l r k) (is_out_of_range r.typ (own_value o l t fixed r)) (is_misaligned o l r (own_value o l t fixed r)) e
  where
    by_tests : (a b c d : Bool)
        → cond a (Some (CrossPart r.section r.entry)) (cond b (Some (MovablePointer r.section r.entry)) (cond c (Some (Range r.section r.entry (own_value o l t fixed r))) (cond d (Some (Misaligned r.section r.entry)) None))) ≡ None
        → (c ≡ false) × (d ≡ false)
    by_tests true b c d e = absurd (some_none _ e)
    by_tests false true c d e = absurd (some_none _ e)
    by_tests false false true d e = absurd (some_none _ e)
    by_tests false false false true e = absurd (some_none _ e)
    by_tests false false false false e = (refl, refl)

pub listed_fine : (o : Object) (l : Layout) (t : TableSet) (fixed : Place) (r : Rela) (k : ℕ) (w : Row) → row_of o l t fixed r k ≡ None → row r.typ ≡ Some w → cond (is_low r.typ) (low_row o l t fixed r) (plain_row o l t fixed r k) ≡ None
unfolding row_of
listed_fine o l t fixed r k w fine e = rw e at fine

-- its type is taken
pub listed : (o : Object) (l : Layout) (t : TableSet) (fixed : Place) (r : Rela) (k : ℕ) → row_of o l t fixed r k ≡ None → row r.typ ≡ None → ⊥
unfolding row_of
listed o l t fixed r k fine e = some_none (Unlisted r.typ) (rw e at fine)

even_where_aligned : (o : Object) (l : Layout) (r : Rela) (v : ℤ) → is_misaligned o l r v ≡ false → jumps r.typ ≡ true → is_even v ≡ true
unfolding is_misaligned
even_where_aligned o l r v fine jump = by_even (jumps r.typ) (is_even v) _ fine jump
  where
    by_even : (a b c : Bool) → ((a && not b) || c) ≡ false → a ≡ true → b ≡ true
    by_even a true c e h = refl
    by_even true false c e h = sym e
    by_even false false c e h = h

low_no_jump : (typ : ℕ) → is_low typ ≡ true → jumps typ ≡ false
low_no_jump typ low = grind (arith, low)

-- the value of an entry that isn't refused can be spelled
pub spellable : (o : Object) (l : Layout) (t : TableSet) (fixed : Place) (r : Rela) (k : ℕ) (w : Row) (n : ℕ) → row_of o l t fixed r k ≡ None → row r.typ ≡ Some w → CanSpell w.form (field_value w.formula n (value_of o l t fixed r))
unfolding value_of
spellable o l t fixed r k w n fine e =
    let rest = listed_fine o l t fixed r k w fine e in
    elim (cases_Bool (is_low r.typ)) [
      | inl low ↦ (let halves : HasHalves (option_map_or (own_value o l t fixed) (high_of o r) (pos 0)) = low_value o l t fixed r (high_of o r) refl (rw low at rest) in
          rw low (can_spell r.typ w n _ e (λ h. halves) (λ h. absurd (clash (is_low r.typ) low h)) (λ h. absurd (clash _ h (low_no_jump r.typ low)))))
      | inr plain ↦ (let fits = plain_fine o l t fixed r k (rw plain at rest) in
          rw plain (can_spell r.typ w n _ e (λ h. absurd (clash (is_low r.typ) h plain)) (λ h. fits.0) (even_where_aligned o l r _ fits.1)))
    ]
