-- The fields of entries lie in their parts, and those that make words on the words of the local area.
use Rattle.std.proofs.Common.{◌≡◌, inl, inr, ℕ, zero, suc, ◌+◌, ◌*◌, ◌-◌, ◌/◌, ◌%◌, ◌<◌, ◌≤◌, ◌==◌, ◌&&◌, ◌||◌, not, Bool, true, false, ℤ, List, [], ◌∷◌, Option, Some, None, get_or, length, subst, refl, sym, ap, ◌∙◌, arith}
use Rattle.std.specs.List.{AllPairs, AllZip, Any}
use Rattle.std.proofs.lemmas.Bool.{cases_Bool, eqb-true}
use Rattle.ad_base.specs.declared.place.Place.{Place}
use Rattle.ad_elf.specs.Range.{IsInRange, IsRelaInRange}
use Rattle.ad_elf.specs.Relocation.{width}
use Rattle.ad_elf.specs.declared.elf.TheConstants.{R_RISCV_64}
use Rattle.ad_elf.specs.declared.object.Object.{Object}
use Rattle.ad_elf.specs.declared.object.Rela.{Rela}
use Rattle.ad_elf.specs.declared.object.Section.{Section}
use Rattle.ad_parts.specs.Area.{area_in}
use Rattle.ad_parts.specs.Layout.{area_from, area_to, ends, sizes}
use Rattle.ad_parts.specs.Parts.{IsLayout}
use Rattle.ad_parts.specs.Symbols.{LiesInArea, area_at, spot_of}
use Rattle.ad_parts.specs.declared.layout.Group.{Group}
use Rattle.ad_parts.specs.declared.layout.Group.TheVariants as group
use Rattle.ad_parts.specs.declared.layout.Layout.{Layout}
use Rattle.ad_parts.specs.declared.layout.Sizes.{Sizes}
use Rattle.ad_parts.specs.declared.layout.Spot.{Spot}
use Rattle.ad_parts.proofs.Fitted.{law_sections}
use Rattle.ad_tables.specs.Tables.{AreTables, is_low, section_words}
use Rattle.ad_tables.specs.declared.table_set.TableSet.{TableSet}
use Rattle.ad_reloc.specs.Addresses.{field_offset, own_value}
use Rattle.ad_reloc.specs.Image.{makes_word, part_of}
use Rattle.ad_reloc.specs.Image.{Parts as Lists}
use Rattle.ad_reloc.specs.Private.Parts.{ArePointersFine, FieldsFit, HasField, IsPointerFine}
use Rattle.ad_reloc.specs.Refusals.{first_row, in_local_area, is_local_group, is_misaligned, moves, row_of}
use Rattle.ad_reloc.specs.declared.row.Row.{Row}
use Rattle.ad_reloc.specs.Table.{row}
use Rattle.ad_reloc.proofs.Applying.{fine_entry}
use Rattle.ad_reloc.proofs.Fitted.{IsOf, kinds, spot_inside}
use Rattle.ad_reloc.proofs.Linkable.{local_fits}
use Rattle.ad_reloc.proofs.Spellable.{listed, listed_fine, plain_fine}

-- the spot of a section of this number that has so many bytes
record IsFound (z : Sizes) (spots : List Spot) (target n : ℕ) : Type 0 where
  spot : Spot
  found : spot_of spots target ≡ Some spot
  from : area_from z (area_at spot) ≤ spot.offset
  upto : spot.offset + n ≤ area_to z (area_at spot)
  inside : area_to z (area_at spot) ≤ area_to z (area_in spot.movable group.Writable)

record IsTarget (target n : ℕ) (s : Section) : Type 0 where
  number : s.index ≡ target
  long : n ≤ s.size

rises : Section → Section → Type 0
rises s t = s.index < t.index

long_here : (target n : ℕ) (s : Section) (ss : List Section) → AllPairs (λ (s t : Section). s.index < t.index) (s ∷ ss) → s.index ≡ target → (k : ℕ) (x : Section) → k < length (s ∷ ss) → get_or (s ∷ ss) k x ≡ x → IsTarget target n x → n ≤ s.size
long_here target n s ss rise here zero x below at is = omega (arith, is.long, ap (λ (s : Section). s.size) at)
long_here target n s ss rise here (suc k) x below at is =
    absurd (omega (arith, rise 0 (suc k) x (omega arith) below, ap (λ (s : Section). s.index) at, is.number, here))

any_later : (target n : ℕ) (s : Section) (ss : List Section) → (s.index ≡ target → ⊥) → (k : ℕ) (x : Section) → k < length (s ∷ ss) → get_or (s ∷ ss) k x ≡ x → IsTarget target n x → Any (IsTarget target n) ss
any_later target n s ss other zero x below at is = absurd (other (ap (λ (s : Section). s.index) at ∙ is.number))
any_later target n s ss other (suc k) x below at is = (k, x, omega (arith, below), at, is)

not_equal : (a b c : ℕ) → (a == b) ≡ false → a ≡ c → c ≡ b → ⊥
not_equal a b c other same e = grind (arith, other, same, e)

find_spot : (z : Sizes) → z.local_bytes ≤ 4096 → (target n : ℕ) (ss : List Section) (ts : List Spot) → AllZip IsOf ss ts → AllZip (LiesInArea z) ss ts → AllPairs (λ (s t : Section). s.index < t.index) ss → Any (IsTarget target n) ss → IsFound z ts target n
find_spot z few target n [] ts of lies rise any = absurd (omega (arith, any.2))
find_spot z few target n (s ∷ ss) [] of lies rise any = absurd of
find_spot z few target n (s ∷ ss) (t ∷ ts) of lies rise any =
    elim (cases_Bool (t.section == target)) [
      | inl here ↦ record {
        spot = t;
        found = rw here refl;
        from = lies.0.from;
        upto = omega (arith, lies.0.upto, long_here target n s ss rise (sym lies.0.number ∙ eqb-true t.section target here) any.0 any.1 any.2 any.3 any.4);
        inside = spot_inside z few s t of.0;
      }
      | inr other ↦ (let rest = find_spot z few target n ss ts of.1 lies.1 (λ i j d a b. rise (suc i) (suc j) d (omega (arith, a)) (omega (arith, b))) (any_later target n s ss (not_equal t.section target s.index other lies.0.number) any.0 any.1 any.2 any.3 any.4) in
          record { spot = rest.spot; found = rw other rest.found; from = rest.from; upto = rest.upto; inside = rest.inside })
    ]

target_of : (o : Object) (r : Rela) → IsRelaInRange o r → Any (IsTarget r.target (r.offset + width r.typ)) o.sections
target_of o r h =
    let t = h.target in
    (t.0, t.1, t.2, t.3, record { number = t.4.0; long = t.4.2 })

found_of : (o : Object) (l : Layout) (t : TableSet) → IsInRange o → IsLayout o l → AreTables o l t → (r : Rela) → IsRelaInRange o r → IsFound l.sizes l.spots r.target (r.offset + width r.typ)
found_of o l t range laid tables r h =
    find_spot l.sizes (local_fits o l t tables) r.target (r.offset + width r.typ) o.sections l.spots (subst (AllZip IsOf o.sections) (sym laid.spots_laid) (kinds (sizes (ends o.sections)) [] o.sections)) (law_sections o l range laid) range.indexes_rise (target_of o r h)

has_field : (l : Layout) (p : Lists) (r : Rela) → length p.movable ≡ area_to l.sizes (area_in true group.Writable) → length p.fixed ≡ area_to l.sizes (area_in false group.Writable) → IsFound l.sizes l.spots r.target (r.offset + width r.typ) → HasField l p r
unfolding field_offset
has_field l p r movable fixed h = rw h.found (omega (arith, h.upto, h.inside, by_part h.spot.movable))
  where
    by_part : (m : Bool) → length (part_of p m) ≡ area_to l.sizes (area_in m group.Writable)
    by_part true = movable
    by_part false = fixed

pub fields_fit : (o : Object) (l : Layout) (t : TableSet) (p : Lists) → IsInRange o → IsLayout o l → AreTables o l t → length p.movable ≡ area_to l.sizes (area_in true group.Writable) → length p.fixed ≡ area_to l.sizes (area_in false group.Writable) → FieldsFit o l p
fields_fit o l t p range laid tables movable fixed = λ k d below.
    has_field l p (get_or o.relas k d) movable fixed (found_of o l t range laid tables (get_or o.relas k d) (range.relas_in k d below))

-- a word that is at a multiple of eight bytes in the local area
word_at : (pages f bytes : ℕ) → pages * 4096 ≤ f → f + 8 ≤ pages * 4096 + bytes → f % 8 ≡ 0 → (k : ℕ) × (k < (bytes + 7) / 8) × (f ≡ pages * 4096 + 8 * k)
word_at pages f bytes from upto even = ((f - pages * 4096) / 8, omega (arith, from, upto, even), omega (arith, from, upto, even))

in_one_area : (m : Bool) (g : Group) → is_local_group g ≡ true → area_in m g ≡ area_in true group.Local
in_one_area true group.Local e = refl
in_one_area false group.Local e = refl
in_one_area m group.Text e = cc
in_one_area m group.ReadOnly e = cc
in_one_area m group.Writable e = cc

width_of_pointer : width R_RISCV_64 ≡ 8
unfolding width
width_of_pointer = refl

low_no_pointer : (typ : ℕ) → (typ == R_RISCV_64) ≡ true → is_low typ ≡ false
low_no_pointer typ e = grind (arith, e)

first_of : (a b c : Bool) → (a && (b && c)) ≡ true → a ≡ true
first_of true b c e = refl
first_of false b c e = e

second_of : (a b c : Bool) → (a && (b && c)) ≡ true → b ≡ true
second_of true true c e = refl
second_of true false c e = e
second_of false b c e = absurd (no_true e)
  where
    no_true : false ≡ true → ⊥
    no_true e = cc

third_of : (a b c : Bool) → (a && (b && c)) ≡ true → c ≡ true
third_of true true c e = e
third_of true false c e = absurd (no_true e)
  where
    no_true : false ≡ true → ⊥
    no_true e = cc
third_of false b c e = absurd (no_true e)
  where
    no_true : false ≡ true → ⊥
    no_true e = cc

aligned : (o : Object) (l : Layout) (r : Rela) (v : ℤ) → is_misaligned o l r v ≡ false → (r.typ == R_RISCV_64) ≡ true → moves o l r ≡ true → field_offset l r % 8 ≡ 0
unfolding is_misaligned
aligned o l r v fine typ moving = eqb-true (field_offset l r % 8) 0 (by_tests _ (r.typ == R_RISCV_64) (moves o l r) (field_offset l r % 8 == 0) fine typ moving)
  where
    by_tests : (x a b c : Bool) → (x || (a && b && not c)) ≡ false → a ≡ true → b ≡ true → c ≡ true
    by_tests x a b true e f g = refl
    by_tests true a b false e f g = absurd (no_true e)
      where
        no_true : true ≡ false → ⊥
        no_true e = cc
    by_tests false true true false e f g = sym e
    by_tests false false b false e f g = f
    by_tests false true false false e f g = g

pointer_fine : (o : Object) (l : Layout) (r : Rela) (v : ℤ) → IsFound l.sizes l.spots r.target (r.offset + width r.typ) → is_misaligned o l r v ≡ false → makes_word o l r ≡ true → IsPointerFine l (section_words l) r
unfolding field_offset
pointer_fine o l r v h fine makes =
    let typ = first_of (r.typ == R_RISCV_64) (moves o l r) (in_local_area l r) makes in
    let even = aligned o l r v fine typ (second_of (r.typ == R_RISCV_64) (moves o l r) (in_local_area l r) makes) in
    let local : is_local_group h.spot.group ≡ true = rw h.found at (third_of (r.typ == R_RISCV_64) (moves o l r) (in_local_area l r) makes) in
    let area = in_one_area h.spot.movable h.spot.group local in
    let from = subst (λ a. area_from l.sizes a ≤ h.spot.offset) area h.from in
    let upto = subst (λ a. h.spot.offset + (r.offset + width r.typ) ≤ area_to l.sizes a) area h.upto in
    let wide : width r.typ ≡ 8 = ap width (eqb-true r.typ R_RISCV_64 typ) ∙ width_of_pointer in
    let place : field_offset l r ≡ h.spot.offset + r.offset = rw h.found refl in
    word_at _ (field_offset l r) l.sizes.local_bytes (omega (arith, from, place)) (omega (arith, upto, wide, place)) even

plain_aligned : (o : Object) (l : Layout) (t : TableSet) (fixed : Place) (r : Rela) (k : ℕ) (x : Option Row) → row r.typ ≡ x → row_of o l t fixed r k ≡ None → is_low r.typ ≡ false → is_misaligned o l r (own_value o l t fixed r) ≡ false
plain_aligned o l t fixed r k None at fine plain = absurd (listed o l t fixed r k fine at)
plain_aligned o l t fixed r k (Some w) at fine plain =
    let rest = listed_fine o l t fixed r k w fine at in
    (plain_fine o l t fixed r k (rw plain at rest)).1

pub pointers_fine : (o : Object) (l : Layout) (t : TableSet) (fixed : Place) → IsInRange o → IsLayout o l → AreTables o l t → first_row o l t fixed ≡ None → ArePointersFine o l
pointers_fine o l t fixed range laid tables none = λ k d below makes.
    let r = get_or o.relas k d in
    let typ = first_of (r.typ == R_RISCV_64) (moves o l r) (in_local_area l r) makes in
    pointer_fine o l r (own_value o l t fixed r) (found_of o l t range laid tables r (range.relas_in k d below))
    (plain_aligned o l t fixed r k (row r.typ) refl (fine_entry o l t fixed o.relas k d refl none below) (low_no_pointer r.typ typ)) makes
