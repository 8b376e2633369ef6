-- Sections and symbols lie in the parts.
use Rattle.std.proofs.Common.{◌≡◌, ◌≢◌, inl, inr, ℕ, zero, suc, ◌+◌, ◌*◌, ◌^◌, ◌<◌, ◌≤◌, true, cond, List, [], ◌∷◌, ◌++◌, append_assoc, filter, fold, sum_by, get_or, length, Option, Some, None, subst, nat_lt, refl, sym, ap, ◌∙◌, arith}
use Rattle.std.specs.List.{All, AllPairs, AllZip}
use Rattle.std.proofs.lemmas.Bool.{cases_Bool, ltb-false}
use Rattle.std.proofs.lemmas.List.{append-nil}
use Rattle.std.proofs.lemmas.List.Sums.{sum_by-cons}
use Rattle.ad_base.specs.declared.layout.TheConstants.{PAGE_BYTES, PART_PAGES}
use Rattle.ad_elf.specs.declared.object.Object.{Object}
use Rattle.ad_elf.specs.declared.object.Section.{Section}
use Rattle.ad_elf.specs.Range.{IsInRange}
use Rattle.ad_parts.specs.Area.{area_in, area_of, group_of, is_movable, is_same}
use Rattle.ad_parts.specs.Ends.{AreEnds, AreShort, align_of, area_end, end_at, end_of, is_aligned, next}
use Rattle.ad_parts.specs.Layout.{area_bytes, ends, fixed_pages, movable_pages, pages_of, pages_over, sizes, spot_at, spots, spots_behind, start_page}
use Rattle.ad_parts.specs.Private.Lying.{Lies}
use Rattle.ad_parts.specs.Private.Lying.{AreInside}
use Rattle.ad_parts.specs.Symbols.{AreInAreas, AreInOrder, LiesInArea}
use Rattle.ad_parts.specs.Parts.{IsLayout, all_exports, export_row, misaligned, section_row}
use Rattle.ad_parts.specs.declared.layout.Layout.{Layout}
use Rattle.ad_parts.specs.declared.refusal.PartRefusal.TheVariants.{Alignment, TooManyPages}
use Rattle.ad_parts.proofs.Arranged.{option_map_none}
use Rattle.std.specs.Option.{option_map, option_or}
use Rattle.ad_parts.specs.declared.area.Area.{Area}
use Rattle.ad_parts.specs.declared.area.Area.TheVariants.{FixedReadOnly, FixedText, FixedWritable, Local, ReadOnly, Text, Writable}
use Rattle.ad_parts.specs.declared.ends.Ends.{Ends}
use Rattle.ad_parts.specs.declared.layout.Group.TheVariants as group
use Rattle.ad_parts.specs.declared.layout.Sizes.{Sizes}
use Rattle.ad_parts.specs.declared.layout.Spot.{Spot}
use Rattle.ad_parts.proofs.Laid.{AreEnds-is, align_of-some, aligned_from, area_end-push, begin_le, small_ends}
use Rattle.ad_parts.proofs.Next.{next-from}

-- an area grows with its sections
is_same-self : (a : Area) → is_same a a ≡ true
is_same-self Text = refl
is_same-self ReadOnly = refl
is_same-self Local = refl
is_same-self Writable = refl
is_same-self FixedText = refl
is_same-self FixedReadOnly = refl
is_same-self FixedWritable = refl

grows_by_one : (a : Area) (ss : List Section) (s : Section) → area_end a ss ≤ area_end a (ss ++ s ∷ [])
grows_by_one a ss s =
    rw (area_end-push a ss s)
    (elim (cases_Bool (is_same (area_of s) a)) [
      | inl same ↦ (rw same (omega (arith, next-from (align_of s) (area_end a ss) (align_of-some s))))
      | inr other ↦ (rw other (omega arith))
    ])

grows : (a : Area) (xs ys : List Section) → area_end a xs ≤ area_end a (xs ++ ys)
grows a xs [] = rw append-nil (omega arith)
grows a xs (y ∷ ys) =
    let same : area_end a ((xs ++ y ∷ []) ++ ys) ≡ area_end a (xs ++ y ∷ ys) = ap (area_end a) (append_assoc xs (y ∷ []) ys) in
    omega (arith, same, grows_by_one a xs y, grows a (xs ++ y ∷ []) ys)

-- where a section ends
end_of_one : (ss : List Section) (s : Section) → area_end (area_of s) (ss ++ s ∷ []) ≡ next (align_of s) (area_end (area_of s) ss) + s.size
end_of_one ss s = area_end-push (area_of s) ss s ∙ ap (λ b. cond b (next (align_of s) (area_end (area_of s) ss) + s.size) (area_end (area_of s) ss)) (is_same-self (area_of s))

-- the areas of these sections lie in parts of these sizes
pub record Fits (z : Sizes) (ss : List Section) : Type 0 where
  pub start : (a : Area) → start_page z a ≤ PART_PAGES
  pub low : (a : Area) → area_end a ss < 2 ^ 70
  pub inside : (a : Area) → group_of a ≢ group.Local → start_page z a * PAGE_BYTES + area_end a ss ≤ PART_PAGES * PAGE_BYTES
  pub area : (a : Area) → area_end a ss ≤ area_bytes z a

area_in-self : (a : Area) → area_in (is_movable a) (group_of a) ≡ a
area_in-self Text = refl
area_in-self ReadOnly = refl
area_in-self Local = refl
area_in-self Writable = refl
area_in-self FixedText = refl
area_in-self FixedReadOnly = refl
area_in-self FixedWritable = refl

lies_one : (z : Sizes) (before : List Section) (s : Section) (ss : List Section) → area_end (area_of s) (before ++ s ∷ []) ≤ area_end (area_of s) ss → Fits z ss → Lies z s (spot_at z (area_end (area_of s) before) s)
unfolding spot_at
lies_one z before s ss upto fits =
    let end = end_of_one before s in
    record {
      begin = omega (arith, upto, end, fits.start (area_of s), fits.low (area_of s));
      inside = λ other. omega (arith, upto, end, fits.inside (area_of s) other);
      area = record {
        number = refl;
        from = rw (area_in-self (area_of s)) (omega arith);
        upto = rw (area_in-self (area_of s)) (omega (arith, upto, end, fits.area (area_of s)));
      };
    }

lies_behind : (z : Sizes) (before later ss : List Section) → before ++ later ≡ ss → Fits z ss → AllZip (Lies z) later (spots_behind z before later)
unfolding spots_behind
lies_behind z before [] ss whole fits = tt
lies_behind z before (s ∷ later) ss whole fits =
    let more : (before ++ s ∷ []) ++ later ≡ ss = append_assoc before (s ∷ []) later ∙ whole in
    let upto : area_end (area_of s) (before ++ s ∷ []) ≤ area_end (area_of s) ss = rw (← more) (grows (area_of s) (before ++ s ∷ []) later) in
    (lies_one z before s ss upto fits, lies_behind z (before ++ s ∷ []) later ss more fits)

-- the pages of the parts
covers : (n : ℕ) → n ≤ pages_of n * PAGE_BYTES
unfolding pages_of next
covers n = next-from PAGE_BYTES n (omega arith)

-- no part has too many pages
record AreFew (e : Ends) : Type 0 where
  movable : movable_pages e ≤ PART_PAGES
  fixed : fixed_pages e ≤ PART_PAGES

some_none : {X : Type 0} (x : X) → Some x ≡ None → ⊥
some_none x e = cc

few_where_not_over : (e : Ends) → pages_over e ≡ None → AreFew e
few_where_not_over e fine =
    elim (cases_Bool (nat_lt PART_PAGES (movable_pages e))) [
      | inl over ↦ absurd (some_none (movable_pages e) (rw over at fine))
      | inr few ↦ (elim (cases_Bool (nat_lt PART_PAGES (fixed_pages e))) [
        | inl over ↦ absurd (some_none (fixed_pages e) (rw (few, over) at fine))
        | inr less ↦ (record { movable = ltb-false PART_PAGES (movable_pages e) few; fixed = ltb-false PART_PAGES (fixed_pages e) less })
      ])
    ]

starts : (e : Ends) → AreFew e → (a : Area) → start_page (sizes e) a ≤ PART_PAGES
starts e few Text = omega arith
starts e few ReadOnly = omega (arith, few.movable)
starts e few Local = omega (arith, few.movable)
starts e few Writable = omega (arith, few.movable)
starts e few FixedText = omega arith
starts e few FixedReadOnly = omega (arith, few.fixed)
starts e few FixedWritable = omega (arith, few.fixed)

ends_inside : (e : Ends) → AreFew e → (a : Area) → group_of a ≢ group.Local → start_page (sizes e) a * PAGE_BYTES + end_at e a ≤ PART_PAGES * PAGE_BYTES
ends_inside e few Text other = omega (arith, few.movable, covers e.text)
ends_inside e few ReadOnly other = omega (arith, few.movable, covers e.read)
ends_inside e few Local other = absurd (other refl)
ends_inside e few Writable other = omega (arith, few.movable, covers e.«data»)
ends_inside e few FixedText other = omega (arith, few.fixed, covers e.fixed_text)
ends_inside e few FixedReadOnly other = omega (arith, few.fixed, covers e.fixed_read)
ends_inside e few FixedWritable other = omega (arith, few.fixed, covers e.fixed_data)

ends_in_areas : (e : Ends) (a : Area) → end_at e a ≤ area_bytes (sizes e) a
ends_in_areas e Text = covers e.text
ends_in_areas e ReadOnly = covers e.read
ends_in_areas e Local = omega arith
ends_in_areas e Writable = covers e.«data»
ends_in_areas e FixedText = covers e.fixed_text
ends_in_areas e FixedReadOnly = covers e.fixed_read
ends_in_areas e FixedWritable = covers e.fixed_data

end_at-ends : (ss : List Section) (a : Area) → end_at (ends ss) a ≡ area_end a ss
end_at-ends ss Text = refl
end_at-ends ss ReadOnly = refl
end_at-ends ss Local = refl
end_at-ends ss Writable = refl
end_at-ends ss FixedText = refl
end_at-ends ss FixedReadOnly = refl
end_at-ends ss FixedWritable = refl

fits_where_not_over : (ss : List Section) → pages_over (ends ss) ≡ None → ((a : Area) → end_at (ends ss) a < 2 ^ 70) → Fits (sizes (ends ss)) ss
fits_where_not_over ss fine small =
    let few = few_where_not_over (ends ss) fine in
    record {
      start = starts (ends ss) few;
      low = λ a. rw (← end_at-ends ss a) (small a);
      inside = λ a other. rw (← end_at-ends ss a) (ends_inside (ends ss) few a other);
      area = λ a. rw (← end_at-ends ss a) (ends_in_areas (ends ss) a);
    }

-- where the sections of an area end, however many there are
short_from : (a : Area) (at : ℕ) (ss : List Section) → All (λ (s : Section). is_aligned s ≡ true) ss
    → fold (λ at (s : Section). next (align_of s) at + s.size) at (filter (λ (s : Section). is_same (area_of s) a) ss) ≤ at + sum_by (λ (s : Section). s.size) ss + 4096 * length ss
short_from a at [] fine = omega arith
short_from a at (s ∷ ss) fine =
    let here : is_aligned s ≡ true = fine 0 s (omega arith) in
    let later : All (λ (t : Section). is_aligned t ≡ true) ss = λ k d below. fine (suc k) d (omega arith) in
    let sizes = sum_by-cons (λ (s : Section). s.size) s ss in
    let with_it = short_from a (next (align_of s) at + s.size) ss later in
    let without = short_from a at ss later in
    elim (cases_Bool (is_same (area_of s) a)) [
      | inl same ↦ (rw (same, sizes) (omega (arith, begin_le s at here, with_it)))
      | inr other ↦ (rw (other, sizes) (omega (arith, without)))
    ]

short_area : (a : Area) (ss : List Section) → All (λ (s : Section). is_aligned s ≡ true) ss → area_end a ss ≤ sum_by (λ (s : Section). s.size) ss + 4096 * length ss
unfolding end_of
short_area a ss fine = omega (arith, short_from a 0 ss fine)

option_or-none : {X : Type 0} (x y : Option X) → option_or x y ≡ None → (x ≡ None) × (y ≡ None)
option_or-none None y e = (refl, e)
option_or-none (Some x) y e = absurd (some_none x e)

-- so the sections lie in their parts
pub spots_lie : (o : Object) (e : Ends) → IsInRange o → AreEnds o.sections e → AreShort o.sections e → pages_over e ≡ None → AllZip (Lies (sizes (ends o.sections))) o.sections (spots o.sections)
spots_lie o e h are short fine =
    let same = AreEnds-is o.sections e are in
    let over : pages_over (ends o.sections) ≡ None = ap pages_over (sym same) ∙ fine in
    let small : (a : Area) → end_at (ends o.sections) a < 2 ^ 70 = λ a. rw (← same) (small_ends o e h short a) in
    lies_behind (sizes (ends o.sections)) [] o.sections o.sections refl (fits_where_not_over o.sections over small)

-- a section, where a list of them may be empty
abbrev no_section : Section
no_section = record { index = 0; name = []; typ = 0; flags = 0; size = 0; align = 0; bytes = [] }

zip-at : {X Y : Type 0} (R : X → Y → Type 0) (xs : List X) (ys : List Y) (k : ℕ) (d : X) (e : Y) → AllZip R xs ys → k < length ys → R (get_or xs k d) (get_or ys k e)
zip-at R [] [] k d e all below = absurd (omega arith)
zip-at R [] (y ∷ ys) k d e all below = absurd all
zip-at R (x ∷ xs) [] k d e all below = absurd (omega arith)
zip-at R (x ∷ xs) (y ∷ ys) zero d e all below = all.0
zip-at R (x ∷ xs) (y ∷ ys) (suc k) d e all below = zip-at R xs ys k d e all.1 (omega arith)

zip-length : {X Y : Type 0} (R : X → Y → Type 0) (xs : List X) (ys : List Y) → AllZip R xs ys → length xs ≡ length ys
zip-length R [] [] all = refl
zip-length R [] (y ∷ ys) all = absurd all
zip-length R (x ∷ xs) [] all = absurd all
zip-length R (x ∷ xs) (y ∷ ys) all = ap suc (zip-length R xs ys all.1)

zip-weaker : {X Y : Type 0} (R S : X → Y → Type 0) → ((x : X) (y : Y) → R x y → S x y) → (xs : List X) (ys : List Y) → AllZip R xs ys → AllZip S xs ys
zip-weaker R S more [] [] all = tt
zip-weaker R S more [] (y ∷ ys) all = absurd all
zip-weaker R S more (x ∷ xs) [] all = absurd all
zip-weaker R S more (x ∷ xs) (y ∷ ys) all = (more x y all.0, zip-weaker R S more xs ys all.1)

pub lie_in_areas : (z : Sizes) (ss : List Section) (ts : List Spot) → AllZip (Lies z) ss ts → AllZip (LiesInArea z) ss ts
lie_in_areas z ss ts all = zip-weaker (Lies z) (LiesInArea z) (λ s t l. l.area) ss ts all

pub lie_in_order : (z : Sizes) (ss : List Section) (ts : List Spot) → AllPairs (λ (s t : Section). s.index < t.index) ss → AllZip (Lies z) ss ts → AreInOrder ts
lie_in_order z ss ts rise all = record {
  rise = λ i j d less below.
      let here = zip-at (Lies z) ss ts i no_section d all (omega arith) in
      let there = zip-at (Lies z) ss ts j no_section d all below in
      omega (arith, here.area.number, there.area.number, rise i j no_section less (omega (arith, zip-length (Lies z) ss ts all)));
  begin = λ k d below. (zip-at (Lies z) ss ts k no_section d all below).begin;
}

pub symbols_inside : (z : Sizes) (o : Object) (ts : List Spot) → IsInRange o → AllZip (Lies z) o.sections ts → AreInside ts o.symbols
symbols_inside z o ts h all = λ j y from below defined k d less here other.
    let lies = zip-at (Lies z) o.sections ts k no_section d all less in
    let value = h.symbols_in j y from below defined k no_section (omega (arith, zip-length (Lies z) o.sections ts all)) (sym lies.area.number ∙ here) in
    omega (arith, lies.inside other, value)

pub symbols_in_areas : (z : Sizes) (o : Object) (ts : List Spot) → IsInRange o → AllZip (Lies z) o.sections ts → AreInAreas z ts o.symbols
symbols_in_areas z o ts h all = λ j y from below defined k d less here.
    let lies = zip-at (Lies z) o.sections ts k no_section d all less in
    let value = h.symbols_in j y from below defined k no_section (omega (arith, zip-length (Lies z) o.sections ts all)) (sym lies.area.number ∙ here) in
    omega (arith, lies.area.upto, value)

-- none of the ends is far behind the sizes
pub short_ends : (ss : List Section) → All (λ (s : Section). is_aligned s ≡ true) ss → AreShort ss (ends ss)
short_ends ss fine = record { each_one = λ a. rw (end_at-ends ss a) (short_area a ss fine) }

-- the layout of an object has its sections in their areas
pub layout_lies : (o : Object) (l : Layout) → IsInRange o → IsLayout o l → AllZip (Lies l.sizes) o.sections l.spots
layout_lies o l h laid =
    let rows = option_or-none (section_row o) (export_row (all_exports o)) laid.no_row in
    let parts = option_or-none (option_map (λ (s : Section). Alignment s.index) (misaligned o)) (option_map TooManyPages (pages_over (ends o.sections))) rows.0 in
    let fine = aligned_from o.sections (option_map_none (λ (s : Section). Alignment s.index) (misaligned o) parts.0) in
    let over = option_map_none TooManyPages (pages_over (ends o.sections)) parts.1 in
    let lie = spots_lie o (ends o.sections) h (record { each_one = end_at-ends o.sections }) (short_ends o.sections fine) over in
    let sized = subst (λ (z : Sizes). AllZip (Lies z) o.sections (spots o.sections)) (sym laid.sizes_laid) lie in
    subst (λ (ts : List Spot). AllZip (Lies l.sizes) o.sections ts) (sym laid.spots_laid) sized

pub law_order : (o : Object) (l : Layout) → IsInRange o → IsLayout o l → AreInOrder l.spots
law_order o l h laid = lie_in_order l.sizes o.sections l.spots h.indexes_rise (layout_lies o l h laid)

pub law_sections : (o : Object) (l : Layout) → IsInRange o → IsLayout o l → AllZip (LiesInArea l.sizes) o.sections l.spots
law_sections o l h laid = lie_in_areas l.sizes o.sections l.spots (layout_lies o l h laid)

pub law_symbols : (o : Object) (l : Layout) → IsInRange o → IsLayout o l → AreInAreas l.sizes l.spots o.symbols
law_symbols o l h laid = symbols_in_areas l.sizes o l.spots h (layout_lies o l h laid)
