-- The layout and the tables of an object are what entries are looked at with.
use Rattle.std.proofs.Common.{◌≡◌, inl, inr, ℕ, zero, suc, ◌<◌, ◌≤◌, nat_lt, List, [], ◌∷◌, Option, Some, None, get_or, length, refl, ap, arith}
use Rattle.std.specs.List.{All, AllZip}
use Rattle.std.specs.Option.{option_map, option_or}
use Rattle.std.proofs.lemmas.Bool.{cases_Bool, ltb-false}
use Rattle.ad_base.specs.declared.layout.TheConstants.{LOCAL_WORDS, PART_PAGES}
use Rattle.ad_elf.specs.declared.object.Object.{Object}
use Rattle.ad_elf.specs.declared.object.Section.{Section}
use Rattle.ad_parts.specs.declared.layout.Layout.{Layout}
use Rattle.ad_parts.specs.declared.layout.Sizes.{Sizes}
use Rattle.ad_parts.specs.declared.layout.Spot.{Spot}
use Rattle.ad_parts.specs.declared.refusal.PartRefusal.TheVariants.{Alignment, TooManyPages}
use Rattle.ad_parts.specs.Layout.{area_to, ends, fixed_pages, movable_pages, pages_over}
use Rattle.ad_parts.specs.Parts.{IsLayout, all_exports, export_row, misaligned, section_row}
use Rattle.ad_parts.specs.Symbols.{LiesInArea, area_at}
use Rattle.ad_tables.specs.declared.table_set.TableSet.{TableSet}
use Rattle.ad_tables.specs.Tables.{AreTables, section_words}
use Rattle.ad_tables.specs.declared.refusal.TableRefusal.TheVariants.{LocalFull}
use Rattle.ad_reloc.specs.Private.Small.{AreSmall}

pub some_none : {X : Type 0} (x : X) → Some x ≡ None → ⊥
some_none x e = cc

-- what lies in its area begins in it
all_cons : {X : Type 0} (P : X → Type 0) (x : X) (xs : List X) → P x → All P xs → All P (x ∷ xs)
all_cons P x xs here later = go
  where
    go : (k : ℕ) (d : _) → k < length (x ∷ xs) → P (get_or (x ∷ xs) k d)
    go zero d below = here
    go (suc k) d below = later k d (omega arith)

pub begin_in_areas : (z : Sizes) (ss : List Section) (ts : List Spot) → AllZip (LiesInArea z) ss ts → All (λ (t : Spot). t.offset ≤ area_to z (area_at t)) ts
begin_in_areas z [] [] all = λ k d below. absurd (omega arith)
begin_in_areas z [] (t ∷ ts) all = absurd all
begin_in_areas z (s ∷ ss) [] all = absurd all
begin_in_areas z (s ∷ ss) (t ∷ ts) all = all_cons (λ (t : Spot). t.offset ≤ area_to z (area_at t)) t ts (omega (arith, all.0.upto)) (begin_in_areas z ss ts all.1)

pub or_parts : {X : Type 0} (x y : Option X) → option_or x y ≡ None → (x ≡ None) × (y ≡ None)
or_parts None y e = (refl, e)
or_parts (Some x) y e = absurd (some_none x e)

map_none : {X Y : Type 0} (f : X → Y) (x : Option X) → option_map f x ≡ None → x ≡ None
map_none f None e = refl
map_none f (Some x) e = absurd (some_none (f x) e)

-- no part has more pages than it may have
pub few : (o : Object) (l : Layout) → IsLayout o l → (movable_pages (ends o.sections) ≤ PART_PAGES) × (fixed_pages (ends o.sections) ≤ PART_PAGES)
few o l laid =
    let e = ends o.sections in
    let rows = or_parts (section_row o) (export_row (all_exports o)) laid.no_row in
    let parts = or_parts (option_map (λ (s : Section). Alignment s.index) (misaligned o)) (option_map TooManyPages (pages_over e)) rows.0 in
    let over = map_none TooManyPages (pages_over e) parts.1 in
    elim (cases_Bool (nat_lt PART_PAGES (movable_pages e))) [
      | inl more ↦ absurd (some_none (movable_pages e) (rw more at over))
      | inr less ↦ (elim (cases_Bool (nat_lt PART_PAGES (fixed_pages e))) [
        | inl more ↦ absurd (some_none (fixed_pages e) (rw (less, more) at over))
        | inr fewer ↦ (ltb-false PART_PAGES (movable_pages e) less, ltb-false PART_PAGES (fixed_pages e) fewer)
      ])
    ]

pub local_fits : (o : Object) (l : Layout) (t : TableSet) → AreTables o l t → l.sizes.local_bytes ≤ 4096
local_fits o l t h =
    let row = h.no_row in
    elim (cases_Bool (nat_lt LOCAL_WORDS (section_words l))) [
      | inl more ↦ absurd (some_none LocalFull (rw more at row))
      | inr less ↦ (let words = ltb-false LOCAL_WORDS (section_words l) less in omega (arith, words))
    ]

pub sizes_small : (o : Object) (l : Layout) (t : TableSet) → IsLayout o l → AreTables o l t → AreSmall l.sizes
sizes_small o l t laid h =
    let pages = few o l laid in
    let same = laid.sizes_laid in
    record {
      text = omega (arith, ap (λ (z : Sizes). z.text_pages) same, pages.0);
      read = omega (arith, ap (λ (z : Sizes). z.read_pages) same, pages.0);
      written = omega (arith, ap (λ (z : Sizes). z.data_pages) same, pages.0);
      fixed_text = omega (arith, ap (λ (z : Sizes). z.fixed_text_pages) same, pages.1);
      fixed_read = omega (arith, ap (λ (z : Sizes). z.fixed_read_pages) same, pages.1);
      fixed_written = omega (arith, ap (λ (z : Sizes). z.fixed_data_pages) same, pages.1);
      local = omega (arith, local_fits o l t h);
    }
