-- The bytes of sections lie in their parts.
use Rattle.std.proofs.Common.{◌≡◌, inl, inr, ℕ, suc, ◌≤◌, ◌==◌, true, false, List, [], ◌∷◌, ◌++◌, length, subst, sym, refl, ap, arith}
use Rattle.std.specs.List.{All, AllZip}
use Rattle.std.proofs.lemmas.Bool.{cases_Bool, eqb-true}
use Rattle.ad_elf.specs.declared.elf.TheConstants.{SHT_NOBITS}
use Rattle.ad_elf.specs.declared.object.Object.{Object}
use Rattle.ad_elf.specs.declared.object.Section.{Section}
use Rattle.ad_elf.specs.Range.{IsInRange, IsSectionInRange}
use Rattle.ad_parts.specs.Area.{area_in, area_of, group_of, is_fixed_name, is_movable}
use Rattle.ad_parts.specs.Layout.{area_to, sizes, ends, spot_at, spots_behind}
use Rattle.ad_parts.specs.Parts.{IsLayout}
use Rattle.ad_parts.specs.Symbols.{LiesInArea, area_at}
use Rattle.std.specs.Prelude.{codes, nat_eq}
use Rattle.std.specs.List.{starts_with}
use Rattle.ad_elf.specs.declared.elf.TheConstants.{SHF_EXECINSTR, SHF_WRITE}
use Rattle.ad_elf.specs.File.{has_flag}
use Rattle.ad_parts.specs.declared.layout.Group.{Group}
use Rattle.ad_parts.specs.declared.layout.Group.TheVariants as group
use Rattle.ad_parts.specs.declared.layout.Layout.{Layout}
use Rattle.ad_parts.specs.declared.layout.Sizes.{Sizes}
use Rattle.ad_parts.specs.declared.layout.Spot.{Spot}
use Rattle.ad_parts.proofs.Fitted.{law_sections}
use Rattle.ad_tables.specs.declared.table_set.TableSet.{TableSet}
use Rattle.ad_tables.specs.Tables.{AreTables}
use Rattle.ad_reloc.specs.Private.Parts.{Fit, LiesInPart}
use Rattle.ad_reloc.proofs.Linkable.{local_fits}

-- an area of the movable part ends in it; no section is in a local area of the immovable part
pub ends_inside : (z : Sizes) → z.local_bytes ≤ 4096 → (g : Group) → area_to z (area_in true g) ≤ area_to z (area_in true group.Writable)
ends_inside z few group.Text = omega arith
ends_inside z few group.ReadOnly = omega arith
ends_inside z few group.Local = omega (arith, few)
ends_inside z few group.Writable = omega arith

-- a section has no more bytes than its size says
pub no_longer : (s : Section) → IsSectionInRange s → length s.bytes ≤ s.size
no_longer s h =
    elim (cases_Bool (s.typ == SHT_NOBITS)) [
      | inl empty ↦ omega (arith, ap length (h.no_bytes (eqb-true s.typ SHT_NOBITS empty)))
      | inr other ↦ omega (arith, h.bytes (λ e. differs s.typ other e))
    ]
  where
    differs : (n : ℕ) → (n == SHT_NOBITS) ≡ false → n ≡ SHT_NOBITS → ⊥
    differs n other e = grind (arith, other, e)

-- a section goes to the part and the group of its area
pub record IsOf (s : Section) (t : Spot) : Type 0 where
  pub movable : t.movable ≡ is_movable (area_of s)
  pub group : t.group ≡ group_of (area_of s)

pub kinds : (z : Sizes) (before later : List Section) → AllZip IsOf later (spots_behind z before later)
unfolding spots_behind spot_at
kinds z before [] = tt
kinds z before (s ∷ later) = (record { movable = refl; group = refl }, kinds z (before ++ s ∷ []) later)

area_inside : (z : Sizes) → z.local_bytes ≤ 4096 → (s : Section) → area_to z (area_in (is_movable (area_of s)) (group_of (area_of s))) ≤ area_to z (area_in (is_movable (area_of s)) group.Writable)
unfolding area_of
area_inside z few s =
    elim (cases_Bool (starts_with nat_eq s.name (codes ".data.rel.ro"))) [
      | inl a ↦ rw a (omega (arith, few))
      | inr a ↦ (elim (cases_Bool (is_fixed_name s.name)) [
        | inl b ↦ (elim (cases_Bool (has_flag s.flags SHF_WRITE)) [
          | inl c ↦ rw (a, b, c) (omega arith)
          | inr c ↦ (elim (cases_Bool (has_flag s.flags SHF_EXECINSTR)) [
            | inl d ↦ rw (a, b, c, d) (omega arith)
            | inr d ↦ rw (a, b, c, d) (omega arith)
          ])
        ])
        | inr b ↦ (elim (cases_Bool (has_flag s.flags SHF_WRITE)) [
          | inl c ↦ rw (a, b, c) (omega arith)
          | inr c ↦ (elim (cases_Bool (has_flag s.flags SHF_EXECINSTR)) [
            | inl d ↦ rw (a, b, c, d) (omega arith)
            | inr d ↦ rw (a, b, c, d) (omega arith)
          ])
        ])
      ])
    ]

pub spot_inside : (z : Sizes) → z.local_bytes ≤ 4096 → (s : Section) (t : Spot) → IsOf s t → area_to z (area_at t) ≤ area_to z (area_in t.movable group.Writable)
spot_inside z few s t of =
    let here = area_inside z few s in
    subst (λ m. area_to z (area_in m t.group) ≤ area_to z (area_in m group.Writable)) (sym of.movable)
    (subst (λ g. area_to z (area_in (is_movable (area_of s)) g) ≤ area_to z (area_in (is_movable (area_of s)) group.Writable)) (sym of.group) here)

all_fit : (z : Sizes) → z.local_bytes ≤ 4096 → (ss : List Section) (ts : List Spot) → All IsSectionInRange ss → AllZip IsOf ss ts → AllZip (LiesInArea z) ss ts → AllZip (LiesInPart z) ss ts
all_fit z few [] [] all of lies = tt
all_fit z few [] (t ∷ ts) all of lies = lies
all_fit z few (s ∷ ss) [] all of lies = lies
all_fit z few (s ∷ ss) (t ∷ ts) all of lies =
    (omega (arith, lies.0.upto, spot_inside z few s t of.0, no_longer s (all 0 s (omega arith))), all_fit z few ss ts (λ k d below. all (suc k) d (omega (arith, below))) of.1 lies.1)

-- the bytes of each section lie in its part
pub sections_fit : (o : Object) (l : Layout) (t : TableSet) → IsInRange o → IsLayout o l → AreTables o l t → Fit o l
sections_fit o l t range laid tables =
    all_fit l.sizes (local_fits o l t tables) o.sections l.spots range.sections_in (subst (AllZip IsOf o.sections) (sym laid.spots_laid) (kinds (sizes (ends o.sections)) [] o.sections)) (law_sections o l range laid)
