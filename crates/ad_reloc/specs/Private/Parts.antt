-- The bytes of sections lie in their parts.
use Rattle.std.specs.Prelude.{◌≡◌, ℕ, ◌+◌, ◌≤◌, ◌<◌, None, List, true, length, slice_set}
use Rattle.std.specs.List.{All, AllZip}
use Rattle.ad_base.specs.declared.image.Cell.{Cell}
use Rattle.ad_base.specs.declared.place.Place.{Place}
use Rattle.ad_elf.specs.declared.object.Rela.{Rela}
use Rattle.ad_elf.specs.Relocation.{width}
use Rattle.ad_tables.specs.declared.table_set.TableSet.{TableSet}
use Rattle.ad_tables.specs.Tables.{in_movable, section_words}
use Rattle.ad_reloc.specs.declared.parts.Parts.{Parts}
use Rattle.ad_reloc.specs.Addresses.{field_offset}
use Rattle.ad_reloc.specs.Image.{local_at, makes_word, part_of, pointed}
use Rattle.ad_reloc.specs.Image.{Parts as Lists}
use Rattle.ad_reloc.specs.Refusals.{row_of}
use Rattle.ad_elf.specs.declared.object.Object.{Object}
use Rattle.ad_elf.specs.declared.object.Section.{Section}
use Rattle.ad_parts.specs.Area.{area_in}
use Rattle.ad_parts.specs.Layout.{area_to}
use Rattle.ad_parts.specs.declared.layout.Group.TheVariants as group
use Rattle.ad_parts.specs.declared.layout.Layout.{Layout}
use Rattle.ad_parts.specs.declared.layout.Sizes.{Sizes}
use Rattle.ad_parts.specs.declared.layout.Spot.{Spot}

-- the section's bytes lie in its part
abbrev pub LiesInPart : Sizes → Section → Spot → Type 0
LiesInPart z s t = t.offset + length s.bytes ≤ area_to z (area_in t.movable group.Writable)

-- those of each section do
abbrev pub Fit : Object → Layout → Type 0
Fit o l = AllZip (LiesInPart l.sizes) o.sections l.spots

-- the bytes of both parts
abbrev pub lists_of : Parts → Lists
lists_of p = record { movable = p.movable.items; fixed = p.fixed.items }

-- the field of an entry lies in its part
abbrev pub HasField : Layout → Lists → Rela → Type 0
HasField l p r = field_offset l r + width r.typ ≤ length (part_of p (in_movable l.spots r.target))

abbrev pub FieldsFit : Object → Layout → Lists → Type 0
FieldsFit o l p = All (HasField l p) o.relas

-- the entry isn't refused
abbrev pub IsFine : Object → Layout → TableSet → Place → Rela → Type 0
IsFine o l t fixed r = (k : ℕ) × (row_of o l t fixed r k ≡ None)

-- an entry that makes a word of the local area's first so many stands at the word
abbrev pub IsPointerFine : Layout → ℕ → Rela → Type 0
IsPointerFine l n r = (k : ℕ) × (k < n) × (field_offset l r ≡ local_at l k)

abbrev pub ArePointersFine : Object → Layout → Type 0
ArePointersFine o l = All (λ (r : Rela). makes_word o l r ≡ true → IsPointerFine l (section_words l) r) o.relas

-- the word that an entry makes is set
abbrev pub PointsAt : Object → Layout → Rela → List Cell → List Cell → Type 0
PointsAt o l r before after = (k : ℕ) × (field_offset l r ≡ local_at l k) × (after ≡ slice_set before k (pointed o l r))
