-- How a section lies where it was put, and where symbols are.
use Rattle.std.specs.Prelude.{◌≡◌, ◌≢◌, ◌+◌, ◌*◌, ◌^◌, ◌<◌, ◌≤◌, ℕ, List, length}
use Rattle.std.specs.List.{All, AllWithin}
use Rattle.ad_base.specs.declared.layout.TheConstants.{PAGE_BYTES, PART_PAGES}
use Rattle.ad_elf.specs.declared.elf.TheConstants.{SHN_UNDEF}
use Rattle.ad_elf.specs.declared.object.Section.{Section}
use Rattle.ad_elf.specs.declared.object.Symbol.{Symbol}
use Rattle.ad_parts.specs.declared.layout.Group.TheVariants as group
use Rattle.ad_parts.specs.declared.layout.Sizes.{Sizes}
use Rattle.ad_parts.specs.declared.layout.Spot.{Spot}
use Rattle.ad_parts.specs.Symbols.{LiesInArea}

-- outside the local area, the number of bytes from the start of a part is inside it, or its end
abbrev pub IsInPart : Spot → ℕ → Type 0
IsInPart t end = t.group ≢ group.Local → end ≤ PART_PAGES * PAGE_BYTES

-- The spot is the section's, begins far below 2^128, and is in its part and its area.
pub record Lies (z : Sizes) (s : Section) (t : Spot) : Type 0 where
  pub begin : t.offset < 2 ^ 127
  pub inside : IsInPart t (t.offset + s.size)
  pub area : LiesInArea z s t

-- a symbol that is defined in a section is in its part, or at its end
abbrev pub IsInside : List Spot → Symbol → Type 0
IsInside spots y = y.shndx ≢ SHN_UNDEF → All (λ (t : Spot). t.section ≡ y.shndx → IsInPart t (t.offset + y.value)) spots

abbrev pub AreInside : List Spot → List Symbol → Type 0
AreInside spots ys = AllWithin (IsInside spots) ys 1 (length ys)
