-- Where the symbols of an object are, and which of them are exports.
use Rattle.std.specs.Prelude.{◌≡◌, ◌≢◌, ℕ, ◌+◌, ◌^◌, ◌==◌, ◌<◌, ◌≤◌, ◌&&◌, ◌||◌, Bool, true, false, List, [], drop, take, find, filter_map, length, slice_index_or, Option, Some, None, option_and_then, if◌then◌else◌}
use Rattle.std.specs.List.{All, AllPairs, AllWithin, list_any, slice_get}
use Rattle.std.specs.Option.{option_map}
use Rattle.std.specs.Str.{bytes_eq}
use Rattle.ad_base.specs.declared.image.Export.{Export}
use Rattle.ad_elf.specs.declared.elf.TheConstants.{SHN_UNDEF, STB_GLOBAL, STT_FUNC, STT_NOTYPE}
use Rattle.ad_elf.specs.declared.object.Section.{Section}
use Rattle.ad_elf.specs.declared.object.Symbol.{Symbol}
use Rattle.ad_elf.specs.Below.{first}
use Rattle.ad_parts.specs.Area.{area_in}
use Rattle.ad_parts.specs.Layout.{area_from, area_to}
use Rattle.ad_parts.specs.declared.area.Area.{Area}
use Rattle.ad_parts.specs.declared.layout.Group.{Group}
use Rattle.ad_parts.specs.declared.layout.Sizes.{Sizes}
use Rattle.ad_parts.specs.declared.layout.Group.TheVariants as group
use Rattle.ad_parts.specs.declared.layout.Spot.{Spot}
use Rattle.ad_parts.specs.declared.position.Position.{Position}

-- the spot of the section of this number
abbrev pub spot_of : List Spot → ℕ → Option Spot
spot_of spots number = find (λ (t : Spot). t.section == number) spots

-- The spot of the section that a symbol is defined in (gABI, "Symbol Table"): none for a symbol that is undefined, and for
-- one whose number names no section that is kept, as that of a number doesn't.
unfoldable pub home : List Spot → Symbol → Option Spot
home spots y = if y.shndx == SHN_UNDEF then None else spot_of spots y.shndx

-- Where symbol j is: in the part of its section, behind the section's offset. Symbol 0 is nowhere.
abbrev pub position_at : Symbol → Spot → Position
position_at y t = record { movable = t.movable; offset = t.offset + y.value }

abbrev pub symbol_position : List Spot → Symbol → Option Position
symbol_position spots y = option_map (position_at y) (home spots y)

abbrev pub position : List Spot → List Symbol → ℕ → Option Position
position spots ys j = if j == 0 then None else option_and_then (symbol_position spots) (slice_get ys j)

-- the section is in the text of the movable part
abbrev pub is_text : Group → Bool
is_text group.Text = true
is_text _ = false

abbrev pub is_movable_text : Spot → Bool
is_movable_text t = t.movable && is_text t.group

-- the symbol is global, and a function or without a type (gABI, "Symbol Table")
abbrev pub is_callable : Symbol → Bool
is_callable y = (y.bind == STB_GLOBAL) && ((y.kind == STT_FUNC) || (y.kind == STT_NOTYPE))

-- A symbol is an export where it is callable and in the text of the movable part, at its offset in that part.
abbrev pub export_at : Symbol → Spot → Option Export
export_at y t = if is_movable_text t then Some (record { name = y.name; offset = t.offset + y.value }) else None

unfoldable pub export : List Spot → Symbol → Option Export
export spots y = if is_callable y then option_and_then (export_at y) (home spots y) else None

-- the exports, in the order of the table of symbols, in which symbol 0 is none
abbrev pub exports : List Spot → List Symbol → List Export
exports spots ys = filter_map (export spots) (drop 1 ys)

-- the name of export j, and whether one of the exports has this name
abbrev pub name_of : List Export → ℕ → List ℕ
name_of es j = (slice_index_or es j (record { name = []; offset = 0 })).name

unfoldable pub has_name : List Export → List ℕ → Bool
has_name es name = list_any (λ (e : Export). bytes_eq e.name name) es

-- the first export whose name one before it has
abbrev pub first_repeated : List Export → Option ℕ
first_repeated es = first (λ j. has_name (take j es) (name_of es j)) (length es)

-- The spots rise by the numbers of their sections, and what begins at an offset in a section has one of 128 bits.
pub record AreInOrder (spots : List Spot) : Type 0 where
  pub rise : AllPairs (λ (t u : Spot). t.section < u.section) spots
  pub begin : All (λ (t : Spot). t.offset < 2 ^ 127) spots

-- the area that a section was put in
abbrev pub area_at : Spot → Area
area_at t = area_in t.movable t.group

-- The section lies in its area. What the local area may have is seen later, with the words of its table.
pub record LiesInArea (z : Sizes) (s : Section) (t : Spot) : Type 0 where
  pub number : t.section ≡ s.index
  pub from : area_from z (area_at t) ≤ t.offset
  pub upto : t.offset + s.size ≤ area_to z (area_at t)

-- A symbol that is defined in a section is in its area, or at its end.
abbrev pub IsInArea : Sizes → List Spot → Symbol → Type 0
IsInArea z spots y = y.shndx ≢ SHN_UNDEF → All (λ (t : Spot). t.section ≡ y.shndx → t.offset + y.value ≤ area_to z (area_at t)) spots

abbrev pub AreInAreas : Sizes → List Spot → List Symbol → Type 0
AreInAreas z spots ys = AllWithin (IsInArea z spots) ys 1 (length ys)
