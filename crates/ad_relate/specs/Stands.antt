-- What the symbolic machine's values and memory stand for, once the movable part and the stack have places.
use Rattle.std.specs.Prelude.{◌≡◌, ◌≢◌, ℕ, ◌+◌, ◌*◌, ◌%◌, ◌^◌, List, ◌++◌, length, map, slice_index}
use Rattle.byteorder.specs.Endian.{little_bytes}
use Rattle.ad_base.specs.declared.image.Image.{Image}
use Rattle.ad_base.specs.declared.layout.TheConstants.{PAGE_BYTES, STACK_PAGES, WORD_BYTES}
use Rattle.ad_base.specs.declared.place.Place.{Place}
use Rattle.ad_base.specs.Book.{Contents}
use Rattle.ad_base.specs.Image.{IsWhole, movable_pages}
use Rattle.ad_base.specs.Place.{base_of, IsModulePlace, IsPlace}
use Rattle.ad_base.specs.Layout.{extents_from, fixed_roles, movable_roles, size_of, stack_roles}
use Rattle.ad_base.specs.Segments.{Segment, extents}
use Rattle.ad_symbolic.specs.declared.byte.Byte.{Byte}
use Rattle.ad_symbolic.specs.declared.byte.Byte.TheVariants.{Number, OfAddress}
use Rattle.ad_symbolic.specs.declared.value.Value.TheVariants.{At, Num}
use Rattle.ad_symbolic.specs.declared.value.Part.TheVariants.{Movable, Stack}
use Rattle.ad_symbolic.specs.declared.value.Part.{Part}
use Rattle.ad_symbolic.specs.declared.value.Value.{Value}
use Rattle.ad_symbolic.specs.AddressSpace.{AddressSpace}

-- where the movable part and the stack lie
pub record Places : Type 0 where
  pub movable : Place
  pub stack : Place

abbrev pub base_at : Places → Part → ℕ
base_at ps Movable = base_of ps.movable
base_at ps Stack = base_of ps.stack

-- the number that a value stands for
abbrev pub number_at : Places → Value → ℕ
number_at ps (Num n) = n
number_at ps (At p o) = (base_at ps p + o) % 2 ^ 64

-- the number that a byte stands for
abbrev pub byte_at : Places → Byte → ℕ
byte_at ps (Number n) = n
byte_at ps (OfAddress i p o) = slice_index (little_bytes WORD_BYTES ((base_at ps p + o) % 2 ^ 64)) i

-- the segment that a segment stands for, so many bytes further on
abbrev pub segment_at : Places → ℕ → Segment Byte → Segment ℕ
segment_at ps shift s = record { base = shift + s.base; bytes = map (byte_at ps) s.bytes; rights = s.rights; role = s.role }

-- the segments that an address space stands for: the stack counts before the immovable part, and that before the
-- movable one
abbrev pub segments_at : Places → AddressSpace → List (Segment ℕ)
segments_at ps space =
    map (segment_at ps (base_of ps.stack)) space.stack
    ++ map (segment_at ps 0) space.fixed
    ++ map (segment_at ps (base_of ps.movable)) space.movable

-- The image is whole, the movable part and the stack have places of their pages, and these two and the
-- immovable part lie in different regions.
pub record IsApart (i : Image) (ps : Places) : Type 0 where
  pub whole : IsWhole i
  pub movable : IsModulePlace ps.movable
  pub movable_size : ps.movable.pages ≡ movable_pages i
  pub stack : IsPlace ps.stack
  pub stack_size : ps.stack.pages ≡ STACK_PAGES
  pub movable_stack : ps.movable.region ≢ ps.stack.region
  pub movable_fixed : ps.movable.region ≢ i.fixed.region
  pub stack_fixed : ps.stack.region ≢ i.fixed.region

-- the segments lie one behind the other as the layout of the image has it
pub record Fits (space : AddressSpace) : Type 0 where
  pub movable : extents space.movable ≡ extents_from 0 (size_of space.image) movable_roles
  pub stack : extents space.stack ≡ extents_from 0 (size_of space.image) stack_roles
  pub fixed : extents space.fixed ≡ extents_from (base_of space.image.fixed) (size_of space.image) fixed_roles

-- the data of a book is as long as the image's pages of data
pub record DataFits (i : Image) (book : Contents) : Type 0 where
  pub writable : length book.writable ≡ i.data_pages * PAGE_BYTES
  pub fixed : length book.fixed ≡ i.fixed_data_pages * PAGE_BYTES
