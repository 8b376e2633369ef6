-- The layout of a module and of a stack, over the type of a byte: which pieces follow one another, how long they are,
-- what may be done with them, and what they hold.
use Rattle.std.specs.Prelude.{ℕ, ◌+◌, ◌-◌, ◌*◌, ◌%◌, ◌^◌, true, false, List, [], ◌∷◌, ◌++◌, length, take, drop}
use Rattle.std.specs.List.{flat_map}
use Rattle.byteorder.specs.Endian.{little_bytes}
use Rattle.ad_base.specs.declared.image.Cell.{Cell}
use Rattle.ad_base.specs.declared.image.Cell.TheVariants.{Off, Num}
use Rattle.ad_base.specs.declared.image.Image.{Image}
use Rattle.ad_base.specs.declared.layout.TheConstants.{LOCAL_PAGES, PAGE_BYTES, STACK_PAGES, STUB_PAGES, TABLE_PAGES, WORD_BYTES}
use Rattle.ad_base.specs.declared.role.Role.{Role}
use Rattle.ad_base.specs.declared.role.Role.TheVariants.{Cells, Code, Constants, Data, FixedCode, FixedConstants, FixedData, FixedTable, Stack, Table}
use Rattle.ad_base.specs.Image.{zeros}
use Rattle.ad_base.specs.Segments.{Extent, Rights, Segment}

-- text and stub pages may be fetched and loaded, read-only pages, tables and local words loaded, data and stack pages
-- loaded and stored
abbrev pub code_rights : Rights
code_rights = record { fetch = true; load = true; store = false }

abbrev pub constant_rights : Rights
constant_rights = record { fetch = false; load = true; store = false }

abbrev pub data_rights : Rights
data_rights = record { fetch = false; load = true; store = true }

abbrev pub rights_of : Role → Rights
rights_of Stack = data_rights
rights_of FixedCode = code_rights
rights_of FixedConstants = constant_rights
rights_of FixedTable = constant_rights
rights_of FixedData = data_rights
rights_of Code = code_rights
rights_of Constants = constant_rights
rights_of Table = constant_rights
rights_of Cells = constant_rights
rights_of Data = data_rights

-- the pieces of each part, in order
abbrev pub stack_roles : List Role
stack_roles = Stack ∷ []

abbrev pub fixed_roles : List Role
fixed_roles = FixedCode ∷ FixedConstants ∷ FixedTable ∷ FixedData ∷ []

abbrev pub movable_roles : List Role
movable_roles = Code ∷ Constants ∷ Table ∷ Cells ∷ Data ∷ []

-- the bytes of the text pages and of the stubs behind them
abbrev pub text_bytes : ℕ → ℕ
text_bytes text_pages = (text_pages + STUB_PAGES) * PAGE_BYTES

-- how many bytes a piece has
abbrev pub size_of : Image → Role → ℕ
size_of i Stack = STACK_PAGES * PAGE_BYTES
size_of i FixedCode = text_bytes i.fixed_text_pages
size_of i FixedConstants = i.fixed_read_pages * PAGE_BYTES
size_of i FixedTable = TABLE_PAGES * PAGE_BYTES
size_of i FixedData = i.fixed_data_pages * PAGE_BYTES
size_of i Code = text_bytes i.text_pages
size_of i Constants = i.read_pages * PAGE_BYTES
size_of i Table = TABLE_PAGES * PAGE_BYTES
size_of i Cells = LOCAL_PAGES * PAGE_BYTES
size_of i Data = i.data_pages * PAGE_BYTES

-- pieces of these sizes one behind the other, from a base on
abbrev pub extents_from : ℕ → (Role → ℕ) → List Role → List Extent
extents_from base size [] = []
extents_from base size (r ∷ rs) = record { base = base; size = size r; rights = rights_of r; role = r } ∷ extents_from (base + size r) size rs

-- words as the bytes of a page: the lowest byte first, and zeros behind the last
abbrev pub page_of_words : List ℕ → List ℕ
page_of_words words = let bytes = flat_map (little_bytes WORD_BYTES) words in bytes ++ zeros (PAGE_BYTES - length bytes)

-- a word of the local area of a movable part with this base
abbrev pub local_word : ℕ → Cell → ℕ
local_word base (Off offset) = (base + offset) % 2 ^ 64
local_word base (Num n) = n

module _ {B : Type 0} where
  -- pieces that hold these bytes one behind the other, from a base on
  abbrev pub laid_out : ℕ → (Role → List B) → List Role → List (Segment B)
  laid_out base bytes [] = []
  laid_out base bytes (r ∷ rs) = record { base = base; bytes = bytes r; rights = rights_of r; role = r } ∷ laid_out (base + length (bytes r)) bytes rs

  -- what the pieces hold: numbers that the image has, as bytes, and the bytes of the local area, of the data of both
  -- parts, and of the stack
  module _ (as_bytes : List ℕ → List B) (i : Image) (cells data_bytes fixed_data stack : List B) where
    abbrev pub bytes_of : Role → List B
    bytes_of Stack = stack
    bytes_of FixedCode = as_bytes (take (text_bytes i.fixed_text_pages) i.fixed_code)
    bytes_of FixedConstants = as_bytes (drop (text_bytes i.fixed_text_pages) i.fixed_code)
    bytes_of FixedTable = as_bytes (page_of_words i.table)
    bytes_of FixedData = fixed_data
    bytes_of Code = as_bytes (take (text_bytes i.text_pages) i.code)
    bytes_of Constants = as_bytes (drop (text_bytes i.text_pages) i.code)
    bytes_of Table = as_bytes (page_of_words i.table)
    bytes_of Cells = cells
    bytes_of Data = data_bytes
