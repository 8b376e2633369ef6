-- What is read back of a file that was written, and which of the files that can be written are read.
use Rattle.std.specs.Prelude.{◌≡◌, ◌≢◌, ◌⊎◌, ℕ, ◌+◌, ◌/◌, ◌%◌, ◌^◌, ◌<◌, ◌≤◌, ◌==◌, ◌||◌, ◌&&◌, Bool, FitsSigned, not, nat_eq, true, false, List, [], ◌∷◌, codes, if◌then◌else◌, length, map, pos, slice_index_or, take}
use Rattle.std.specs.Int.{w64}
use Rattle.std.specs.List.{All, starts_with}
use Rattle.ad_elf.specs.declared.elf.TheConstants.{NAME_BYTES, SHF_ALLOC, SHF_COMPRESSED, SHF_TLS, SHN_ABS, SHN_UNDEF, SHT_NOBITS, SHT_NOTE, SHT_PROGBITS, SHT_REL, SHT_RELA, SHT_SYMTAB, ZERO_BYTES}
use Rattle.ad_elf.specs.declared.object.Object.{Object}
use Rattle.ad_elf.specs.declared.object.Rela.{Rela}
use Rattle.ad_elf.specs.declared.object.Section.{Section}
use Rattle.ad_elf.specs.declared.object.Symbol.{Symbol}
use Rattle.ad_elf.specs.Below.{each, joined}
use Rattle.ad_elf.specs.File.{has_flag}
use Rattle.ad_elf.specs.Relocation.{width}
use Rattle.ad_elf.specs.Worked.{no_symbol}
use Rattle.ad_kit.specs.ObjectFile.{has_relas, headers, null_header, number, object_file, rela_name, size_of, stored}
use Rattle.ad_kit.specs.declared.header.Header.{Header}
use Rattle.ad_kit.specs.declared.object.KitRela.{KitRela}
use Rattle.ad_kit.specs.declared.object.KitSection.{KitSection}
use Rattle.ad_kit.specs.declared.object.KitSymbol.{KitSymbol}

-- The section is kept: it is loaded, is of the program or of zeros, and its name doesn't begin with `.eh_frame`.
unfoldable pub is_kept : KitSection → Bool
is_kept s = has_flag s.flags SHF_ALLOC && ((s.typ == SHT_PROGBITS) || (s.typ == SHT_NOBITS)) && not (starts_with nat_eq s.name (codes ".eh_frame"))

-- what an object says of a section of this number, of entry j of its relocations, and of a symbol
unfoldable pub section_of : ℕ → KitSection → Section
section_of i s = record { index = i; name = s.name; typ = s.typ; flags = s.flags; size = size_of s; align = s.align; bytes = stored s }

unfoldable pub rela_of : ℕ → ℕ → KitRela → Rela
rela_of i j r = record { section = i + 1; entry = j; target = i; offset = r.offset; symbol = r.symbol; typ = r.typ; addend = r.addend }

unfoldable pub symbol_of : KitSymbol → Symbol
symbol_of y = record { name = y.name; bind = y.info / 16; kind = y.info % 16; shndx = y.shndx; value = y.value; size = y.size }

-- the section that comes behind k others, its number in the file, and its relocations by place
abbrev pub no_section : KitSection
no_section = record { name = []; typ = 0; flags = 0; align = 0; bytes = []; size = 0; relas = [] }

abbrev pub no_rela : KitRela
no_rela = record { offset = 0; symbol = 0; typ = 0; addend = pos 0 }

abbrev pub section_behind : List KitSection → ℕ → KitSection
section_behind ss k = slice_index_or ss k no_section

abbrev pub number_behind : List KitSection → ℕ → ℕ
number_behind ss k = number (take k ss)

abbrev pub rela_behind : KitSection → ℕ → KitRela
rela_behind s j = slice_index_or s.relas j no_rela

-- what an object says of that section and of its relocations, if it is kept
unfoldable pub sections_said : List KitSection → ℕ → List Section
sections_said ss k = if is_kept (section_behind ss k) then section_of (number_behind ss k) (section_behind ss k) ∷ [] else []

unfoldable pub relas_said : List KitSection → ℕ → List Rela
relas_said ss k =
    let s = section_behind ss k in
    if is_kept s then each (λ j. rela_of (number_behind ss k) j (rela_behind s j)) (length s.relas) else []

-- The object of these sections and symbols: the sections that are kept, in their order, symbol 0 and the symbols, and the
-- relocations of the sections that are kept, in their order.
unfoldable pub object_of : List KitSection → List KitSymbol → Object
object_of ss ys = record {
  sections = joined (sections_said ss) (length ss);
  symbols = no_symbol ∷ map symbol_of ys;
  relas = joined (relas_said ss) (length ss);
}

-- The numbers fit their fields, and the file has fewer than 2^64 bytes. This holds of all that is written.
pub record IsSectionFit (s : KitSection) : Type 0 where
  pub typ : s.typ < 2 ^ 32
  pub flags : s.flags < 2 ^ 64
  pub size : size_of s < 2 ^ 64

pub record IsRelaFit (r : KitRela) : Type 0 where
  pub offset : r.offset < 2 ^ 64
  pub typ : r.typ < 2 ^ 32
  pub addend : FitsSigned w64 r.addend

pub record IsSymbolFit (y : KitSymbol) : Type 0 where
  pub info : y.info < 2 ^ 8
  pub shndx : y.shndx < 2 ^ 16
  pub value : y.value < 2 ^ 64
  pub size : y.size < 2 ^ 64

pub record AreFit (ss : List KitSection) (ys : List KitSymbol) : Type 0 where
  pub sections : All IsSectionFit ss
  pub relas : All (λ (s : KitSection). All IsRelaFit s.relas) ss
  pub symbols : All IsSymbolFit ys
  pub file : length (object_file ss ys) < 2 ^ 64

-- A section that is loaded is of the program, of zeros or of notes, is the same for all threads and isn't compressed.
pub record IsLoadable (s : KitSection) : Type 0 where
  pub typ : (s.typ ≡ SHT_PROGBITS) ⊎ (s.typ ≡ SHT_NOBITS) ⊎ (s.typ ≡ SHT_NOTE)
  pub shared : has_flag s.flags SHF_TLS ≡ false
  pub plain : has_flag s.flags SHF_COMPRESSED ≡ false

-- A section is read: it is none of symbols or relocations, which are written by themselves, it can be loaded if it is
-- loaded, its zeros are few, its names are short, and no relocations apply to zeros that are kept.
pub record IsSectionReadable (s : KitSection) : Type 0 where
  pub no_symbols : s.typ ≢ SHT_SYMTAB
  pub no_relas : s.typ ≢ SHT_RELA
  pub no_rels : s.typ ≢ SHT_REL
  pub loaded : has_flag s.flags SHF_ALLOC ≡ true → IsLoadable s
  pub zeros : s.typ ≡ SHT_NOBITS → s.size ≤ ZERO_BYTES
  pub name : length s.name ≤ NAME_BYTES
  pub rela_name : has_relas s ≡ true → length (rela_name s) ≤ NAME_BYTES
  pub relocated : is_kept s ≡ true → s.typ ≡ SHT_NOBITS → has_relas s ≡ false

-- A symbol is undefined, or a number, or lies in a section of the file or at its end.
abbrev pub header_behind : List KitSection → List KitSymbol → ℕ → Header
header_behind ss ys i = slice_index_or (headers ss ys) i null_header

abbrev pub IsPlaced : List KitSection → List KitSymbol → KitSymbol → Type 0
IsPlaced ss ys y =
    (y.shndx ≡ SHN_UNDEF) ⊎ (y.shndx ≡ SHN_ABS) ⊎ ((y.shndx < length (headers ss ys)) × (y.value ≤ (header_behind ss ys y.shndx).size))

-- A relocation names a symbol, and its field lies in the section.
pub record IsRelaReadable (ys : List KitSymbol) (s : KitSection) (r : KitRela) : Type 0 where
  pub symbol : r.symbol ≤ length ys
  pub field : r.offset + width r.typ ≤ size_of s

-- The file is read: all of its sections are, its symbols have short names and are placed, and so are the relocations of
-- the sections that are kept.
pub record IsReadable (ss : List KitSection) (ys : List KitSymbol) : Type 0 where
  pub sections : All IsSectionReadable ss
  pub names : All (λ (y : KitSymbol). length y.name ≤ NAME_BYTES) ys
  pub places : All (IsPlaced ss ys) ys
  pub relas : All (λ (s : KitSection). is_kept s ≡ true → All (IsRelaReadable ys s) s.relas) ss
