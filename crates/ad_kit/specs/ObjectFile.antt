-- The file of an object that is written from its sections and symbols (gABI, "Object Files").
use Rattle.std.specs.Prelude.{ℕ, ℤ, ◌+◌, ◌-◌, ◌*◌, ◌^◌, ◌==◌, ◌||◌, ◌/◌, Bool, not, List, [], ◌∷◌, ◌++◌, codes, count_by, flat_map, fold, if◌then◌else◌, length, map, replicate, unwrap_or, Option, Some, None, is_some}
use Rattle.std.specs.Int.{cast_unsigned, w64}
use Rattle.std.specs.Str.{bytes_eq}
use Rattle.byteorder.specs.Endian.{little_bytes}
use Rattle.ad_elf.specs.declared.elf.TheConstants.{ELFCLASS64, ELFDATA2LSB, EM_RISCV, ET_REL, EV_CURRENT, FILE_HEADER_BYTES, MAGIC, RELA_BYTES, SECTION_HEADER_BYTES, SHT_NOBITS, SHT_NULL, SHT_RELA, SHT_STRTAB, SHT_SYMTAB, SYMBOL_BYTES}
use Rattle.ad_parts.specs.Ends.{next}
use Rattle.ad_kit.specs.declared.header.Header.{Header}
use Rattle.ad_kit.specs.declared.object.KitRela.{KitRela}
use Rattle.ad_kit.specs.declared.object.KitSection.{KitSection}
use Rattle.ad_kit.specs.declared.object.KitSymbol.{KitSymbol}

-- numbers of 1, 2, 4 and 8 bytes, the lowest byte first
abbrev pub u8 : ℕ → List ℕ
u8 n = little_bytes 1 n

abbrev pub u16 : ℕ → List ℕ
u16 n = little_bytes 2 n

abbrev pub u32 : ℕ → List ℕ
u32 n = little_bytes 4 n

abbrev pub u64 : ℕ → List ℕ
u64 n = little_bytes 8 n

abbrev pub i64 : ℤ → List ℕ
i64 z = u64 (cast_unsigned w64 z)

-- Where a name stands among names that follow one another, each with a zero byte behind it, the first at a place.
unfoldable pub find_place : ℕ → List (List ℕ) → List ℕ → Option ℕ
find_place at [] name = None
find_place at (n ∷ ns) name = if bytes_eq n name then Some at else find_place (at + length n + 1) ns name

-- A section of strings (gABI, "String Table"): a zero byte, then the names. The empty name stands at 0.
unfoldable pub strings : List (List ℕ) → List ℕ
strings ns = 0 ∷ flat_map (λ n. n ++ 0 ∷ []) ns

abbrev pub place : List (List ℕ) → List ℕ → ℕ
place ns name = unwrap_or (find_place 1 ns name) 0

-- the names that are used, each once and in the order of their first use, without the empty one
abbrev pub with_name : List (List ℕ) → List ℕ → List (List ℕ)
with_name ns name = if (length name == 0) || is_some (find_place 1 ns name) then ns else ns ++ name ∷ []

unfoldable pub used : List (List ℕ) → List (List ℕ)
used names = fold with_name [] names

-- the bytes of a section in the file, and its size: one of zeros has no bytes
abbrev pub stored : KitSection → List ℕ
stored s = if s.typ == SHT_NOBITS then [] else s.bytes

abbrev pub size_of : KitSection → ℕ
size_of s = if s.typ == SHT_NOBITS then s.size else length s.bytes

-- A section with relocations has a section of them behind it, whose name is `.rela` and its own.
abbrev pub has_relas : KitSection → Bool
has_relas s = not (length s.relas == 0)

abbrev pub rela_name : KitSection → List ℕ
rela_name s = codes ".rela" ++ s.name

-- the names of a section and of its relocations; the names of all sections, and of all symbols
unfoldable pub names_of : KitSection → List (List ℕ)
names_of s = s.name ∷ (if has_relas s then rela_name s ∷ [] else [])

abbrev pub last_names : List (List ℕ)
last_names = codes ".symtab" ∷ codes ".strtab" ∷ codes ".shstrtab" ∷ []

abbrev pub header_names : List KitSection → List (List ℕ)
header_names ss = flat_map names_of ss ++ last_names

abbrev pub names : List KitSymbol → List (List ℕ)
names ys = map (λ (y : KitSymbol). y.name) ys

abbrev pub section_names : List KitSection → List (List ℕ)
section_names ss = used (header_names ss)

abbrev pub symbol_names : List KitSymbol → List (List ℕ)
symbol_names ys = used (names ys)

-- Each of the sections and their relocations has one name, so these are their numbers: that of the section that comes
-- behind others, and that of the table of symbols, which comes behind all.
abbrev pub number : List KitSection → ℕ
number before = 1 + length (flat_map names_of before)

-- a relocation (gABI, "Relocation") and a symbol (gABI, "Symbol Table")
abbrev pub rela : KitRela → List ℕ
rela r = u64 r.offset ++ u64 (r.symbol * 2 ^ 32 + r.typ) ++ i64 r.addend

abbrev pub symbol_at : ℕ → KitSymbol → List ℕ
symbol_at name y = u32 name ++ u8 y.info ++ u8 0 ++ u16 y.shndx ++ u64 y.value ++ u64 y.size

abbrev pub symbol : List (List ℕ) → KitSymbol → List ℕ
symbol ns y = symbol_at (place ns y.name) y

-- the place in the file behind the file's header and these bytes, and the next multiple of an alignment from there
abbrev pub end_of : List ℕ → ℕ
end_of body = FILE_HEADER_BYTES + length body

abbrev pub begin_behind : ℕ → List ℕ → ℕ
begin_behind align body = next align (end_of body)

-- the bytes with zeros behind them up to there
unfoldable pub padded : ℕ → List ℕ → List ℕ
padded align body = body ++ replicate (begin_behind align body - end_of body) 0

-- The sections follow one another, each at the next multiple of its alignment, then the relocations, each section of
-- them at the next multiple of 8, which it has by itself but for the first.
unfoldable pub sections_bytes : List KitSection → List ℕ
sections_bytes ss = fold (λ body s. padded s.align body ++ stored s) [] ss

unfoldable pub relas_bytes : List KitSection → List ℕ
relas_bytes ss = flat_map (λ (s : KitSection). flat_map rela s.relas) ss

-- the symbols, of which the first is none
unfoldable pub symbols_bytes : List (List ℕ) → List KitSymbol → List ℕ
symbols_bytes ns ys = replicate SYMBOL_BYTES 0 ++ flat_map (symbol ns) ys

-- what stands between the file's header and the relocations, the table of symbols, the two sections of strings, and the
-- section table
abbrev pub to_relas : List KitSection → List ℕ
to_relas ss = padded 8 (sections_bytes ss)

abbrev pub to_symbols : List KitSection → List ℕ
to_symbols ss = to_relas ss ++ relas_bytes ss

abbrev pub to_strings : List KitSection → List KitSymbol → List ℕ
to_strings ss ys = to_symbols ss ++ symbols_bytes (symbol_names ys) ys

abbrev pub to_names : List KitSection → List KitSymbol → List ℕ
to_names ss ys = to_strings ss ys ++ strings (symbol_names ys)

abbrev pub to_table : List KitSection → List KitSymbol → List ℕ
to_table ss ys = padded 8 (to_names ss ys ++ strings (section_names ss))

-- the header of a section that comes behind others, and of its relocations
unfoldable pub header_of : List KitSection → List KitSection → KitSection → Header
header_of ss before s = record {
  name = place (section_names ss) s.name;
  typ = s.typ;
  flags = s.flags;
  offset = begin_behind s.align (sections_bytes before);
  size = size_of s;
  link = 0;
  info = 0;
  align = s.align;
  entry_size = 0;
}

unfoldable pub rela_header : List KitSection → List KitSection → KitSection → Header
rela_header ss before s = record {
  name = place (section_names ss) (rela_name s);
  typ = SHT_RELA;
  flags = 0;
  offset = end_of (to_relas ss ++ relas_bytes before);
  size = RELA_BYTES * length s.relas;
  link = number ss;
  info = number before;
  align = 8;
  entry_size = RELA_BYTES;
}

unfoldable pub headers_of : List KitSection → List KitSection → KitSection → List Header
headers_of ss before s = header_of ss before s ∷ (if has_relas s then rela_header ss before s ∷ [] else [])

unfoldable pub headers_behind : List KitSection → List KitSection → List KitSection → List Header
headers_behind ss before [] = []
headers_behind ss before (s ∷ later) = headers_of ss before s ++ headers_behind ss (before ++ s ∷ []) later

-- the header of no section, of the table of symbols, and of a section of strings
abbrev pub null_header : Header
null_header = record { name = 0; typ = SHT_NULL; flags = 0; offset = 0; size = 0; link = 0; info = 0; align = 0; entry_size = 0 }

-- A symbol is local where its binding is 0, and the local ones come first.
abbrev pub is_local : KitSymbol → Bool
is_local y = y.info / 16 == 0

unfoldable pub symbols_header : List KitSection → List KitSymbol → Header
symbols_header ss ys = record {
  name = place (section_names ss) (codes ".symtab");
  typ = SHT_SYMTAB;
  flags = 0;
  offset = end_of (to_symbols ss);
  size = SYMBOL_BYTES * (1 + length ys);
  link = number ss + 1;
  info = 1 + count_by is_local ys;
  align = 8;
  entry_size = SYMBOL_BYTES;
}

abbrev pub strings_header : ℕ → ℕ → ℕ → Header
strings_header name at size = record { name = name; typ = SHT_STRTAB; flags = 0; offset = at; size = size; link = 0; info = 0; align = 1; entry_size = 0 }

-- the section table
abbrev pub headers : List KitSection → List KitSymbol → List Header
headers ss ys =
    null_header
    ∷ headers_behind ss [] ss
    ++ symbols_header ss ys
    ∷ strings_header (place (section_names ss) (codes ".strtab")) (end_of (to_strings ss ys)) (length (strings (symbol_names ys)))
    ∷ strings_header (place (section_names ss) (codes ".shstrtab")) (end_of (to_names ss ys)) (length (strings (section_names ss)))
    ∷ []

-- a header (gABI, "Sections"), whose address is 0
abbrev pub header : Header → List ℕ
header h = u32 h.name ++ u32 h.typ ++ u64 h.flags ++ u64 0 ++ u64 h.offset ++ u64 h.size ++ u32 h.link ++ u32 h.info ++ u64 h.align ++ u64 h.entry_size

-- The header of a file (gABI, "ELF Header"): relocatable, for RISC-V, with its section table at a place, of so many
-- sections, of which the last has their names.
abbrev pub identification : List ℕ
identification = MAGIC ++ ELFCLASS64 ∷ ELFDATA2LSB ∷ EV_CURRENT ∷ [] ++ replicate 9 0

abbrev pub file_header : ℕ → ℕ → List ℕ
file_header table_at sections =
    identification ++ u16 ET_REL ++ u16 EM_RISCV ++ u32 EV_CURRENT ++ u64 0 ++ u64 0 ++ u64 table_at ++ u32 0
    ++ u16 FILE_HEADER_BYTES ++ u16 0 ++ u16 0 ++ u16 SECTION_HEADER_BYTES ++ u16 sections ++ u16 (sections - 1)

-- the file of these sections and symbols
unfoldable pub object_file : List KitSection → List KitSymbol → List ℕ
object_file ss ys = file_header (end_of (to_table ss ys)) (number ss + 3) ++ to_table ss ys ++ flat_map header (headers ss ys)
