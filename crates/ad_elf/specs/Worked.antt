-- A worked file: one function of two instructions that adds its two arguments.
use Rattle.std.specs.Prelude.{ℕ, ◌+◌, List, [], ◌∷◌, ◌++◌, codes, replicate}
use Rattle.ad_elf.specs.declared.elf.TheConstants.{SHF_ALLOC, SHF_EXECINSTR, SHT_PROGBITS, STB_GLOBAL, STT_FUNC}
use Rattle.ad_elf.specs.declared.object.Object.{Object}
use Rattle.ad_elf.specs.declared.object.Section.{Section}
use Rattle.ad_elf.specs.declared.object.Symbol.{Symbol}

-- the header of the file
abbrev pub sum_header : List ℕ
sum_header =
    (0x7f ∷ 0x45 ∷ 0x4c ∷ 0x46 ∷ 0x02 ∷ 0x01 ∷ 0x01 ∷ [])
    ++ replicate 9 0
    ++ (0x01 ∷ 0x00 ∷ 0xf3 ∷ 0x00 ∷ 0x01 ∷ [])
    ++ replicate 19 0
    ++ (0xa0 ∷ [])
    ++ replicate 11 0
    ++ (0x40 ∷ 0x00 ∷ 0x00 ∷ 0x00 ∷ 0x00 ∷ 0x00 ∷ 0x40 ∷ 0x00 ∷ 0x05 ∷ 0x00 ∷ 0x04 ∷ 0x00 ∷ [])

-- `add a0, a0, a1` and `ret`
abbrev pub sum_text : List ℕ
sum_text =
    (0x33 ∷ 0x05 ∷ 0xb5 ∷ 0x00 ∷ 0x67 ∷ 0x80 ∷ 0x00 ∷ 0x00 ∷ [])

-- symbol 0, and a global function of 8 bytes at the start of section 1, whose name begins at 1
abbrev pub sum_symbols : List ℕ
sum_symbols =
    replicate 24 0
    ++ (0x01 ∷ 0x00 ∷ 0x00 ∷ 0x00 ∷ 0x12 ∷ 0x00 ∷ 0x01 ∷ [])
    ++ replicate 9 0
    ++ (0x08 ∷ 0x00 ∷ 0x00 ∷ 0x00 ∷ 0x00 ∷ 0x00 ∷ 0x00 ∷ 0x00 ∷ [])

-- the name of the function
abbrev pub sum_strings : List ℕ
sum_strings =
    (0x00 ∷ 0x73 ∷ 0x75 ∷ 0x6d ∷ 0x00 ∷ [])

-- the names of the sections, and two bytes up to the section table
abbrev pub sum_names : List ℕ
sum_names =
    (0x00 ∷ 0x2e ∷ 0x74 ∷ 0x65 ∷ 0x78 ∷ 0x74 ∷ 0x00 ∷ 0x2e ∷ 0x73 ∷ 0x79 ∷ 0x6d ∷ 0x74 ∷ 0x61 ∷ 0x62 ∷ 0x00 ∷ 0x2e ∷ [])
    ++ (0x73 ∷ 0x74 ∷ 0x72 ∷ 0x74 ∷ 0x61 ∷ 0x62 ∷ 0x00 ∷ 0x2e ∷ 0x73 ∷ 0x68 ∷ 0x73 ∷ 0x74 ∷ 0x72 ∷ 0x74 ∷ 0x61 ∷ 0x62 ∷ [])
    ++ (0x00 ∷ 0x00 ∷ 0x00 ∷ [])

-- the section table: the null section, `.text`, `.symtab`, `.strtab` and `.shstrtab`
abbrev pub sum_table : List ℕ
sum_table =
    replicate 64 0
    ++ (0x01 ∷ 0x00 ∷ 0x00 ∷ 0x00 ∷ 0x01 ∷ 0x00 ∷ 0x00 ∷ 0x00 ∷ 0x06 ∷ [])
    ++ replicate 15 0
    ++ (0x40 ∷ 0x00 ∷ 0x00 ∷ 0x00 ∷ 0x00 ∷ 0x00 ∷ 0x00 ∷ 0x00 ∷ 0x08 ∷ [])
    ++ replicate 15 0
    ++ (0x04 ∷ [])
    ++ replicate 15 0
    ++ (0x07 ∷ 0x00 ∷ 0x00 ∷ 0x00 ∷ 0x02 ∷ [])
    ++ replicate 19 0
    ++ (0x48 ∷ 0x00 ∷ 0x00 ∷ 0x00 ∷ 0x00 ∷ 0x00 ∷ 0x00 ∷ 0x00 ∷ 0x30 ∷ 0x00 ∷ 0x00 ∷ 0x00 ∷ 0x00 ∷ 0x00 ∷ 0x00 ∷ 0x00 ∷ [])
    ++ (0x03 ∷ 0x00 ∷ 0x00 ∷ 0x00 ∷ 0x01 ∷ 0x00 ∷ 0x00 ∷ 0x00 ∷ 0x08 ∷ 0x00 ∷ 0x00 ∷ 0x00 ∷ 0x00 ∷ 0x00 ∷ 0x00 ∷ 0x00 ∷ [])
    ++ (0x18 ∷ 0x00 ∷ 0x00 ∷ 0x00 ∷ 0x00 ∷ 0x00 ∷ 0x00 ∷ 0x00 ∷ 0x0f ∷ 0x00 ∷ 0x00 ∷ 0x00 ∷ 0x03 ∷ [])
    ++ replicate 19 0
    ++ (0x78 ∷ 0x00 ∷ 0x00 ∷ 0x00 ∷ 0x00 ∷ 0x00 ∷ 0x00 ∷ 0x00 ∷ 0x05 ∷ [])
    ++ replicate 15 0
    ++ (0x01 ∷ [])
    ++ replicate 15 0
    ++ (0x17 ∷ 0x00 ∷ 0x00 ∷ 0x00 ∷ 0x03 ∷ [])
    ++ replicate 19 0
    ++ (0x7d ∷ 0x00 ∷ 0x00 ∷ 0x00 ∷ 0x00 ∷ 0x00 ∷ 0x00 ∷ 0x00 ∷ 0x21 ∷ [])
    ++ replicate 15 0
    ++ (0x01 ∷ [])
    ++ replicate 15 0

abbrev pub sum_file : List ℕ
sum_file = sum_header ++ sum_text ++ sum_symbols ++ sum_strings ++ sum_names ++ sum_table

-- what it says: one section that is kept, symbol 0 and the function, and no relocations
abbrev pub text_section : Section
text_section = record { index = 1; name = codes ".text"; typ = SHT_PROGBITS; flags = SHF_ALLOC + SHF_EXECINSTR; size = 8; align = 4; bytes = sum_text }

abbrev pub no_symbol : Symbol
no_symbol = record { name = []; bind = 0; kind = 0; shndx = 0; value = 0; size = 0 }

abbrev pub sum_symbol : Symbol
sum_symbol = record { name = codes "sum"; bind = STB_GLOBAL; kind = STT_FUNC; shndx = 1; value = 0; size = 8 }

abbrev pub sum_object : Object
sum_object = record { sections = text_section ∷ []; symbols = no_symbol ∷ sum_symbol ∷ []; relas = [] }
