-- The modules that are built: what a script calls them, and what their object files are written of.
use Rattle.std.specs.Prelude.{ℕ, ◌+◌, ◌*◌, List, [], ◌∷◌, codes, flat_map, length, pos, position, replicate, Option, Some, None}
use Rattle.std.specs.List.{slice_get}
use Rattle.std.specs.Option.{option_map_or}
use Rattle.std.specs.Str.{bytes_eq}
use Rattle.ad_base.specs.declared.layout.TheConstants.{WORD_BYTES}
use Rattle.ad_elf.specs.declared.elf.TheConstants.{R_RISCV_64, R_RISCV_CALL_PLT, R_RISCV_PCREL_HI20, R_RISCV_PCREL_LO12_I, SHF_ALLOC, SHF_EXECINSTR, SHF_WRITE, SHN_UNDEF, SHT_NOBITS, SHT_PROGBITS, STB_GLOBAL, STT_FUNC, STT_NOTYPE}
use Rattle.ad_elf.specs.declared.object.Object.{Object}
use Rattle.ad_kit.specs.ObjectFile.{object_file, u32}
use Rattle.ad_kit.specs.ReadBack.{object_of}
use Rattle.ad_kit.specs.declared.object.KitRela.{KitRela}
use Rattle.ad_kit.specs.declared.object.KitSection.{KitSection}
use Rattle.ad_kit.specs.declared.object.KitSymbol.{KitSymbol}
use Rattle.ad_generator.specs.declared.symbols.TheConstants.{DATA, STB_LOCAL, STT_OBJECT, TEXT}

-- A module: its name in a script, the name of the one function that it exports, the second argument that a script gives the
-- function, if it takes one, and the sections and symbols of its object file.
pub record Module : Type 0 where
  pub name : List ℕ
  pub export : List ℕ
  pub second : Option ℕ
  pub sections : List KitSection
  pub symbols : List KitSymbol

-- A section of instructions, with these words; one of so many zeros that are written to; and one of addresses, each a word
-- that is zero in the file and that a relocation makes.
abbrev pub text : List ℕ → List KitRela → KitSection
text words relas = record { name = codes ".text"; typ = SHT_PROGBITS; flags = SHF_ALLOC + SHF_EXECINSTR; align = 4; bytes = flat_map u32 words; size = 0; relas = relas }

abbrev pub zeros : ℕ → KitSection
zeros size = record { name = codes ".bss"; typ = SHT_NOBITS; flags = SHF_ALLOC + SHF_WRITE; align = WORD_BYTES; bytes = []; size = size; relas = [] }

abbrev pub addresses : List KitRela → KitSection
addresses relas = record { name = codes ".data.rel.ro"; typ = SHT_PROGBITS; flags = SHF_ALLOC + SHF_WRITE; align = WORD_BYTES; bytes = replicate (WORD_BYTES * length relas) 0; size = 0; relas = relas }

-- Symbols, of so many bytes. The exported function stands at the start of the text. Local are another function at an offset
-- of the text, the object that the data are, and a label at the start of the text. A service is not defined in the file.
abbrev pub exported : List ℕ → ℕ → KitSymbol
exported name size = record { name = name; info = STB_GLOBAL * 16 + STT_FUNC; shndx = TEXT; value = 0; size = size }

abbrev pub local_function : List ℕ → ℕ → ℕ → KitSymbol
local_function name at size = record { name = name; info = STB_LOCAL * 16 + STT_FUNC; shndx = TEXT; value = at; size = size }

abbrev pub local_object : List ℕ → ℕ → KitSymbol
local_object name size = record { name = name; info = STB_LOCAL * 16 + STT_OBJECT; shndx = DATA; value = 0; size = size }

abbrev pub label : List ℕ → KitSymbol
label name = record { name = name; info = STB_LOCAL * 16 + STT_NOTYPE; shndx = TEXT; value = 0; size = 0 }

abbrev pub service : List ℕ → KitSymbol
service name = record { name = name; info = STB_GLOBAL * 16 + STT_NOTYPE; shndx = SHN_UNDEF; value = 0; size = 0 }

-- the number of the first symbol of this name, counted from 1, and 0 where there is none
abbrev pub number_of : List KitSymbol → List ℕ → ℕ
number_of symbols name = option_map_or (λ k. k + 1) (position (λ (y : KitSymbol). bytes_eq y.name name) symbols) 0

-- a relocation of the field at an offset, by its symbol's name
abbrev pub relocation : List KitSymbol → ℕ → List ℕ → ℕ → KitRela
relocation symbols offset name typ = record { offset = offset; symbol = number_of symbols name; typ = typ; addend = pos 0 }

-- `sum` adds its two arguments.
abbrev pub sum_export : List ℕ
sum_export = codes "sum"

abbrev pub sum_words : List ℕ
sum_words =
    0x00b50533  -- add a0, a0, a1
    ∷ 0x00008067  -- ret
    ∷ []

abbrev pub sum : Module
sum = record { name = codes "sum"; export = sum_export; second = Some 1; sections = text sum_words [] ∷ []; symbols = exported sum_export 8 ∷ [] }

-- `add` of `cnt` adds its argument to `count`, and returns the sum.
abbrev pub cnt_export : List ℕ
cnt_export = codes "add"

abbrev pub cnt_symbols : List KitSymbol
cnt_symbols = local_object (codes "count") 8 ∷ label (codes ".Lpcrel_hi0") ∷ exported cnt_export 24 ∷ []

abbrev pub cnt_words : List ℕ
cnt_words =
    0x00000297  -- .Lpcrel_hi0: auipc t0, %pcrel_hi(count)
    ∷ 0x00028293  -- addi t0, t0, %pcrel_lo(.Lpcrel_hi0)
    ∷ 0x0002b303  -- ld t1, 0(t0)
    ∷ 0x00650533  -- add a0, a0, t1
    ∷ 0x00a2b023  -- sd a0, 0(t0)
    ∷ 0x00008067  -- ret
    ∷ []

abbrev pub cnt_text : KitSection
cnt_text =
    text cnt_words
    (relocation cnt_symbols 0 (codes "count") R_RISCV_PCREL_HI20
    ∷ relocation cnt_symbols 4 (codes ".Lpcrel_hi0") R_RISCV_PCREL_LO12_I
    ∷ [])

abbrev pub cnt : Module
cnt = record { name = codes "cnt"; export = cnt_export; second = None; sections = cnt_text ∷ zeros 8 ∷ []; symbols = cnt_symbols }

-- `echo` of `dev` writes its argument to the queue of the module's device, and reads the oldest word there.
abbrev pub dev_export : List ℕ
dev_export = codes "echo"

abbrev pub dev_symbols : List KitSymbol
dev_symbols = exported dev_export 24 ∷ service (codes "k_out") ∷ service (codes "k_in") ∷ []

abbrev pub dev_words : List ℕ
dev_words =
    0x00008393  -- addi t2, ra, 0
    ∷ 0x00000097  -- call k_out: auipc ra, 0
    ∷ 0x000080e7  -- jalr ra, 0(ra)
    ∷ 0x00000097  -- call k_in: auipc ra, 0
    ∷ 0x000080e7  -- jalr ra, 0(ra)
    ∷ 0x00038067  -- jalr x0, 0(t2)
    ∷ []

abbrev pub dev_text : KitSection
dev_text =
    text dev_words
    (relocation dev_symbols 4 (codes "k_out") R_RISCV_CALL_PLT
    ∷ relocation dev_symbols 12 (codes "k_in") R_RISCV_CALL_PLT
    ∷ [])

abbrev pub dev : Module
dev = record { name = codes "dev"; export = dev_export; second = None; sections = dev_text ∷ []; symbols = dev_symbols }

-- `pick` of `tab` jumps to the function that the lowest bit of its argument picks from `table`: one that returns 10, or one
-- that returns 20.
abbrev pub tab_export : List ℕ
tab_export = codes "pick"

abbrev pub tab_symbols : List KitSymbol
tab_symbols =
    local_object (codes "table") 16
    ∷ label (codes ".Lpcrel_hi0")
    ∷ local_function (codes "ten") 28 8
    ∷ local_function (codes "twenty") 36 8
    ∷ exported tab_export 28
    ∷ []

abbrev pub tab_words : List ℕ
tab_words =
    0x00000297  -- .Lpcrel_hi0: auipc t0, %pcrel_hi(table)
    ∷ 0x00028293  -- addi t0, t0, %pcrel_lo(.Lpcrel_hi0)
    ∷ 0x00157513  -- andi a0, a0, 1
    ∷ 0x00351513  -- slli a0, a0, 3
    ∷ 0x00a282b3  -- add t0, t0, a0
    ∷ 0x0002b283  -- ld t0, 0(t0)
    ∷ 0x00028067  -- jalr x0, 0(t0)
    ∷ 0x00a00513  -- ten: addi a0, x0, 10
    ∷ 0x00008067  -- ret
    ∷ 0x01400513  -- twenty: addi a0, x0, 20
    ∷ 0x00008067  -- ret
    ∷ []

abbrev pub tab_text : KitSection
tab_text =
    text tab_words
    (relocation tab_symbols 0 (codes "table") R_RISCV_PCREL_HI20
    ∷ relocation tab_symbols 4 (codes ".Lpcrel_hi0") R_RISCV_PCREL_LO12_I
    ∷ [])

abbrev pub tab_addresses : KitSection
tab_addresses = addresses (relocation tab_symbols 0 (codes "ten") R_RISCV_64 ∷ relocation tab_symbols 8 (codes "twenty") R_RISCV_64 ∷ [])

abbrev pub tab : Module
tab = record { name = codes "tab"; export = tab_export; second = None; sections = tab_text ∷ tab_addresses ∷ []; symbols = tab_symbols }

-- all of them, by their numbers
abbrev pub modules : List Module
modules = sum ∷ cnt ∷ dev ∷ tab ∷ []

-- the object of a module, and the bytes of its file
abbrev pub object : Module → Object
object m = object_of m.sections m.symbols

abbrev pub file : Module → List ℕ
file m = object_file m.sections m.symbols

-- the bytes of the file of the module of a number, and none where no module has it
abbrev pub built_file : ℕ → List ℕ
built_file number = option_map_or file (slice_get modules number) []
