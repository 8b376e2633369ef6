-- The section and the symbol of the worked file.
use Rattle.std.specs.Prelude.{◌+◌, ◌*◌, List, [], ◌∷◌, codes}
use Rattle.ad_elf.specs.declared.elf.TheConstants.{SHF_ALLOC, SHF_EXECINSTR, SHT_PROGBITS, STB_GLOBAL, STT_FUNC}
use Rattle.ad_elf.specs.Worked.{sum_text}
use Rattle.ad_kit.specs.declared.object.KitSection.{KitSection}
use Rattle.ad_kit.specs.declared.object.KitSymbol.{KitSymbol}

-- a function of two instructions that adds its two arguments
abbrev pub sum_sections : List KitSection
sum_sections = record { name = codes ".text"; typ = SHT_PROGBITS; flags = SHF_ALLOC + SHF_EXECINSTR; align = 4; bytes = sum_text; size = 0; relas = [] } ∷ []

abbrev pub sum_symbols : List KitSymbol
sum_symbols = record { name = codes "sum"; info = STB_GLOBAL * 16 + STT_FUNC; shndx = 1; value = 0; size = 8 } ∷ []
