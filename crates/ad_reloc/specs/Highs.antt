-- The entry that a low entry takes its value from (RISC-V ELF psABI, "PC-Relative Symbol Addresses").
use Rattle.std.specs.Prelude.{ℕ, ◌==◌, ◌&&◌, ◌||◌, not, Bool, false, List, length, Option, None, option_and_then, if◌then◌else◌}
use Rattle.std.specs.List.{slice_get}
use Rattle.std.specs.Option.{option_map_or}
use Rattle.ad_elf.specs.declared.elf.TheConstants.{R_RISCV_GOT_HI20, R_RISCV_PCREL_HI20, SHN_UNDEF}
use Rattle.ad_elf.specs.declared.object.Object.{Object}
use Rattle.ad_elf.specs.declared.object.Rela.{Rela}
use Rattle.ad_elf.specs.declared.object.Symbol.{Symbol}
use Rattle.ad_elf.specs.Below.{first}

-- the types whose field has the high half
abbrev pub is_high : ℕ → Bool
is_high typ = (typ == R_RISCV_PCREL_HI20) || (typ == R_RISCV_GOT_HI20)

-- the entry has a high half at an offset of a section, and entry k of a list does
abbrev pub is_high_at : ℕ → ℕ → Rela → Bool
is_high_at target offset h = is_high h.typ && ((h.target == target) && (h.offset == offset))

abbrev pub has_high_at : List Rela → ℕ → ℕ → ℕ → Bool
has_high_at rs target offset k = option_map_or (is_high_at target offset) (slice_get rs k) false

-- the first of a list that does
abbrev pub high_at : List Rela → ℕ → ℕ → Option Rela
high_at rs target offset = option_and_then (slice_get rs) (first (has_high_at rs target offset) (length rs))

-- The high entry of a low entry: the first in the section that both apply to, at the place that the low entry's symbol names
-- there. There is none where the symbol isn't in that section.
abbrev pub high_for : List Rela → Rela → Symbol → Option Rela
high_for rs r y = if (y.shndx == r.target) && not (y.shndx == SHN_UNDEF) then high_at rs r.target y.value else None

unfoldable pub high_of : Object → Rela → Option Rela
high_of o r = if r.symbol == 0 then None else option_and_then (high_for o.relas r) (slice_get o.symbols r.symbol)
