-- The types of relocations that are taken: what value each computes, and how its field spells it (RISC-V ELF psABI,
-- "Relocations").
use Rattle.std.specs.Prelude.{ℕ, ◌+◌, ◌-◌, ◌==◌, ℤ, pos, neg_ℤ, List, [], ◌∷◌, find, Option, Some, None, option_map}
use Rattle.ad_elf.specs.declared.elf.TheConstants.{R_RISCV_32, R_RISCV_32_PCREL, R_RISCV_64, R_RISCV_ADD32, R_RISCV_ADD64, R_RISCV_BRANCH, R_RISCV_CALL, R_RISCV_CALL_PLT, R_RISCV_GOT_HI20, R_RISCV_JAL, R_RISCV_PCREL_HI20, R_RISCV_PCREL_LO12_I, R_RISCV_PCREL_LO12_S, R_RISCV_RELAX, R_RISCV_SUB32, R_RISCV_SUB64}
use Rattle.ad_reloc.specs.declared.row.Form.{Form}
use Rattle.ad_reloc.specs.declared.row.Form.TheVariants as form
use Rattle.ad_reloc.specs.declared.row.Formula.{Formula}
use Rattle.ad_reloc.specs.declared.row.Formula.TheVariants as formula
use Rattle.ad_reloc.specs.declared.row.Row.{Row}

-- a range: from a number on, and below another
abbrev pub Bounds : Type 0
Bounds = Option (ℤ × ℤ)

abbrev pub between : ℤ → ℤ → Bounds
between from to = Some (from, to)

-- the numbers whose high half is one of 20 bits
abbrev pub halves : Bounds
halves = between (neg_ℤ (pos (0x80000000 + 0x800))) (pos (0x80000000 - 0x800))

-- A row: a type, the value that it computes, how its field spells it, and the range of the value.
pub record TypeRow : Type 0 where
  pub typ : ℕ
  pub row : Row

abbrev pub one : ℕ → Formula → Form → Bounds → TypeRow
one typ f g bounds = record { typ = typ; row = record { formula = f; form = g; range = bounds } }

unfoldable pub rows : List TypeRow
rows =
    one R_RISCV_32 formula.Address form.Number32 (between (neg_ℤ (pos 0x80000000)) (pos 0x100000000))
    ∷ one R_RISCV_64 formula.Address form.Number64 None
    ∷ one R_RISCV_BRANCH formula.Distance form.Branch (between (neg_ℤ (pos 4096)) (pos 4095))
    ∷ one R_RISCV_JAL formula.Distance form.Jump (between (neg_ℤ (pos 0x100000)) (pos 0xfffff))
    ∷ one R_RISCV_CALL formula.Distance form.Pair halves
    ∷ one R_RISCV_CALL_PLT formula.Distance form.Pair halves
    ∷ one R_RISCV_GOT_HI20 formula.EntryDistance form.Upper halves
    ∷ one R_RISCV_PCREL_HI20 formula.Distance form.Upper halves
    ∷ one R_RISCV_PCREL_LO12_I formula.OfHigh form.Immediate None
    ∷ one R_RISCV_PCREL_LO12_S formula.OfHigh form.Store None
    ∷ one R_RISCV_ADD32 formula.Sum form.Number32 None
    ∷ one R_RISCV_ADD64 formula.Sum form.Number64 None
    ∷ one R_RISCV_SUB32 formula.Difference form.Number32 None
    ∷ one R_RISCV_SUB64 formula.Difference form.Number64 None
    ∷ one R_RISCV_RELAX formula.Address form.Empty None
    ∷ one R_RISCV_32_PCREL formula.Distance form.Number32 (between (neg_ℤ (pos 0x80000000)) (pos 0x80000000))
    ∷ []

-- what is said of a type, if it is taken
unfoldable pub row : ℕ → Option Row
row typ = option_map (λ (t : TypeRow). t.row) (find (λ (t : TypeRow). t.typ == typ) rows)
