-- The types of relocations (RISC-V ELF psABI, "Relocations").
use Rattle.std.specs.Prelude.{ℕ, ◌==◌, List, [], ◌∷◌, if◌then◌else◌}
use Rattle.std.specs.List.{list_any}
use Rattle.ad_elf.specs.declared.elf.TheConstants.{R_RISCV_32, R_RISCV_32_PCREL, R_RISCV_64, R_RISCV_ADD32, R_RISCV_ADD64, R_RISCV_BRANCH, R_RISCV_CALL, R_RISCV_CALL_PLT, R_RISCV_GOT_HI20, R_RISCV_JAL, R_RISCV_PCREL_HI20, R_RISCV_PCREL_LO12_I, R_RISCV_PCREL_LO12_S, R_RISCV_SUB32, R_RISCV_SUB64}

-- the types whose field has four bytes, and those whose field has eight
abbrev pub types_of_four : List ℕ
types_of_four =
    R_RISCV_32 ∷ R_RISCV_BRANCH ∷ R_RISCV_JAL ∷ R_RISCV_GOT_HI20 ∷ R_RISCV_PCREL_HI20 ∷ R_RISCV_PCREL_LO12_I ∷ R_RISCV_PCREL_LO12_S ∷ R_RISCV_ADD32
    ∷ R_RISCV_SUB32 ∷ R_RISCV_32_PCREL ∷ []

abbrev pub types_of_eight : List ℕ
types_of_eight = R_RISCV_64 ∷ R_RISCV_CALL ∷ R_RISCV_CALL_PLT ∷ R_RISCV_ADD64 ∷ R_RISCV_SUB64 ∷ []

-- how many bytes the field of a type has: none for every other type
unfoldable pub width : ℕ → ℕ
width typ = if list_any (λ t. typ == t) types_of_four then 4 else (if list_any (λ t. typ == t) types_of_eight then 8 else 0)
