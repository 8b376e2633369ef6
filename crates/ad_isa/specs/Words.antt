-- Which instructions a word can say (unprivileged ISA, "Base Instruction Formats", "RV64I", "M").
use Rattle.std.specs.Prelude.{◌≡◌, ◌⊎◌, ℕ, ◌<◌, ℤ, pos, neg_ℤ, ◌≤ℤ◌, ◌<ℤ◌, int_rem, Bool, true, false}
use Rattle.ad_isa.specs.declared.instr.Alu.{Alu}
use Rattle.ad_isa.specs.declared.instr.Alu.TheVariants.{Add, Sll, Slt, Sltu, Xor, Srl, Sra, Or, And, Mulh, Mulhsu, Mulhu}
use Rattle.ad_isa.specs.declared.instr.Instr.{Instr}
use Rattle.ad_isa.specs.declared.instr.Instr.TheVariants.{Lui, Auipc, Jal, Jalr, Branch, Load, Store, OpImm, OpImm32, Op, Op32, Fence, Ecall, Ebreak}

-- a number with its sign in 12 bits
abbrev pub In12 : ℤ → Type 0
In12 n = (neg_ℤ (pos 2048) ≤ℤ n) × (n <ℤ pos 2048)

-- by how many bits a number of so many bits can be shifted
abbrev pub IsAmount : ℕ → ℤ → Type 0
IsAmount bits n = (pos 0 ≤ℤ n) × (n <ℤ pos bits)

-- the immediate of an operation on 64 bits, and of one on 32
abbrev pub IsImmediateOf : Alu → ℤ → Type 0
IsImmediateOf Add n = In12 n
IsImmediateOf Slt n = In12 n
IsImmediateOf Sltu n = In12 n
IsImmediateOf Xor n = In12 n
IsImmediateOf Or n = In12 n
IsImmediateOf And n = In12 n
IsImmediateOf Sll n = IsAmount 64 n
IsImmediateOf Srl n = IsAmount 64 n
IsImmediateOf Sra n = IsAmount 64 n
IsImmediateOf op n = ⊥

abbrev pub IsImmediateOf32 : Alu → ℤ → Type 0
IsImmediateOf32 Add n = In12 n
IsImmediateOf32 Sll n = IsAmount 32 n
IsImmediateOf32 Srl n = IsAmount 32 n
IsImmediateOf32 Sra n = IsAmount 32 n
IsImmediateOf32 op n = ⊥

-- the operations that have a form on 32 bits
abbrev pub has_word_form : Alu → Bool
has_word_form Slt = false
has_word_form Sltu = false
has_word_form Xor = false
has_word_form Or = false
has_word_form And = false
has_word_form Mulh = false
has_word_form Mulhsu = false
has_word_form Mulhu = false
has_word_form op = true

-- so many bytes are loaded or stored at once
abbrev pub IsSize : ℕ → Type 0
IsSize n = (n ≡ 1) ⊎ (n ≡ 2) ⊎ (n ≡ 4) ⊎ (n ≡ 8)

-- a multiple from a bound on, and below another
abbrev pub IsMultiple : ℕ → ℕ → ℤ → Type 0
IsMultiple of bound n = (int_rem n (pos of) ≡ pos 0) × (neg_ℤ (pos bound) ≤ℤ n) × (n <ℤ pos bound)

-- An instruction that a word has: the registers are there, and the size, the operation and the immediate are such
-- that the fields of a word can say them.
abbrev pub HasWord : Instr → Type 0
HasWord (Lui rd imm) = (rd < 32) × IsMultiple 0x1000 0x80000000 imm
HasWord (Auipc rd imm) = (rd < 32) × IsMultiple 0x1000 0x80000000 imm
HasWord (Jal rd imm) = (rd < 32) × IsMultiple 2 0x100000 imm
HasWord (Jalr rd rs1 imm) = (rd < 32) × (rs1 < 32) × In12 imm
HasWord (Branch test rs1 rs2 imm) = (rs1 < 32) × (rs2 < 32) × IsMultiple 2 0x1000 imm
HasWord (Load size signed rd rs1 imm) = (rd < 32) × (rs1 < 32) × IsSize size × (signed ≡ false → size < 8) × In12 imm
HasWord (Store size rs1 rs2 imm) = (rs1 < 32) × (rs2 < 32) × IsSize size × In12 imm
HasWord (OpImm op rd rs1 imm) = (rd < 32) × (rs1 < 32) × IsImmediateOf op imm
HasWord (OpImm32 op rd rs1 imm) = (rd < 32) × (rs1 < 32) × IsImmediateOf32 op imm
HasWord (Op op rd rs1 rs2) = (rd < 32) × (rs1 < 32) × (rs2 < 32)
HasWord (Op32 op rd rs1 rs2) = (rd < 32) × (rs1 < 32) × (rs2 < 32) × (has_word_form op ≡ true)
HasWord Fence = Unit {0}
HasWord Ecall = Unit {0}
HasWord Ebreak = Unit {0}
