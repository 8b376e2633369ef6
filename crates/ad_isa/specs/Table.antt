-- The table of instructions: which word is which (unprivileged ISA, "RV64I", "M", and its opcode map).
use Rattle.std.specs.Prelude.{◌≡◌, ℕ, ℤ, Bool, true, false, Option, option_map, List, [], ◌∷◌, find, Any, ◌==◌, if◌then◌else◌, ◌&&◌}
use Rattle.ad_isa.specs.declared.instr.Alu.{Alu}
use Rattle.ad_isa.specs.declared.instr.Alu.TheVariants.{Add, Sub, Sll, Slt, Sltu, Xor, Srl, Sra, Or, And, Mul, Mulh, Mulhsu, Mulhu, Div, Divu, Rem, Remu}
use Rattle.ad_isa.specs.declared.instr.Test.{Test}
use Rattle.ad_isa.specs.declared.instr.Test.TheVariants.{Eq, Ne, Lt, Ge, Ltu, Geu}
use Rattle.ad_isa.specs.declared.instr.Instr.{Instr}
use Rattle.ad_isa.specs.declared.instr.Instr.TheVariants.{Lui, Auipc, Jal, Jalr, Branch, Load, Store, OpImm, OpImm32, Op, Op32, Fence, Ecall, Ebreak}
use Rattle.ad_isa.specs.Fields as word

-- the bits beside the opcode that all words of a row have
pub data Fixed : Type 0 where
  -- none
  Free : Fixed
  -- funct3
  Funct3 : ℕ → Fixed
  -- funct3 and funct6
  Funct6 : ℕ → ℕ → Fixed
  -- funct3 and funct7
  Funct7 : ℕ → ℕ → Fixed
  -- all bits
  Whole : ℕ → Fixed

abbrev pub fits : ℕ → Fixed → Bool
fits w Free = true
fits w (Funct3 f3) = word.funct3 w == f3
fits w (Funct6 f3 f6) = (word.funct3 w == f3) && (word.funct6 w == f6)
fits w (Funct7 f3 f7) = (word.funct3 w == f3) && (word.funct7 w == f7)
fits w (Whole n) = w == n

-- a row: the bits that are fixed, and the instruction that the others make
pub record Row : Type 0 where
  pub fixed : Fixed
  pub makes : ℕ → Instr

infixl 10 ◌⇒◌
abbrev pub ◌⇒◌ : Fixed → (ℕ → Instr) → Row
fixed ⇒ makes = record { fixed = fixed; makes = makes }

-- the formats
abbrev pub upper : (ℕ → ℤ → Instr) → ℕ → Instr
upper i w = i (word.rd w) (word.u_immediate w)

abbrev pub branch : Test → ℕ → Instr
branch t w = Branch t (word.rs1 w) (word.rs2 w) (word.b_immediate w)

abbrev pub load : ℕ → Bool → ℕ → Instr
load size signed w = Load size signed (word.rd w) (word.rs1 w) (word.i_immediate w)

abbrev pub store : ℕ → ℕ → Instr
store size w = Store size (word.rs1 w) (word.rs2 w) (word.s_immediate w)

abbrev pub immediate : (Alu → ℕ → ℕ → ℤ → Instr) → Alu → ℕ → Instr
immediate i op w = i op (word.rd w) (word.rs1 w) (word.i_immediate w)

abbrev pub shift : Alu → ℕ → Instr
shift op w = OpImm op (word.rd w) (word.rs1 w) (word.amount w)

abbrev pub shift32 : Alu → ℕ → Instr
shift32 op w = OpImm32 op (word.rd w) (word.rs1 w) (word.amount32 w)

abbrev pub registers : (Alu → ℕ → ℕ → ℕ → Instr) → Alu → ℕ → Instr
registers i op w = i op (word.rd w) (word.rs1 w) (word.rs2 w)

-- the rows of each opcode
unfoldable pub rows : ℕ → List Row
rows opcode =
    if opcode == 0x37 then
    ((Free ⇒ upper Lui) ∷ [])
    else (if opcode == 0x17 then
    ((Free ⇒ upper Auipc) ∷ [])
    else (if opcode == 0x6f then
    ((Free ⇒ λ w. Jal (word.rd w) (word.j_immediate w)) ∷ [])
    else (if opcode == 0x67 then
    ((Funct3 0 ⇒ λ w. Jalr (word.rd w) (word.rs1 w) (word.i_immediate w)) ∷ [])
    else (if opcode == 0x63 then
    ((Funct3 0 ⇒ branch Eq)
    ∷ (Funct3 1 ⇒ branch Ne)
    ∷ (Funct3 4 ⇒ branch Lt)
    ∷ (Funct3 5 ⇒ branch Ge)
    ∷ (Funct3 6 ⇒ branch Ltu)
    ∷ (Funct3 7 ⇒ branch Geu) ∷ [])
    else (if opcode == 0x03 then
    ((Funct3 0 ⇒ load 1 true)
    ∷ (Funct3 1 ⇒ load 2 true)
    ∷ (Funct3 2 ⇒ load 4 true)
    ∷ (Funct3 3 ⇒ load 8 true)
    ∷ (Funct3 4 ⇒ load 1 false)
    ∷ (Funct3 5 ⇒ load 2 false)
    ∷ (Funct3 6 ⇒ load 4 false) ∷ [])
    else (if opcode == 0x23 then
    ((Funct3 0 ⇒ store 1)
    ∷ (Funct3 1 ⇒ store 2)
    ∷ (Funct3 2 ⇒ store 4)
    ∷ (Funct3 3 ⇒ store 8) ∷ [])
    else (if opcode == 0x13 then
    ((Funct3 0 ⇒ immediate OpImm Add)
    ∷ (Funct3 2 ⇒ immediate OpImm Slt)
    ∷ (Funct3 3 ⇒ immediate OpImm Sltu)
    ∷ (Funct3 4 ⇒ immediate OpImm Xor)
    ∷ (Funct3 6 ⇒ immediate OpImm Or)
    ∷ (Funct3 7 ⇒ immediate OpImm And)
    ∷ (Funct6 1 0x00 ⇒ shift Sll)
    ∷ (Funct6 5 0x00 ⇒ shift Srl)
    ∷ (Funct6 5 0x10 ⇒ shift Sra) ∷ [])
    else (if opcode == 0x33 then
    ((Funct7 0 0x00 ⇒ registers Op Add)
    ∷ (Funct7 1 0x00 ⇒ registers Op Sll)
    ∷ (Funct7 2 0x00 ⇒ registers Op Slt)
    ∷ (Funct7 3 0x00 ⇒ registers Op Sltu)
    ∷ (Funct7 4 0x00 ⇒ registers Op Xor)
    ∷ (Funct7 5 0x00 ⇒ registers Op Srl)
    ∷ (Funct7 6 0x00 ⇒ registers Op Or)
    ∷ (Funct7 7 0x00 ⇒ registers Op And)
    ∷ (Funct7 0 0x20 ⇒ registers Op Sub)
    ∷ (Funct7 5 0x20 ⇒ registers Op Sra)
    ∷ (Funct7 0 0x01 ⇒ registers Op Mul)
    ∷ (Funct7 1 0x01 ⇒ registers Op Mulh)
    ∷ (Funct7 2 0x01 ⇒ registers Op Mulhsu)
    ∷ (Funct7 3 0x01 ⇒ registers Op Mulhu)
    ∷ (Funct7 4 0x01 ⇒ registers Op Div)
    ∷ (Funct7 5 0x01 ⇒ registers Op Divu)
    ∷ (Funct7 6 0x01 ⇒ registers Op Rem)
    ∷ (Funct7 7 0x01 ⇒ registers Op Remu) ∷ [])
    else (if opcode == 0x1b then
    ((Funct3 0 ⇒ immediate OpImm32 Add)
    ∷ (Funct7 1 0x00 ⇒ shift32 Sll)
    ∷ (Funct7 5 0x00 ⇒ shift32 Srl)
    ∷ (Funct7 5 0x20 ⇒ shift32 Sra) ∷ [])
    else (if opcode == 0x3b then
    ((Funct7 0 0x00 ⇒ registers Op32 Add)
    ∷ (Funct7 1 0x00 ⇒ registers Op32 Sll)
    ∷ (Funct7 5 0x00 ⇒ registers Op32 Srl)
    ∷ (Funct7 0 0x20 ⇒ registers Op32 Sub)
    ∷ (Funct7 5 0x20 ⇒ registers Op32 Sra)
    ∷ (Funct7 0 0x01 ⇒ registers Op32 Mul)
    ∷ (Funct7 4 0x01 ⇒ registers Op32 Div)
    ∷ (Funct7 5 0x01 ⇒ registers Op32 Divu)
    ∷ (Funct7 6 0x01 ⇒ registers Op32 Rem)
    ∷ (Funct7 7 0x01 ⇒ registers Op32 Remu) ∷ [])
    else (if opcode == 0x0f then
    ((Funct3 0 ⇒ λ w. Fence) ∷ [])
    else (if opcode == 0x73 then
    ((Whole 0x00000073 ⇒ λ w. Ecall)
    ∷ (Whole 0x00100073 ⇒ λ w. Ebreak) ∷ [])
    else []))))))))))))

-- the instruction of a word: what the first row of its opcode makes that has the word
unfoldable pub decoded : ℕ → Option Instr
decoded w = option_map (λ (r : Row). r.makes w) (find (λ (r : Row). fits w r.fixed) (rows (word.opcode w)))

-- a row of its opcode has the word, and makes this instruction of it
abbrev pub IsWordOf : Instr → ℕ → Type 0
IsWordOf i w = Any (λ (r : Row). (fits w r.fixed ≡ true) × (r.makes w ≡ i)) (rows (word.opcode w))
