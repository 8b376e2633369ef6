-- The instructions of the modules that are built.
use Rattle.std.specs.Prelude.{◌≡◌, ℕ, pos, List, [], ◌∷◌, ◌++◌, map, Some, true}
use Rattle.ad_isa.specs.Table.{decoded}
use Rattle.ad_isa.specs.declared.instr.Alu.TheVariants.{Add, And, Sll}
use Rattle.ad_isa.specs.declared.instr.Instr.{Instr}
use Rattle.ad_isa.specs.declared.instr.Instr.TheVariants.{Auipc, Jalr, Load, Op, OpImm, Store}

-- registers by their names (RISC-V calling convention)
abbrev pub x0 : ℕ
x0 = 0

abbrev pub ra : ℕ
ra = 1

abbrev pub t0 : ℕ
t0 = 5

abbrev pub t1 : ℕ
t1 = 6

abbrev pub t2 : ℕ
t2 = 7

abbrev pub a0 : ℕ
a0 = 10

abbrev pub a1 : ℕ
a1 = 11

-- the return, the sum of a register and a number, and a call of what is far away, whose distance relocations fill in
abbrev pub ret : Instr
ret = Jalr x0 ra (pos 0)

abbrev pub add_number : ℕ → ℕ → ℕ → Instr
add_number rd rs1 n = OpImm Add rd rs1 (pos n)

abbrev pub far_call : List Instr
far_call = Auipc ra (pos 0) ∷ Jalr ra ra (pos 0) ∷ []

-- the address of what is far away, likewise
abbrev pub far_address : ℕ → List Instr
far_address rd = Auipc rd (pos 0) ∷ add_number rd rd 0 ∷ []

abbrev pub sum_instructions : List Instr
sum_instructions = Op Add a0 a0 a1 ∷ ret ∷ []

abbrev pub cnt_instructions : List Instr
cnt_instructions = far_address t0 ++ Load 8 true t1 t0 (pos 0) ∷ Op Add a0 a0 t1 ∷ Store 8 t0 a0 (pos 0) ∷ ret ∷ []

abbrev pub dev_instructions : List Instr
dev_instructions = add_number t2 ra 0 ∷ far_call ++ far_call ++ Jalr x0 t2 (pos 0) ∷ []

abbrev pub tab_instructions : List Instr
tab_instructions =
    far_address t0
    ++ OpImm And a0 a0 (pos 1)
    ∷ OpImm Sll a0 a0 (pos 3)
    ∷ Op Add t0 t0 a0
    ∷ Load 8 true t0 t0 (pos 0)
    ∷ Jalr x0 t0 (pos 0)
    ∷ add_number a0 x0 10
    ∷ ret
    ∷ add_number a0 x0 20
    ∷ ret
    ∷ []

-- the words are those of the instructions
abbrev pub AreWordsOf : List Instr → List ℕ → Type 0
AreWordsOf instructions words = map decoded words ≡ map Some instructions
