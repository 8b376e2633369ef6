-- The rows of the table of instructions: what each reads, which operations it takes, what it writes
-- and where it goes next, over any domain of values (unprivileged ISA, "RV64I", "M").
use Rattle.std.specs.Prelude.{ℕ, ◌-◌, ◌^◌, Bool, List, Result, Ok, ◌==◌, if◌then◌else◌, slice_index_or, slice_set}
use Rattle.std.specs.Int.{cast_unsigned, w64}
use Rattle.ad_base.specs.declared.end.End.{End}
use Rattle.ad_base.specs.declared.end.End.TheVariants as ends
use Rattle.ad_isa.specs.declared.instr.Alu.{Alu}
use Rattle.ad_isa.specs.declared.instr.Alu.TheVariants.{Add, Sub, Slt, Sltu, And}
use Rattle.ad_isa.specs.declared.instr.Test.TheVariants as test
use Rattle.ad_isa.specs.declared.instr.Instr.{Instr}
use Rattle.ad_isa.specs.declared.instr.Instr.TheVariants.{Lui, Auipc, Jal, Jalr, Branch, Load, Store, OpImm, OpImm32, Op, Op32, Fence, Ecall, Ebreak}
use Rattle.ad_isa.specs.Domain.{Domain, ◌>>=◌}
use Rattle.ad_isa.specs.Numbers.{number_of, operation_on, word_operation_on}

-- what an instruction comes to
pub data Effect (V : Type 0) : Type 0 where
  -- the next instruction follows
  Passes : Effect V
  -- a register gets a value, and the next instruction follows
  Writes : ℕ → V → Effect V
  -- a register gets a value, and the instruction at a target follows
  Jumps : ℕ → V → V → Effect V
  -- the instruction at a target follows
  Branches : V → Effect V
  -- a register gets what so many bytes at an address hold, with their sign or without
  Loads : ℕ → Bool → ℕ → V → Effect V
  -- so many low bytes of a value go to an address
  Stores : ℕ → V → V → Effect V
  -- the call ends
  Stops : End → Effect V

module _ {V R : Type 0} (d : Domain V R) where
  -- a register's value: register 0 is always zero
  abbrev pub register : List V → ℕ → V
  register xs r = if r == 0 then d.number 0 else slice_index_or xs r (d.number 0)

  -- the registers once one has got a value: register 0 stays
  abbrev pub with_register : List V → ℕ → V → List V
  with_register xs r v = if r == 0 then xs else slice_set xs r v

  abbrev pub truth : Bool → V
  truth b = d.number (number_of b)

  -- the operation of an instruction: but for these five it is of numbers alone
  abbrev pub operation : Alu → V → V → Result V R
  operation Add a b = d.sum a b
  operation Sub a b = d.difference a b
  operation And a b = d.conjunction a b
  operation Slt a b = d.holds test.Lt a b >>= λ t. Ok (truth t)
  operation Sltu a b = d.holds test.Ltu a b >>= λ t. Ok (truth t)
  operation op a b = d.other (operation_on op) a b

  -- the value with bit 0 cleared
  abbrev pub even : V → Result V R
  even v = d.conjunction v (d.number (2 ^ 64 - 2))

  -- The effect of an instruction at pc, which the instruction at `next` follows, where the registers hold xs.
  unfoldable pub effect : List V → V → V → Instr → Result (Effect V) R
  effect xs pc next (Lui rd imm) = Ok (Writes rd (d.number (cast_unsigned w64 imm)))
  effect xs pc next (Auipc rd imm) = do
    value ← d.sum pc (d.number (cast_unsigned w64 imm))
    Ok (Writes rd value)
  effect xs pc next (Jal rd imm) = do
    target ← d.sum pc (d.number (cast_unsigned w64 imm))
    Ok (Jumps rd next target)
  effect xs pc next (Jalr rd rs1 imm) = do
    sum ← d.sum (register xs rs1) (d.number (cast_unsigned w64 imm))
    target ← even sum
    Ok (Jumps rd next target)
  effect xs pc next (Branch test rs1 rs2 imm) = do
    taken ← d.holds test (register xs rs1) (register xs rs2)
    target ← d.sum pc (d.number (cast_unsigned w64 imm))
    Ok (if taken then Branches target else Passes)
  effect xs pc next (Load size signed rd rs1 imm) = do
    address ← d.sum (register xs rs1) (d.number (cast_unsigned w64 imm))
    Ok (Loads size signed rd address)
  effect xs pc next (Store size rs1 rs2 imm) = do
    address ← d.sum (register xs rs1) (d.number (cast_unsigned w64 imm))
    Ok (Stores size (register xs rs2) address)
  effect xs pc next (OpImm op rd rs1 imm) = do
    value ← operation op (register xs rs1) (d.number (cast_unsigned w64 imm))
    Ok (Writes rd value)
  effect xs pc next (Op op rd rs1 rs2) = do
    value ← operation op (register xs rs1) (register xs rs2)
    Ok (Writes rd value)
  effect xs pc next (OpImm32 op rd rs1 imm) = do
    value ← d.other (word_operation_on op) (register xs rs1) (d.number (cast_unsigned w64 imm))
    Ok (Writes rd value)
  effect xs pc next (Op32 op rd rs1 rs2) = do
    value ← d.other (word_operation_on op) (register xs rs1) (register xs rs2)
    Ok (Writes rd value)
  effect xs pc next Fence = Ok Passes
  effect xs pc next Ecall = Ok (Stops ends.Ecall)
  effect xs pc next Ebreak = Ok (Stops ends.Ebreak)
