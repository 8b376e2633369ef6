-- One step of a machine, over any domain of values and any storage: fetch, then a row of the table or a service.
use Rattle.std.specs.Prelude.{ℕ, Bool, List, Option, Some, None, Result, Ok, Err, if◌then◌else◌}
use Rattle.ad_base.specs.declared.end.End.{End}
use Rattle.ad_base.specs.declared.end.End.TheVariants.{Illegal, Misaligned}
use Rattle.ad_base.specs.declared.layout.TheConstants.{FETCH_BYTES, INSTRUCTION_BYTES}
use Rattle.ad_isa.specs.declared.instr.Instr.{Instr}
use Rattle.ad_isa.specs.Domain.{Domain, ◌>>=◌}
use Rattle.ad_isa.specs.Finish.{Ends, Finish}
use Rattle.ad_isa.specs.Rows.{Effect, Passes, Writes, Jumps, Branches, Loads, Stores, Stops, effect, even, register, with_register}

-- the registers and the address of the next instruction
pub record State (V : Type 0) : Type 0 where
  pub registers : List V
  pub pc : V

-- what is found where a machine fetches: an instruction's word, or a service by its number
pub data Found : Type 0 where
  Word : ℕ → Found
  Service : ℕ → Found

-- What a machine finds and leaves in what it stores. Each answers, or says how the call ends, and gives what is stored
-- then; or it gives the reason why none of this is clear.
pub record Storage (V M R : Type 0) : Type 0 where
  pub fetch : M → V → Result (Result Found End × M) R
  -- the instruction of a word, if it has one
  pub decode : ℕ → Result (Option Instr) R
  -- the value of so many bytes at an address, with their sign or without
  pub load : M → ℕ → Bool → V → Result (Result V End × M) R
  -- so many low bytes of a value at an address; it says how the call ends, if it does
  pub store : M → ℕ → V → V → Result (Option End × M) R
  -- what a service makes of a0
  pub service : M → ℕ → V → Result (Result V (Finish V) × M) R

-- what a step comes to
pub data Next (V M : Type 0) : Type 0 where
  -- the machine goes on
  Goes : State V → M → Next V M
  -- the call ends
  Finishes : Finish V → M → Next V M

module _ {V M R : Type 0} (d : Domain V R) (storage : Storage V M R) where
  -- the instruction at a target follows, if the target is a multiple of a fetch's bytes
  abbrev pub to_target : List V → M → V → Next V M
  to_target xs m target = if d.is_aligned FETCH_BYTES target then Goes (record { registers = xs; pc = target }) m else Finishes (Ends Misaligned) m

  -- a register gets what a load answers
  abbrev pub with_loaded : State V → V → ℕ → Result V End × M → Next V M
  with_loaded h next rd (Ok value, m) = Goes (record { registers = with_register d h.registers rd value; pc = next }) m
  with_loaded h next rd (Err end, m) = Finishes (Ends end) m

  -- the next instruction follows a store, unless the call ends
  abbrev pub after_store : State V → V → Option End × M → Next V M
  after_store h next (None, m) = Goes (record { registers = h.registers; pc = next }) m
  after_store h next (Some end, m) = Finishes (Ends end) m

  -- what an effect comes to, where an instruction follows that is at `next`
  abbrev pub settle : State V → M → V → Effect V → Result (Next V M) R
  settle h m next Passes = Ok (Goes (record { registers = h.registers; pc = next }) m)
  settle h m next (Writes rd value) = Ok (Goes (record { registers = with_register d h.registers rd value; pc = next }) m)
  settle h m next (Jumps rd link target) = Ok (to_target (with_register d h.registers rd link) m target)
  settle h m next (Branches target) = Ok (to_target h.registers m target)
  settle h m next (Loads size signed rd address) = do
    loaded ← storage.load m size signed address
    Ok (with_loaded h next rd loaded)
  settle h m next (Stores size value address) = do
    stored ← storage.store m size value address
    Ok (after_store h next stored)
  settle h m next (Stops end) = Ok (Finishes (Ends end) m)

  -- what an instruction of so many bytes comes to: a word that has none is illegal
  abbrev pub execute : State V → M → ℕ → Option Instr → Result (Next V M) R
  execute h m bytes None = Ok (Finishes (Ends Illegal) m)
  execute h m bytes (Some i) = do
    next ← d.sum h.pc (d.number bytes)
    e ← effect d h.registers h.pc next i
    settle h m next e

  -- a service returns to ra with bit 0 cleared, and a0 holds what it answers, unless the call ends
  abbrev pub return_from_service : State V → M → Result V (Finish V) → Result (Next V M) R
  return_from_service h m (Ok a0) = do
    target ← even d (register d h.registers 1)
    Ok (to_target (with_register d h.registers 10 a0) m target)
  return_from_service h m (Err finish) = Ok (Finishes finish m)

  -- what comes of what was fetched
  abbrev pub perform : State V → M → Result Found End → Result (Next V M) R
  perform h m (Ok (Word word)) = do
    i ← storage.decode word
    execute h m INSTRUCTION_BYTES i
  perform h m (Ok (Service number)) = do
    served ← storage.service m number (register d h.registers 10)
    return_from_service h served.1 served.0
  perform h m (Err end) = Ok (Finishes (Ends end) m)

  unfoldable pub step : State V → M → Result (Next V M) R
  step h m = do
    found ← storage.fetch m h.pc
    perform h found.1 found.0
