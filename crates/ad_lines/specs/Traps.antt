-- Where a call of the plain machine ends in a trap because of an address that it accesses.
use Rattle.std.specs.Prelude.{◌≡◌, ◌⊎◌, ℕ, ℤ, ◌+◌, ◌%◌, ◌^◌, ◌<◌, ◌≤◌, List, IsSomeAnd}
use Rattle.std.specs.Int.{cast_unsigned, w64}
use Rattle.ad_base.specs.declared.end.End.{End}
use Rattle.ad_base.specs.declared.end.End.TheVariants as ends
use Rattle.ad_base.specs.declared.layout.TheConstants.{FETCH_BYTES}
use Rattle.ad_base.specs.Segments.{Segment}
use Rattle.ad_core.specs.declared.bus.Fetched.{Fetched}
use Rattle.ad_core.specs.declared.bus.Fetched.TheVariants as fetch
use Rattle.ad_core.specs.Memory.{fetched}
use Rattle.ad_core.specs.Plain.{Tracked, end_of, plain_run, plain_step}
use Rattle.ad_core.specs.Steps.{LeadsTo}
use Rattle.ad_isa.specs.declared.instr.Instr.{Instr}
use Rattle.ad_isa.specs.declared.instr.Instr.TheVariants.{Load, Store}
use Rattle.ad_isa.specs.Numbers.{numbers}
use Rattle.ad_isa.specs.Rows.{register}
use Rattle.ad_isa.specs.Step.{Finishes, Goes, Next, State}
use Rattle.ad_isa.specs.Table.{decoded}

-- the traps of an access where nothing lies: a fault, and where the address is no multiple of the size, misaligned
abbrev pub IsTrap : End → Type 0
IsTrap end = (end ≡ ends.Fault) ⊎ (end ≡ ends.Misaligned)

-- an address is that of one of so many bytes from another on
abbrev pub IsAmong : ℕ → ℕ → ℕ → Type 0
IsAmong from bytes at = (from ≤ at) × (at < from + bytes)

-- the sum of a register and an immediate
abbrev pub data_address : List ℕ → ℕ → ℤ → ℕ
data_address xs rs1 imm = (register numbers xs rs1 + cast_unsigned w64 imm) % 2 ^ 64

-- an instruction loads or stores a byte at an address, where the registers hold these numbers
abbrev pub LoadsOrStoresAt : ℕ → List ℕ → Instr → Type 0
LoadsOrStoresAt at xs (Load size signed rd rs1 imm) = IsAmong (data_address xs rs1 imm) size at
LoadsOrStoresAt at xs (Store size rs1 rs2 imm) = IsAmong (data_address xs rs1 imm) size at
LoadsOrStoresAt at xs i = ⊥

-- so does the instruction that was fetched
abbrev pub FetchedTouches : ℕ → List ℕ → Fetched → Type 0
FetchedTouches at xs (fetch.Word word) = IsSomeAnd (decoded word) (LoadsOrStoresAt at xs)
FetchedTouches at xs found = ⊥

-- the next step fetches a byte at an address, or the instruction that it fetches loads or stores one there
abbrev pub Touches : ℕ → State ℕ → Tracked → Type 0
Touches at h m = IsAmong h.pc FETCH_BYTES at ⊎ FetchedTouches at h.registers (fetched m.memory.segments h.pc)

-- a step ends the call in a trap
abbrev pub StepTraps : Next ℕ Tracked → Type 0
StepTraps (Goes h m) = ⊥
StepTraps (Finishes finish m) = IsTrap (end_of finish)

-- A run of so many steps at most comes to one that touches an address.
pub record ComesToTouch (at fuel : ℕ) (first : State ℕ) (before : Tracked) : Type 0 where
  pub steps : ℕ
  pub fuelled : steps < fuel
  pub later : State ℕ
  pub after : Tracked
  pub leads : LeadsTo steps first before later after
  pub touches : Touches at later after

-- the step that touches the address ends a run in a trap, and so the run ends
pub record EndsThere (at fuel : ℕ) (first : State ℕ) (before : Tracked) (comes : ComesToTouch at fuel first before) : Type 0 where
  pub step : StepTraps (plain_step comes.later comes.after)
  pub run : IsTrap (plain_run fuel first before).end

-- Each run of the plain machine on these segments that fetches, loads or stores at an address ends there in a trap, whatever the
-- registers hold and wherever it begins.
abbrev pub EndsInTrapAt : ℕ → List (Segment ℕ) → Type 0
EndsInTrapAt at segments = (fuel : ℕ) (first : State ℕ) (before : Tracked) → before.memory.segments ≡ segments → (comes : ComesToTouch at fuel first before) → EndsThere at fuel first before comes
