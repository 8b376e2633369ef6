-- The registers and the effects of the code, as those of the machine.
use Rattle.std.specs.Prelude.{◌≡◌, ℕ, ◌<◌, List, ◌++◌, fold, Option, Some, None, Result, Ok, Err}
use Rattle.ad_base.specs.declared.end.End.{End}
use Rattle.ad_base.specs.Segments.{Access}
use Rattle.ad_isa.specs.Rows.{Effect}
use Rattle.ad_isa.specs.Rows as rows
use Rattle.ad_isa.specs.Step.{Finishes, Goes, Next, State}
use Rattle.ad_isa.specs.Words.{IsSize}
use Rattle.ad_core.specs.Memory.{Memory}
use Rattle.ad_core.specs.Plain.{PlainOutcome, Tracked, certain, end_of}
use Rattle.ad_core.specs.declared.effect.Effect.{Effect as Made}
use Rattle.ad_core.specs.declared.effect.Effect.TheVariants.{Branches, Jumps, Loads, Passes, Stops, Stores, Writes}
use Rattle.ad_core.specs.declared.hart.Hart.{Hart}

abbrev pub state_of : Hart → State ℕ
state_of h = record { registers = h.registers; pc = h.pc }

-- the effect that the code names so
abbrev pub effect_of : Made → Effect ℕ
effect_of Passes = rows.Passes
effect_of (Writes rd value) = rows.Writes rd value
effect_of (Jumps rd link target) = rows.Jumps rd link target
effect_of (Branches target) = rows.Branches target
effect_of (Loads size signed rd address) = rows.Loads size signed rd address
effect_of (Stores size value address) = rows.Stores size value address
effect_of (Stops end) = rows.Stops end

-- its register is there, and its size is one of a load or a store
abbrev pub IsInRange : Made → Type 0
IsInRange (Writes rd value) = rd < 32
IsInRange (Jumps rd link target) = rd < 32
IsInRange (Loads size signed rd address) = IsSize size × (rd < 32)
IsInRange (Stores size value address) = IsSize size
IsInRange e = Unit {0}

-- what a step of the machine comes to: the state from which it goes on, or how the call ends; and what is stored then
abbrev pub came_to : {M : Type 0} → Next ℕ M → Result (State ℕ) End × M
came_to (Goes h m) = (Ok h, m)
came_to (Finishes finish m) = (Err (end_of finish), m)

-- the same, as the code says it
abbrev pub answered : Option End → Hart → Result (State ℕ) End
answered None h = Ok (state_of h)
answered (Some end) h = Err end

-- what is stored, where these accesses were made
abbrev pub tracked : Memory → List Access → Tracked
tracked memory accesses = record { memory = memory; accesses = accesses }

-- The code does what the machine makes of what is stored, from this memory and this track to those: there are accesses
-- that the machine makes, and the track is what the rule makes of them.
pub record IsMade {T : Type 0} (rule : T → Access → T) (made : Tracked → Result (Next ℕ Tracked) ⊥) (before : Memory) (track : T) (answer : Option End) (next : Hart) (after : Memory) (track_then : T) : Type 0 where
  pub accesses : List Access
  pub same : (earlier : List Access) → came_to (certain (made (tracked before earlier))) ≡ (answered answer next, tracked after (earlier ++ accesses))
  pub track_is : track_then ≡ fold rule track accesses

-- how a call ends by a store of the code, if it does
abbrev pub end_of_store : {U : Type 0} → Result U End → Option End
end_of_store (Ok u) = None
end_of_store (Err end) = Some end

-- what a run of the code came to is this outcome, and its track is what the rule makes of the accesses
pub record RunsTo {T : Type 0} (rule : T → Access → T) (before : T) (answer : End) (after : Memory) (track_then : T) (outcome : PlainOutcome) : Type 0 where
  pub end : answer ≡ outcome.end
  pub memory : after ≡ outcome.memory
  pub track : track_then ≡ fold rule before outcome.accesses
