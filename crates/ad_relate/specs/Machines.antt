-- What the symbolic machine's states, steps and outcomes stand for.
use Rattle.std.specs.Prelude.{◌≡◌, ℕ, ◌%◌, ◌^◌, ◌<◌, List, map, Result, Ok, Err}
use Rattle.ad_base.specs.declared.layout.TheConstants.{FETCH_BYTES}
use Rattle.ad_base.specs.declared.end.End.{End}
use Rattle.ad_base.specs.Segments.{Access, Segment}
use Rattle.ad_core.specs.Memory.{Memory as PlainMemory}
use Rattle.ad_core.specs.Plain as plain
use Rattle.ad_core.specs.Turn.{fixed_data_of, writable_of}
use Rattle.ad_isa.specs.Finish.{Aborts, Ends, Finish, Returns}
use Rattle.ad_isa.specs.Step.{Finishes, Goes, Next, State}
use Rattle.ad_symbolic.specs.AddressSpace.{AddressSpace, numbers_of}
use Rattle.ad_symbolic.specs.Machine.{Memory, SymbolicOutcome}
use Rattle.ad_symbolic.specs.Replay.{end_of, number_or_zero}
use Rattle.ad_symbolic.specs.Replay as symbolic
use Rattle.ad_symbolic.specs.Value.{offset_of}
use Rattle.ad_symbolic.specs.declared.value.Value.TheVariants.{Num}
use Rattle.ad_symbolic.specs.declared.value.Value.{Value}
use Rattle.ad_relate.specs.Stands.{Fits, IsApart, Places, number_at, segments_at}

-- the state that a state stands for
abbrev pub state_at : Places → State Value → State ℕ
state_at ps h = record { registers = map (number_at ps) h.registers; pc = number_at ps h.pc }

-- the memory that a memory stands for
abbrev pub memory_at : Places → Memory → PlainMemory
memory_at ps m = record { segments = segments_at ps m.space; notes = map (number_at ps) m.notes; queue = map (number_at ps) m.queue }

-- the same, once these accesses were made
abbrev pub tracked_at : Places → List Access → Memory → plain.Tracked
tracked_at ps accesses m = record { memory = memory_at ps m; accesses = accesses }

-- the number that was loaded, or the same end
abbrev pub found_at : Places → Result Value End → Result ℕ End
found_at ps (Ok v) = Ok (number_at ps v)
found_at ps (Err end) = Err end

-- the segments that a store left, or the same end
abbrev pub left_at : Places → Result AddressSpace End → Result (List (Segment ℕ)) End
left_at ps (Ok space) = Ok (segments_at ps space)
left_at ps (Err end) = Err end

-- the end that an end stands for
abbrev pub finish_at : Places → Finish Value → Finish ℕ
finish_at ps (Returns v) = Returns (number_at ps v)
finish_at ps (Aborts v) = Aborts (number_at ps v)
finish_at ps (Ends end) = Ends end

-- what a step stands for, once these accesses were made
abbrev pub next_at : Places → List Access → Next Value Memory → Next ℕ plain.Tracked
next_at ps accesses (Goes h m) = Goes (state_at ps h) (tracked_at ps accesses m)
next_at ps accesses (Finishes finish m) = Finishes (finish_at ps finish) (tracked_at ps accesses m)

-- The plain machine's outcome is what the symbolic machine's one stands for. The symbolic machine keeps
-- no accesses.
pub record StandsFor (ps : Places) (o : SymbolicOutcome) (found : plain.PlainOutcome) : Type 0 where
  pub end : found.end ≡ plain.end_of (finish_at ps o.finish)
  pub memory : found.memory ≡ memory_at ps o.memory

-- what holds before each step of a call: places are apart, the segments lie as the layout has it, and the offset
-- of the next instruction is one of 64 bits that may be fetched at
pub record IsReady (ps : Places) (h : State Value) (m : Memory) : Type 0 where
  pub apart : IsApart m.space.image ps
  pub fits : Fits m.space
  pub aligned : offset_of h.pc % FETCH_BYTES ≡ 0
  pub below : offset_of h.pc < 2 ^ 64

-- A clear call and the plain machine's call have the same end, notes, data and device queue.
pub record Agrees (o : SymbolicOutcome) (found : plain.PlainOutcome) : Type 0 where
  pub end : found.end ≡ end_of o.finish
  pub notes : found.memory.notes ≡ map number_or_zero o.memory.notes
  pub queue : o.memory.queue ≡ map Num found.memory.queue
  pub writable : symbolic.writable_of o ≡ numbers_of (writable_of found)
  pub fixed : symbolic.fixed_data_of o ≡ numbers_of (fixed_data_of found)
