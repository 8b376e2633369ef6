-- The plain machine: the table's rows over 64-bit numbers and a list of segments.
use Rattle.std.specs.Prelude.{ℕ, zero, suc, ◌%◌, Bool, ◌==◌, if◌then◌else◌, List, [], ◌∷◌, ◌++◌, take, replicate, slice_index, Option, None, Some, Result, Ok, Err}
use Rattle.ad_base.specs.declared.layout.TheConstants.{FETCH_BYTES, GATE}
use Rattle.ad_base.specs.declared.end.End.{End}
use Rattle.ad_base.specs.declared.end.End.TheVariants as ends
use Rattle.ad_base.specs.Segments.{Access, Fetch, Load, Segment, Store, Use, told}
use Rattle.ad_isa.specs.Finish.{Aborts, Ends, Finish, Returns}
use Rattle.ad_isa.specs.Numbers.{numbers, widened}
use Rattle.ad_isa.specs.Services.{Channels, served}
use Rattle.ad_isa.specs.Step.{Finishes, Found, Goes, Next, Service, State, Storage, Word, step}
use Rattle.ad_isa.specs.Table.{decoded}
use Rattle.ad_core.specs.declared.bus.Fetched.{Fetched}
use Rattle.ad_core.specs.declared.bus.Fetched.TheVariants as fetch
use Rattle.ad_core.specs.Memory.{Memory, channels_of, fetched, loaded, stored, with_channels}

-- what the machine keeps beside its registers: its memory, and each access so far
pub record Tracked : Type 0 where
  pub memory : Memory
  pub accesses : List Access

-- one access more, unless it is one that isn't told
abbrev pub with_access : Use → ℕ → ℕ → Tracked → Tracked
with_access wanted size at m = record { memory = m.memory; accesses = m.accesses ++ told wanted size at }

-- what is stored, once the memory is this one
abbrev pub with_memory : Memory → Tracked → Tracked
with_memory memory m = record { memory = memory; accesses = m.accesses }

-- what was found, or how the call ends where there is nothing; a run returns at the gate, so a step never fetches there
abbrev pub found_or_end : Fetched → Result Found End
found_or_end (fetch.Word w) = Ok (Word w)
found_or_end (fetch.Service number) = Ok (Service number)
found_or_end fetch.Gate = Err ends.Fault
found_or_end fetch.Fault = Err ends.Fault
found_or_end fetch.Denied = Err ends.Denied

-- the number that was loaded, with its sign or without
abbrev pub widened_or_end : ℕ → Bool → Result ℕ End → Result ℕ End
widened_or_end size signed (Ok n) = Ok (widened size signed n)
widened_or_end size signed (Err end) = Err end

-- how a call ends by a store, and what it leaves
abbrev pub after_store : Tracked → Result (List (Segment ℕ)) End → Option End × Tracked
after_store m (Ok segments) = (None, with_memory (record { segments = segments; notes = m.memory.notes; queue = m.memory.queue }) m)
after_store m (Err end) = (Some end, m)

-- what a service answers and leaves
abbrev pub after_service : Tracked → Result ℕ (Finish ℕ) × Channels ℕ → Result ℕ (Finish ℕ) × Tracked
after_service m answer = (answer.0, with_memory (with_channels m.memory answer.1) m)

abbrev pub plain_storage : Storage ℕ Tracked ⊥
plain_storage = record {
  fetch = λ m at. Ok (found_or_end (fetched m.memory.segments at), with_access Fetch FETCH_BYTES at m);
  decode = λ word. Ok (decoded word);
  load = λ m size signed at. Ok (widened_or_end size signed (loaded size m.memory.segments at), with_access Load size at m);
  store = λ m size value at. Ok (after_store (with_access Store size at m) (stored size value m.memory.segments at));
  service = λ m number a0. Ok (after_service m (served numbers number a0 (channels_of m.memory)));
}

-- an answer for which there is no reason to be missing
abbrev pub certain : {X : Type 0} → Result X ⊥ → X
certain (Ok x) = x
certain (Err none) = absurd none

unfoldable pub plain_step : State ℕ → Tracked → Next ℕ Tracked
plain_step h m = certain (step numbers plain_storage h m)

-- the end of a call that ended so
abbrev pub end_of : Finish ℕ → End
end_of (Returns n) = ends.Returned n
end_of (Aborts n) = ends.Abort n
end_of (Ends end) = end

-- how a call ended, what it left, and each access of it in order
pub record PlainOutcome : Type 0 where
  pub end : End
  pub memory : Memory
  pub accesses : List Access

-- a call that ended so, and left this
abbrev pub ended : End → Tracked → PlainOutcome
ended end m = record { end = end; memory = m.memory; accesses = m.accesses }

-- what follows a step
abbrev pub continue : (State ℕ → Tracked → PlainOutcome) → Next ℕ Tracked → PlainOutcome
continue rest (Goes h m) = rest h m
continue rest (Finishes finish m) = ended (end_of finish) m

-- at the gate the call returns what a0 holds
abbrev pub unless_at_gate : State ℕ → Tracked → PlainOutcome → PlainOutcome
unless_at_gate h m otherwise = if h.pc == GATE then ended (ends.Returned (slice_index h.registers 10)) m else otherwise

-- A run of so many steps at most. Before each the gate is looked for, and once more where the fuel
-- is spent.
unfoldable pub plain_run : ℕ → State ℕ → Tracked → PlainOutcome
plain_run zero h m = unless_at_gate h m (ended ends.Fuel m)
plain_run (suc fuel) h m = unless_at_gate h m (continue (plain_run fuel) (plain_step h m))

-- the registers at the start: ra is the gate, sp is given, a0 to a7 hold the arguments, and all
-- others are 0
unfoldable pub first_registers : List ℕ → ℕ → List ℕ
first_registers args sp = (0 ∷ GATE ∷ sp ∷ replicate 7 0) ++ take 8 (args ++ replicate 8 0) ++ replicate 14 0

-- a memory of which nothing was accessed yet
abbrev pub untouched : Memory → Tracked
untouched memory = record { memory = memory; accesses = [] }

-- a call of an entry: one that isn't a multiple of a fetch's bytes ends before any step
unfoldable pub plain_call : ℕ → ℕ → List ℕ → ℕ → Memory → PlainOutcome
plain_call fuel entry args sp memory =
    if entry % FETCH_BYTES == 0 then plain_run fuel (record { registers = first_registers args sp; pc = entry }) (untouched memory)
    else ended ends.Misaligned (untouched memory)
