-- The symbolic machine: the table's rows over values. It knows no place of a movable part and none of a
-- stack; modules never move here.
use Rattle.std.specs.Prelude.{ℕ, zero, suc, ◌+◌, ◌*◌, ◌%◌, ◌==◌, if◌then◌else◌, List, ◌∷◌, ◌++◌, take, map, replicate, slice_index_or, Option, Some, None, Result, Ok, Err}
use Rattle.ad_base.specs.declared.layout.TheConstants.{FETCH_BYTES, GATE, PAGE_BYTES, STACK_PAGES}
use Rattle.ad_base.specs.declared.end.End.{End}
use Rattle.ad_base.specs.declared.end.End.TheVariants as ends
use Rattle.ad_isa.specs.Domain.{Domain, ◌>>=◌}
use Rattle.ad_isa.specs.Finish.{Ends, Finish, Returns}
use Rattle.ad_isa.specs.Services.{Channels, served}
use Rattle.ad_isa.specs.Step.{Finishes, Goes, Next, State, Storage, step}
use Rattle.ad_isa.specs.Table.{decoded}
use Rattle.ad_symbolic.specs.Value.{values}
use Rattle.ad_symbolic.specs.declared.byte.Byte.{Byte}
use Rattle.ad_symbolic.specs.declared.byte.Byte.TheVariants.{Number}
use Rattle.ad_symbolic.specs.declared.value.Reason.TheVariants.{Address}
use Rattle.ad_symbolic.specs.declared.value.Value.TheVariants.{At, Num}
use Rattle.ad_symbolic.specs.declared.value.Part.TheVariants.{Movable, Stack}
use Rattle.ad_symbolic.specs.declared.value.Reason.{Reason}
use Rattle.ad_symbolic.specs.declared.value.Value.{Value}
use Rattle.ad_symbolic.specs.AddressSpace.{AddressSpace, fetched_value, loaded_value, part_bytes, stored_value}

-- what the machine keeps beside its registers: its address space, the notes and the device queue
pub record Memory : Type 0 where
  pub space : AddressSpace
  pub notes : List Value
  pub queue : List Value

abbrev pub channels_of : Memory → Channels Value
channels_of m = record { notes = m.notes; queue = m.queue }

-- how a call ends by a store, and what it leaves
abbrev pub after_store : Memory → Result AddressSpace End → Option End × Memory
after_store m (Ok space) = (None, record m { space = space })
after_store m (Err end) = (Some end, m)

-- what a service answers and leaves
abbrev pub after_service : Memory → Result Value (Finish Value) × Channels Value → Result Value (Finish Value) × Memory
after_service m answer = (answer.0, record m { notes = answer.1.notes; queue = answer.1.queue })

-- comparisons depend on how long the parts are
abbrev pub values_in : Memory → Domain Value Reason
values_in m = values (part_bytes m.space.image)

abbrev pub symbolic_storage : Storage Value Memory Reason
symbolic_storage = record {
  fetch = λ m at. fetched_value m.space at >>= λ found. Ok (found, m);
  decode = λ word. Ok (decoded word);
  load = λ m size signed at. loaded_value size signed m.space at >>= λ found. Ok (found, m);
  store = λ m size value at. stored_value size value m.space at >>= λ left. Ok (after_store m left);
  service = λ m number a0. Ok (after_service m (served (values_in m) number a0 (channels_of m)));
}

unfoldable pub symbolic_step : State Value → Memory → Result (Next Value Memory) Reason
symbolic_step h m = step (values_in m) symbolic_storage h m

pub record SymbolicOutcome : Type 0 where
  pub finish : Finish Value
  pub memory : Memory

-- why a run isn't clear, and how many steps were made before
pub record Unclear : Type 0 where
  pub reason : Reason
  pub step : ℕ

-- a run's outcome, or why there is none
abbrev pub Run : Type 0
Run = Result SymbolicOutcome Unclear

-- at the gate the call returns what a0 holds
abbrev pub unless_at_gate : State Value → Memory → Run → Run
unless_at_gate h m otherwise = elim h.pc [ Num n ↦ (if n == GATE then Ok (record { finish = Returns (slice_index_or h.registers 10 (Num 0)); memory = m }) else otherwise) | At p o ↦ otherwise ]

-- where the fuel is spent: an address at which a fetch isn't clear isn't either
abbrev pub spent : ℕ → State Value → Memory → Run
spent made h m = elim h.pc [
  | Num n ↦ Ok (record { finish = Ends ends.Fuel; memory = m })
  | At p o ↦ elim (fetched_value m.space (At p o)) [ Ok x ↦ Ok (record { finish = Ends ends.Fuel; memory = m }) | Err reason ↦ Err (record { reason = Address; step = made }) ]
]

-- what follows a step
abbrev pub continue : ℕ → (State Value → Memory → Run) → Result (Next Value Memory) Reason → Run
continue made rest (Ok (Goes h m)) = rest h m
continue made rest (Ok (Finishes finish m)) = Ok (record { finish = finish; memory = m })
continue made rest (Err reason) = Err (record { reason = reason; step = made })

-- a run of so many steps at most, where so many were made
unfoldable pub symbolic_run : ℕ → ℕ → State Value → Memory → Run
symbolic_run zero made h m = unless_at_gate h m (spent made h m)
symbolic_run (suc fuel) made h m = unless_at_gate h m (continue made (symbolic_run fuel (made + 1)) (symbolic_step h m))

-- the registers at the start: ra is the gate, sp is the end of the stack, a0 to a7 hold the arguments, and
-- all others are 0
unfoldable pub first_values : List ℕ → List Value
first_values args = (Num 0 ∷ Num GATE ∷ At Stack (STACK_PAGES * PAGE_BYTES) ∷ replicate 7 (Num 0)) ++ take 8 (map Num args ++ replicate 8 (Num 0)) ++ replicate 14 (Num 0)

-- a call of an export at an offset: one that isn't a multiple of a fetch's bytes ends before any step
unfoldable pub symbolic_call : ℕ → ℕ → List ℕ → Memory → Run
symbolic_call fuel offset args m =
    if offset % FETCH_BYTES == 0 then symbolic_run fuel 0 (record { registers = first_values args; pc = At Movable offset }) m
    else Ok (record { finish = Ends ends.Misaligned; memory = m })

-- the bytes of a fresh stack
abbrev pub fresh_stack : List Byte
fresh_stack = replicate (STACK_PAGES * PAGE_BYTES) (Number 0)
