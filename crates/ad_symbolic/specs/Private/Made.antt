-- What a service, a step and a run come to, as the code says it.
use Rattle.std.specs.Prelude.{◌≡◌, Option, Some, None, Result, Ok, Err}
use Rattle.ad_isa.specs.Finish as finish
use Rattle.ad_isa.specs.Step.{Finishes, Goes, Next, State}
use Rattle.ad_symbolic.specs.Machine.{Memory, Run}
use Rattle.ad_symbolic.specs.Private.Reached.{IsOfImage, space_in}
use Rattle.ad_symbolic.specs.Replay.{Kept}
use Rattle.ad_symbolic.specs.declared.finish.Finish.{Finish}
use Rattle.ad_symbolic.specs.declared.finish.Finish.TheVariants as code
use Rattle.ad_symbolic.specs.declared.finish.Unclear.{Unclear}
use Rattle.ad_symbolic.specs.declared.hart.Hart.{Hart}
use Rattle.ad_symbolic.specs.declared.machine.Machine.{Machine}
use Rattle.ad_symbolic.specs.declared.value.Reason.{Reason}
use Rattle.ad_symbolic.specs.declared.value.Value.{Value}

abbrev pub state_of : Hart → State Value
state_of h = record { registers = h.registers; pc = h.pc }

-- what the machine stores
abbrev pub memory_in : Machine → Memory
memory_in m = record { space = space_in m.memory; notes = m.notes.items; queue = m.queue.items }

abbrev pub finish_of : Finish → finish.Finish Value
finish_of (code.Returns v) = finish.Returns v
finish_of (code.Aborts v) = finish.Aborts v
finish_of (code.Ends end) = finish.Ends end

-- what a service answers
abbrev pub answer_of : Result Value Finish → Result Value (finish.Finish Value)
answer_of (Ok v) = Ok v
answer_of (Err f) = Err (finish_of f)

-- what a step comes to
abbrev pub next_of : Result (Option Finish) Reason → Hart → Memory → Result (Next Value Memory) Reason
next_of (Ok None) h m = Ok (Goes (state_of h) m)
next_of (Ok (Some f)) h m = Ok (Finishes (finish_of f) m)
next_of (Err reason) h m = Err reason

-- what a run comes to
abbrev pub run_of : Result Finish Unclear → Memory → Run
run_of (Ok f) m = Ok (record { finish = finish_of f; memory = m })
run_of (Err u) m = Err (record { reason = u.reason; step = u.step })

-- a machine stays one of its image
pub record Stays (before after : Machine) : Type 0 where
  pub image : after.memory.image ≡ before.memory.image
  pub kept : IsOfImage before.memory → IsOfImage after.memory

-- what a machine keeps from call to call
abbrev pub kept_in : Machine → Kept
kept_in m = record { writable = m.memory.writable.bytes; fixed = m.memory.fixed_data.bytes; queue = m.queue.items }
