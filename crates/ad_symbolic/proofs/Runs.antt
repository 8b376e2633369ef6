-- One step more or less of a run.
use Rattle.std.proofs.Common.{◌≡◌, ℕ, zero, suc, ◌+◌, ◌-◌, ◌*◌, ◌<◌, true, false, if◌then◌else◌, List, slice_index_or, Option, Ok, Err, Result, refl, ap, sym, ◌∙◌, arith}
use Rattle.ad_base.specs.declared.layout.TheConstants.{PAGE_BYTES}
use Rattle.ad_base.specs.declared.end.End.{End}
use Rattle.ad_base.specs.declared.end.End.TheVariants as ends
use Rattle.ad_base.specs.declared.image.Image.{Image}
use Rattle.ad_base.specs.Image.{movable_pages}
use Rattle.ad_isa.specs.Finish.{Ends, Returns}
use Rattle.ad_isa.specs.Step as steps
use Rattle.ad_isa.specs.Step.{Next, State, step}
use Rattle.ad_symbolic.specs.AddressSpace.{fetched_value, part_bytes}
use Rattle.ad_symbolic.specs.Machine.{Memory, Run, continue, spent, symbolic_run, symbolic_step, symbolic_storage, unless_at_gate}
use Rattle.ad_symbolic.specs.Private.Code.{sizes}
use Rattle.ad_symbolic.specs.Private.Made.{memory_in, next_of, state_of}
use Rattle.ad_symbolic.specs.Private.Reached.{fetched_as}
use Rattle.ad_symbolic.specs.Private.Runs.{is_gate}
use Rattle.ad_symbolic.specs.Value.{values}
use Rattle.ad_symbolic.specs.declared.finish.Finish.{Finish}
use Rattle.ad_symbolic.specs.declared.hart.Hart.{Hart}
use Rattle.ad_symbolic.specs.declared.machine.Machine.{Machine}
use Rattle.ad_symbolic.specs.declared.memory.Found.{Found}
use Rattle.ad_symbolic.specs.declared.value.Part.{Part}
use Rattle.ad_symbolic.specs.declared.value.Part.TheVariants.{Movable, Stack}
use Rattle.ad_symbolic.specs.declared.value.Reason.{Reason}
use Rattle.ad_symbolic.specs.declared.value.Reason.TheVariants.{Address}
use Rattle.ad_symbolic.specs.declared.value.Value.{Value}
use Rattle.ad_symbolic.specs.declared.value.Value.TheVariants.{At, Num}

-- the sizes of the parts that the code has are those of the image
pub sizes-of : (i : Image) (n : ℕ) → n ≡ movable_pages i * PAGE_BYTES → sizes n ≡ part_bytes i
sizes-of i n e = λ j p. each p j
  where
    each : (p : Part) → sizes n p ≡ part_bytes i p
    each Movable = e
    each Stack = refl

-- a call returns at the gate, and elsewhere it doesn't
pub at-gate : (registers : List Value) (pc : Value) (m : Memory) (otherwise : Run) → is_gate pc ≡ true
    → unless_at_gate (record { registers = registers; pc = pc }) m otherwise ≡ Ok (record { finish = Returns (slice_index_or registers 10 (Num 0)); memory = m })
at-gate registers (Num n) m otherwise is = ap (λ b. if b then Ok (record { finish = Returns (slice_index_or registers 10 (Num 0)); memory = m }) else otherwise) is
at-gate registers (At p o) m otherwise is = absurd cc

pub elsewhere : (registers : List Value) (pc : Value) (m : Memory) (otherwise : Run) → is_gate pc ≡ false → unless_at_gate (record { registers = registers; pc = pc }) m otherwise ≡ otherwise
elsewhere registers (Num n) m otherwise is = ap (λ b. if b then Ok (record { finish = Returns (slice_index_or registers 10 (Num 0)); memory = m }) else otherwise) is
elsewhere registers (At p o) m otherwise is = refl

module _ (made : ℕ) (registers : List Value) (pc : Value) (m : Memory) where
  -- the fuel is spent at a number
  pub spent-number : (n : ℕ) → pc ≡ Num n → spent made (record { registers = registers; pc = pc }) m ≡ Ok (record { finish = Ends ends.Fuel; memory = m })
  spent-number n is = ap (λ pc. spent made (record { registers = registers; pc = pc }) m) is

  -- or at an address
  spent-address : (p : Part) (o : ℕ) (r : Result (Result steps.Found End) Reason) → pc ≡ At p o → fetched_value m.space pc ≡ r
      → spent made (record { registers = registers; pc = pc }) m ≡ elim r [ Ok x ↦ Ok (record { finish = Ends ends.Fuel; memory = m }) | Err reason ↦ Err (record { reason = Address; step = made }) ]
  spent-address p o r is found =
      ap (λ pc. spent made (record { registers = registers; pc = pc }) m) is
      ∙ ap (λ r. elim r [ Ok x ↦ Ok (record { finish = Ends ends.Fuel; memory = m }) | Err reason ↦ Err (record { reason = Address; step = made }) ]) (ap (fetched_value m.space) (sym is) ∙ found)

  pub spent-found : (p : Part) (o : ℕ) (x : Result Found End) → pc ≡ At p o → fetched_value m.space pc ≡ fetched_as (Ok x) → spent made (record { registers = registers; pc = pc }) m ≡ Ok (record { finish = Ends ends.Fuel; memory = m })
  spent-found p o (Ok x) is found = spent-address p o _ is found
  spent-found p o (Err end) is found = spent-address p o _ is found

  pub spent-unclear : (p : Part) (o : ℕ) (reason : Reason) → pc ≡ At p o → fetched_value m.space pc ≡ Err reason → spent made (record { registers = registers; pc = pc }) m ≡ Err (record { reason = Address; step = made })
  spent-unclear p o reason is found = spent-address p o _ is found

-- at the gate a run has ended, whatever fuel is left
pub run-at-gate : (fuel made : ℕ) (registers : List Value) (pc : Value) (m : Memory) → is_gate pc ≡ true
    → symbolic_run fuel made (record { registers = registers; pc = pc }) m ≡ Ok (record { finish = Returns (slice_index_or registers 10 (Num 0)); memory = m })
unfolding symbolic_run
run-at-gate zero made registers pc m is = at-gate registers pc m _ is
run-at-gate (suc fuel) made registers pc m is = at-gate registers pc m _ is

-- and without fuel it stops
pub run-spent : (made : ℕ) (h : State Value) (m : Memory) → symbolic_run 0 made h m ≡ unless_at_gate h m (spent made h m)
unfolding symbolic_run
run-spent made h m = refl

-- and else it makes a step
run-step : (fuel made : ℕ) (registers : List Value) (pc : Value) (m : Memory) → is_gate pc ≡ false
    → symbolic_run (suc fuel) made (record { registers = registers; pc = pc }) m ≡ continue made (symbolic_run fuel (made + 1)) (symbolic_step (record { registers = registers; pc = pc }) m)
unfolding symbolic_run
run-step fuel made registers pc m is = elsewhere registers pc m _ is

module _ (machine : Machine) (h next : Hart) (after : Memory) (r : Result (Option Finish) Reason) (fuel made : ℕ) (below : made < fuel) (away : is_gate h.pc ≡ false)
    (steps : step (values (sizes machine.memory.movable_bytes)) symbolic_storage (state_of h) (memory_in machine) ≡ next_of r next after) where
  -- a step of the code is one of the machine
  stepped : symbolic_step (state_of h) (memory_in machine) ≡ next_of r next after
  unfolding symbolic_step
  stepped = (λ j. step (values (sym (sizes-of machine.memory.image.now machine.memory.movable_bytes machine.memory.sized) j)) symbolic_storage (state_of h) (memory_in machine)) ∙ steps

  pub run-continues : symbolic_run (fuel - made) made (state_of h) (memory_in machine) ≡ continue made (symbolic_run (fuel - (made + 1)) (made + 1)) (next_of r next after)
  run-continues =
      let left : fuel - made ≡ suc (fuel - (made + 1)) = omega arith in
      ap (λ k. symbolic_run k made (state_of h) (memory_in machine)) left
      ∙ run-step (fuel - (made + 1)) made h.registers h.pc (memory_in machine) away
      ∙ ap (continue made (symbolic_run (fuel - (made + 1)) (made + 1))) stepped
