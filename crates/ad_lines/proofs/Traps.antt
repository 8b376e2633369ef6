-- A run that touches an address of a place where nothing lies ends there in a trap.
use Rattle.std.proofs.Common.{◌≡◌, ℕ, zero, suc, ◌+◌, ◌*◌, ◌%◌, ◌^◌, ◌<◌, ◌≤◌, Bool, false, List, Option, Some, None, Result, Ok, Err, inl, inr, refl, sym, ap, subst, ◌∙◌, arith}
use Rattle.std.specs.Prelude.{◌==◌, if◌then◌else◌, IsSomeAnd}
use Rattle.std.proofs.lemmas.Bool.{cond_both, eqb-true}
use Rattle.std.proofs.lemmas.Bool.Decides.{eqb_tells, nat_tests}
use Rattle.ad_base.specs.declared.end.End.{End}
use Rattle.ad_base.specs.declared.end.End.TheVariants as ends
use Rattle.ad_base.specs.declared.layout.TheConstants.{FETCH_BYTES, GATE, INSTRUCTION_BYTES, REGION_BYTES, WORD_BYTES}
use Rattle.ad_base.specs.declared.place.Place.{Place}
use Rattle.ad_base.specs.Place.{IsInside, IsPlace, base_of}
use Rattle.ad_base.specs.Segments.{Fetch, Load as Loading, Segment, Store as Storing, Use, extents, holding, in_region_1, reach, service_number, with_right}
use Rattle.ad_base.proofs.Extents.{holding-none}
use Rattle.ad_core.specs.declared.bus.Fetched.{Fetched}
use Rattle.ad_core.specs.declared.bus.Fetched.TheVariants as fetch
use Rattle.ad_core.specs.Memory.{fetched, loaded, number_of, put_by, service_or, stored, word_of}
use Rattle.ad_core.specs.Plain.{PlainOutcome, Tracked, after_store, certain, continue, found_or_end, plain_run, plain_step, plain_storage, widened_or_end, with_access}
use Rattle.ad_core.specs.Steps.{LeadsTo}
use Rattle.ad_core.proofs.Stay.{led}
use Rattle.ad_isa.specs.declared.instr.Instr.{Instr}
use Rattle.ad_isa.specs.declared.instr.Instr.TheVariants.{Load, Store}
use Rattle.ad_isa.specs.Finish.{Ends}
use Rattle.ad_isa.specs.Numbers.{numbers}
use Rattle.ad_isa.specs.Rows.{effect, register}
use Rattle.ad_isa.specs.Step.{Finishes, Goes, Next, State, execute, perform, step, with_loaded}
use Rattle.ad_isa.specs.Step as steps
use Rattle.ad_isa.specs.Table.{decoded}
use Rattle.ad_isa.specs.Words.{IsSize}
use Rattle.ad_relate.proofs.Sizes.{HasSize, size-of-decoded}
use Rattle.ad_lines.specs.Traps.{data_address, EndsInTrapAt, FetchedTouches, IsAmong, IsTrap, LoadsOrStoresAt, StepTraps, Touches}

-- an address behind region 1 is no service's
no-service : (at : ℕ) → 2 * REGION_BYTES < at → service_number at ≡ None
no-service at high = grind (arith, nat_tests)

-- and each access where nothing lies, behind region 1, is a fault
pub fault-reached : (at : ℕ) (memory : List (Segment ℕ)) → holding memory at ≡ None → (wanted : Use) (size : ℕ) → at % size ≡ 0 → reach wanted size memory at ≡ Err ends.Fault
fault-reached at memory none wanted size aligned =
    cond_both (at % size == 0) _ _ (λ x. x ≡ Err ends.Fault)
    (λ e. cond_both (in_region_1 at) _ _ (λ x. x ≡ Err ends.Fault) (λ f. refl) (λ f. ap (with_right wanted) none))
    (λ odd. absurd (grind (arith, nat_tests)))

pub fault-there : (at : ℕ) (memory : List (Segment ℕ)) → (at % FETCH_BYTES ≡ 0 → holding memory at ≡ None) → 2 * REGION_BYTES < at → fetched memory at ≡ fetch.Fault
unfolding fetched
fault-there at memory none high =
    let gate : (at == GATE) ≡ false = elim (eqb_tells at GATE) [ inl e ↦ absurd (omega (arith, e.1, high)) | inr e ↦ e.0 ] in
    (λ j. if gate j then fetch.Gate else service_or (no-service at high j) (word_of at (reach Fetch FETCH_BYTES memory at)))
    ∙ cond_both (at % FETCH_BYTES == 0) (if in_region_1 at then Err ends.Fault else with_right Fetch (holding memory at)) (Err ends.Misaligned) (λ x. word_of at x ≡ fetch.Fault)
    (λ e. cond_both (in_region_1 at) (Err ends.Fault) (with_right Fetch (holding memory at)) (λ x. word_of at x ≡ fetch.Fault) (λ f. refl) (λ f. ap (λ x. word_of at (with_right Fetch x)) (none (eqb-true (at % FETCH_BYTES) 0 e))))
    (λ odd. refl)

-- a refusal that is a trap
abbrev Refuses : {X : Type 0} → Result X End → Type 0
Refuses (Ok x) = ⊥
Refuses (Err end) = IsTrap end

-- an access of an address of a place begins at one, if it is aligned
inside-of : (p : Place) (at from size : ℕ) → IsInside p at → IsSize size → from % size ≡ 0 → IsAmong from size at → IsInside p from
inside-of p at from size inside is aligned among = elim is [
  | inl e ↦ record { from = omega (arith, inside.from, among.0, among.1, e); to = omega (arith, inside.to, among.0) }
  | inr more ↦ elim more [
    | inl e ↦ record { from = omega (arith, inside.from, among.1, e, subst (λ n. from % n ≡ 0) e aligned); to = omega (arith, inside.to, among.0) }
    | inr most ↦ elim most [
      | inl e ↦ record { from = omega (arith, inside.from, among.1, e, subst (λ n. from % n ≡ 0) e aligned); to = omega (arith, inside.to, among.0) }
      | inr e ↦ record { from = omega (arith, inside.from, among.1, e, subst (λ n. from % n ≡ 0) e aligned); to = omega (arith, inside.to, among.0) }
    ]
  ]
]

-- what is loaded or stored where that is refused
loads-refused : (size at : ℕ) (signed : Bool) (r : Result (Segment ℕ) End) → Refuses r → Refuses (widened_or_end size signed (number_of size at r))
loads-refused size at signed (Ok s) none = none
loads-refused size at signed (Err end) trap = trap

stores-refused : (size value at : ℕ) (segments : List (Segment ℕ)) (r : Result (Segment ℕ) End) → Refuses r → Refuses (put_by size value segments at r)
stores-refused size value at segments (Ok s) none = none
stores-refused size value at segments (Err end) trap = trap

-- where the instruction behind the one at pc lies
abbrev next-of : State ℕ → ℕ
next-of h = (h.pc + INSTRUCTION_BYTES) % 2 ^ 64

module _ (h : State ℕ) where
  load-traps : (next rd : ℕ) (m : Tracked) (r : Result ℕ End) → Refuses r → StepTraps (with_loaded numbers plain_storage h next rd (r, m))
  load-traps next rd m (Ok value) none = absurd none
  load-traps next rd m (Err end) trap = trap

  store-traps : (next : ℕ) (m : Tracked) (r : Result (List (Segment ℕ)) End) → Refuses r → StepTraps (steps.after_store numbers plain_storage h next (after_store m r))
  store-traps next m (Ok segments) none = absurd none
  store-traps next m (Err end) trap = trap

  -- where each access that touches the address is refused, the instruction that loads or stores there ends the call
  module _ (at : ℕ) (m : Tracked) (refused : (wanted : Use) (size from : ℕ) → IsSize size → IsAmong from size at → Refuses (reach wanted size m.memory.segments from)) where
    executed : (i : Option Instr) → ((instr : Instr) → i ≡ Some instr → HasSize instr) → IsSomeAnd i (LoadsOrStoresAt at h.registers) → StepTraps (certain (execute numbers plain_storage h m INSTRUCTION_BYTES i))
    unfolding effect loaded stored
    executed None sized t = absurd t
    executed (Some (Load size signed rd rs1 imm)) sized t =
        let at_data = data_address h.registers rs1 imm in
        load-traps (next-of h) rd (with_access Loading size at_data m) (widened_or_end size signed (loaded size m.memory.segments at_data))
        (loads-refused size at_data signed (reach Loading size m.memory.segments at_data) (refused Loading size at_data (sized (Load size signed rd rs1 imm) refl) t))
    executed (Some (Store size rs1 rs2 imm)) sized t =
        let at_data = data_address h.registers rs1 imm in
        let value = register numbers h.registers rs2 in
        store-traps (next-of h) (with_access Storing size at_data m) (stored size value m.memory.segments at_data)
        (stores-refused size value at_data m.memory.segments (reach Storing size m.memory.segments at_data) (refused Storing size at_data (sized (Store size rs1 rs2 imm) refl) t))
    executed (Some i) sized t = absurd t

    performed : (f : Fetched) → FetchedTouches at h.registers f → StepTraps (certain (perform numbers plain_storage h m (found_or_end f)))
    performed (fetch.Word word) t = executed (decoded word) (λ i e. size-of-decoded word i e) t
    performed f t = absurd t

-- a step where the fetch is a fault
fetch-fault : (h : State ℕ) (m : Tracked) → found_or_end (fetched m.memory.segments h.pc) ≡ Err ends.Fault → plain_step h m ≡ Finishes (Ends ends.Fault) (with_access Fetch FETCH_BYTES h.pc m)
unfolding plain_step step
fetch-fault h m e = ap (λ f. certain (perform numbers plain_storage h (with_access Fetch FETCH_BYTES h.pc m) f)) e

-- a step at the gate is none that goes on
gate-ends : (h : State ℕ) (m : Tracked) → h.pc ≡ GATE → found_or_end (fetched m.memory.segments h.pc) ≡ Err ends.Fault
unfolding fetched
gate-ends h m e = ap (λ pc. found_or_end (fetched m.memory.segments pc)) e

goes-on : (h next : State ℕ) (m after : Tracked) → plain_step h m ≡ Goes next after → h.pc ≡ GATE → ⊥
goes-on h next m after goes e =
    let both : Finishes (Ends ends.Fault) (with_access Fetch FETCH_BYTES h.pc m) ≡ Goes next after = sym (fetch-fault h m (gate-ends h m e)) ∙ goes in
    absurd cc

-- a run that is not at the gate makes a step
run-steps : (fuel : ℕ) (h : State ℕ) (m : Tracked) → (h.pc ≡ GATE → ⊥) → plain_run (suc fuel) h m ≡ continue (plain_run fuel) (plain_step h m)
unfolding plain_run
run-steps fuel h m away = grind (arith, nat_tests)

-- a run ends as its last step
step-ends : (rest : State ℕ → Tracked → PlainOutcome) (n : Next ℕ Tracked) → StepTraps n → IsTrap (continue rest n).end
step-ends rest (Goes h m) none = absurd none
step-ends rest (Finishes finish m) trap = trap

run-ends : (fuel steps : ℕ) (h later : State ℕ) (m after : Tracked) → steps < fuel → LeadsTo steps h m later after → (later.pc ≡ GATE → ⊥) → StepTraps (plain_step later after) → IsTrap (plain_run fuel h m).end
run-ends zero steps h later m after less leads away trap = absurd (omega (arith, less))
run-ends (suc fuel) zero h later m after less leads away trap =
    subst (λ (o : PlainOutcome). IsTrap o.end) (sym (run-steps fuel h m (λ e. away (ap (λ (s : State ℕ). s.pc) (sym leads.0) ∙ e))))
    (step-ends (plain_run fuel) (plain_step h m) (subst (λ (s : State ℕ). StepTraps (plain_step s m)) (sym leads.0) (subst (λ (x : Tracked). StepTraps (plain_step later x)) (sym leads.1) trap)))
run-ends (suc fuel) (suc steps) h later m after less leads away trap =
    subst (λ (o : PlainOutcome). IsTrap o.end) (sym (run-steps fuel h m (goes-on h leads.0 m leads.1 leads.2)))
    (subst (λ (n : Next ℕ Tracked). IsTrap (continue (plain_run fuel) n).end) (sym leads.2) (run-ends fuel steps leads.0 later leads.1 after (omega (arith, less)) leads.3 away trap))

module _ (p : Place) (at : ℕ) (is : IsPlace p) (inside : IsInside p at) where
  -- what touches the address lies behind region 1
  high : (from size : ℕ) → size ≤ WORD_BYTES → IsAmong from size at → 2 * REGION_BYTES < from
  high from size few among = let base : base_of p ≤ at = inside.from in omega (arith, is.region_from, is.page_before, base, few, among.1)

  module _ (segments : List (Segment ℕ)) (nothing : (from : ℕ) → IsInside p from → holding segments from ≡ None) where
    refuses : (wanted : Use) (size from : ℕ) → IsSize size → IsAmong from size at → Refuses (reach wanted size segments from)
    refuses wanted size from sized among =
        cond_both (from % size == 0) (if in_region_1 from then Err ends.Fault else with_right wanted (holding segments from)) (Err ends.Misaligned) Refuses
        (λ e. cond_both (in_region_1 from) (Err ends.Fault) (with_right wanted (holding segments from)) Refuses (λ f. inl refl)
        (λ f. subst Refuses (sym (ap (with_right wanted) (nothing from (inside-of p at from size inside sized (eqb-true (from % size) 0 e) among)))) (inl refl)))
        (λ odd. inr refl)

    fetch-refused : (pc : ℕ) → IsAmong pc FETCH_BYTES at → fetched segments pc ≡ fetch.Fault
    fetch-refused pc among =
        fault-there pc segments (λ aligned. nothing pc (inside-of p at pc FETCH_BYTES inside (inr (inr (inl refl))) aligned among)) (high pc FETCH_BYTES (omega arith) among)

  module _ (segments : List (Segment ℕ)) (nothing : (from : ℕ) → IsInside p from → holding segments from ≡ None) where
    away : (h : State ℕ) (m : Tracked) → Touches at h m → h.pc ≡ GATE → ⊥
    unfolding fetched
    away h m (inl among) e = let behind = high h.pc FETCH_BYTES (omega arith) among in omega (arith, behind, e)
    away h m (inr t) e = subst (λ pc. FetchedTouches at h.registers (fetched m.memory.segments pc)) e t

    step-traps : (h : State ℕ) (m : Tracked) → ((from : ℕ) → IsInside p from → holding m.memory.segments from ≡ None) → Touches at h m → StepTraps (plain_step h m)
    unfolding plain_step step
    step-traps h m none (inl among) = subst StepTraps (sym (fetch-fault h m (ap found_or_end (fetch-refused m.memory.segments none h.pc among)))) (inl refl)
    step-traps h m none (inr t) = performed h at (with_access Fetch FETCH_BYTES h.pc m) (refuses m.memory.segments none) (fetched m.memory.segments h.pc) t

    pub ends-at : EndsInTrapAt at segments
    ends-at fuel first before same comes =
        let stay = led comes.steps first comes.later before comes.after comes.leads ∙ ap extents same in
        let trap = step-traps comes.later comes.after (λ from within. holding-none from comes.after.memory.segments segments stay (nothing from within)) comes.touches in
        record { step = trap; run = run-ends fuel comes.steps first comes.later before comes.after comes.fuelled comes.leads (away comes.later comes.after comes.touches) trap }
