-- A run and a call of the symbolic machine stand for those of the plain one.
use Rattle.std.proofs.Common.{◌≡◌, ℕ, zero, suc, ◌+◌, ◌-◌, ◌*◌, ◌%◌, ◌^◌, ◌<◌, ◌≤◌, ◌++◌, List, [], ◌∷◌, map, replicate, take, Bool, true, false, Ok, Err, Result, refl, sym, ap, subst, ◌∙◌, slice_index, slice_index_or, leb, ltb, arith}
use Rattle.std.specs.Prelude.{◌==◌, if◌then◌else◌}
use Rattle.std.proofs.Math.ListN.{get_or-map}
use Rattle.std.proofs.lemmas.Bool.{eq-eqb, eqb-true, le-ltb, lt-leb, or_from}
use Rattle.std.proofs.lemmas.List.{map-append, take-map}
use Rattle.ad_base.specs.declared.end.End.TheVariants as ends
use Rattle.ad_base.specs.declared.image.Image.{Image}
use Rattle.ad_base.specs.declared.layout.TheConstants.{FETCH_BYTES, GATE, PAGE_BYTES, STACK_PAGES}
use Rattle.ad_base.specs.Place.{base_of}
use Rattle.ad_core.specs.Plain as plain
use Rattle.ad_base.specs.Segments.{Access}
use Rattle.ad_isa.specs.Finish.{Ends, Finish, Returns}
use Rattle.ad_isa.specs.Step.{Finishes, Goes, Next, State, step}
use Rattle.ad_symbolic.specs.AddressSpace.{AddressSpace, fetched_value, part_bytes}
use Rattle.ad_symbolic.specs.Machine as symbolic
use Rattle.ad_symbolic.specs.Machine.{Memory, Run, symbolic_step, unless_at_gate, spent}
use Rattle.ad_symbolic.specs.declared.value.Reason.TheVariants.{Address}
use Rattle.ad_symbolic.specs.declared.value.Value.TheVariants.{At, Num}
use Rattle.ad_symbolic.specs.declared.value.Part.TheVariants.{Movable, Stack}
use Rattle.ad_symbolic.specs.declared.value.Part.{Part}
use Rattle.ad_symbolic.specs.declared.value.Reason.{Reason}
use Rattle.ad_symbolic.specs.declared.value.Value.{Value}
use Rattle.ad_relate.specs.Machines.{IsReady, StandsFor, finish_at, memory_at, next_at, state_at, tracked_at}
use Rattle.ad_relate.specs.Stands.{Fits, IsApart, Places, base_at, number_at}
use Rattle.ad_relate.proofs.Values.{alignment, numbers-at}
use Rattle.ad_relate.proofs.Steps.{step-fits, step-leaves, step-stands}

-- a part and the page before it lie behind the gate's region, and far below 2^64
base-from : (i : Image) (ps : Places) (p : Part) → IsApart i ps → GATE + PAGE_BYTES < base_at ps p
base-from i ps Movable apart = let place = apart.movable.place in omega arith
base-from i ps Stack apart = let place = apart.stack in omega arith

base-to : (i : Image) (ps : Places) (p : Part) → IsApart i ps → base_at ps p + part_bytes i p + PAGE_BYTES < 2 ^ 63
base-to i ps Movable apart = let place = apart.movable.place in omega arith
base-to i ps Stack apart = let place = apart.stack in omega arith

-- an address that stands for the gate lies far from its part
gate-far : (base size o : ℕ) → GATE + PAGE_BYTES < base → base + size + PAGE_BYTES < 2 ^ 63 → o < 2 ^ 64 → (base + o) % 2 ^ 64 ≡ GATE → (size + PAGE_BYTES ≤ o) × (o < 2 ^ 64 - PAGE_BYTES)
gate-far base size o from to below gate = (omega arith, omega arith)

-- a fetch there isn't clear
gate-unclear : (space : AddressSpace) (ps : Places) (p : Part) (o : ℕ) → IsApart space.image ps → o < 2 ^ 64 → o % FETCH_BYTES ≡ 0
    → number_at ps (At p o) ≡ GATE → fetched_value space (At p o) ≡ Err Address
unfolding fetched_value
gate-unclear space ps p o apart below aligned gate =
    let far = gate-far (base_at ps p) (part_bytes space.image p) o (base-from space.image ps p apart) (base-to space.image ps p apart) below gate in
    let a = eq-eqb (o % FETCH_BYTES) 0 aligned in
    let inside = le-ltb o (part_bytes space.image p) (omega arith) in
    let beside = or_from (leb (2 ^ 64 - PAGE_BYTES) o) (ltb o (part_bytes space.image p + PAGE_BYTES)) (lt-leb (2 ^ 64 - PAGE_BYTES) o far.1) (le-ltb o (part_bytes space.image p + PAGE_BYTES) far.0) in
    rw (a, inside, beside) refl

-- where a run has an outcome, the plain machine's one is what it stands for, and what it leaves lies as the layout has it
abbrev RunStands : Places → Run → plain.PlainOutcome → Type 0
RunStands ps (Ok o) other = StandsFor ps o other × Fits o.memory.space
RunStands ps (Err u) other = Unit {0}

-- a run has no outcome
abbrev IsUnclear : Run → Type 0
IsUnclear (Ok o) = ⊥
IsUnclear (Err u) = Unit {0}

unclear-stands : (ps : Places) (r : Run) (other : plain.PlainOutcome) → IsUnclear r → RunStands ps r other
unclear-stands ps (Ok o) other none = absurd none
unclear-stands ps (Err u) other none = tt

-- a run that ends with this memory
ended : (ps : Places) (accesses : List Access) (m : Memory) (finish : Finish Value) → Fits m.space → RunStands ps (Ok (record { finish = finish; memory = m })) (plain.ended (plain.end_of (finish_at ps finish)) (tracked_at ps accesses m))
ended ps accesses m finish fits = (record { end = refl; memory = refl }, fits)

-- a run that has reached the gate
returned : (ps : Places) (accesses : List Access) (m : Memory) (xs : List Value) → Fits m.space
    → RunStands ps (Ok (record { finish = Returns (slice_index_or xs 10 (Num 0)); memory = m })) (plain.ended (ends.Returned (slice_index (map (number_at ps) xs) 10)) (tracked_at ps accesses m))
returned ps accesses m xs fits = (record { end = ap ends.Returned (get_or-map (number_at ps) xs 10 (Num 0)); memory = refl }, fits)

-- choices by one test
run-if : (ps : Places) (b : Bool) (x y : Run) (v w : plain.PlainOutcome) → (b ≡ true → RunStands ps x v) → (b ≡ false → RunStands ps y w) → RunStands ps (if b then x else y) (if b then v else w)
run-if ps true x y v w h k = h refl
run-if ps false x y v w h k = k refl

-- where the symbolic machine's choice is made already
run-else : (ps : Places) (b : Bool) (x : Run) (v w : plain.PlainOutcome) → (b ≡ true → IsUnclear x) → RunStands ps x w → RunStands ps x (if b then v else w)
run-else ps true x v w h k = unclear-stands ps x v (h refl)
run-else ps false x v w h k = k

-- the gate is looked for in both machines
gated : (ps : Places) (accesses : List Access) (xs : List Value) (pc : Value) (m : Memory) (otherwise : Run) (other : plain.PlainOutcome)
    → IsReady ps (record { registers = xs; pc = pc }) m
    → ((p : Part) (o : ℕ) → pc ≡ At p o → fetched_value m.space (At p o) ≡ Err Address → IsUnclear otherwise)
    → RunStands ps otherwise other
    → RunStands ps (unless_at_gate (record { registers = xs; pc = pc }) m otherwise) (plain.unless_at_gate (state_at ps (record { registers = xs; pc = pc })) (tracked_at ps accesses m) other)
gated ps accesses xs (Num n) m otherwise other ready far h = run-if ps (n == GATE) _ otherwise _ other (λ e. returned ps accesses m xs ready.fits) (λ e. h)
gated ps accesses xs (At p o) m otherwise other ready far h =
    run-else ps (number_at ps (At p o) == GATE) otherwise _ other (λ e. far p o refl (gate-unclear m.space ps p o ready.apart ready.below ready.aligned (eqb-true (number_at ps (At p o)) GATE e))) h

-- where the fuel is spent
spent-stands : (ps : Places) (accesses : List Access) (made : ℕ) (xs : List Value) (pc : Value) (m : Memory) → Fits m.space
    → RunStands ps (spent made (record { registers = xs; pc = pc }) m) (plain.ended ends.Fuel (tracked_at ps accesses m))
spent-stands ps accesses made xs (Num n) m fits = ended ps accesses m (Ends ends.Fuel) fits
spent-stands ps accesses made xs (At p o) m fits =
    elim (fetched_value m.space (At p o)) as (λ found. RunStands ps (elim found [ Ok x ↦ Ok (record { finish = Ends ends.Fuel; memory = m }) | Err reason ↦ Err (record { reason = Address; step = made }) ]) (plain.ended ends.Fuel (tracked_at ps accesses m))) [
      | Ok found ↦ ended ps accesses m (Ends ends.Fuel) fits
      | Err reason ↦ tt
    ]

spent-unclear : (made : ℕ) (xs : List Value) (pc : Value) (m : Memory) (p : Part) (o : ℕ) → pc ≡ At p o → fetched_value m.space (At p o) ≡ Err Address → IsUnclear (spent made (record { registers = xs; pc = pc }) m)
spent-unclear made xs pc m p o at e = rw (at, e) tt

step-unclear : (made : ℕ) (rest : State Value → Memory → Run) (xs : List Value) (pc : Value) (m : Memory) (p : Part) (o : ℕ) → pc ≡ At p o → fetched_value m.space (At p o) ≡ Err Address
    → IsUnclear (symbolic.continue made rest (symbolic_step (record { registers = xs; pc = pc }) m))
unfolding symbolic_step step
step-unclear made rest xs pc m p o at e = rw (at, e) tt

-- what follows a step
continue-stands : (ps : Places) (accesses : List Access) (made : ℕ) (rest : State Value → Memory → Run) (goes : State ℕ → plain.Tracked → plain.PlainOutcome) (step : Result (Next Value Memory) Reason) (next : Next ℕ plain.Tracked)
    → ((n : Next Value Memory) → step ≡ Ok n → (more : List Access) × (next ≡ next_at ps (accesses ++ more) n))
    → ((more : List Access) (h : State Value) (m : Memory) → step ≡ Ok (Goes h m) → RunStands ps (rest h m) (goes (state_at ps h) (tracked_at ps (accesses ++ more) m)))
    → ((finish : Finish Value) (m : Memory) → step ≡ Ok (Finishes finish m) → Fits m.space)
    → RunStands ps (symbolic.continue made rest step) (plain.continue goes next)
continue-stands ps accesses made rest goes (Ok (Goes h m)) next stands goes_on left =
    let (more, is) = stands (Goes h m) refl in
    subst (λ n. RunStands ps (rest h m) (plain.continue goes n)) (sym is) (goes_on more h m refl)
continue-stands ps accesses made rest goes (Ok (Finishes finish m)) next stands goes_on left =
    let (more, is) = stands (Finishes finish m) refl in
    subst (λ n. RunStands ps (Ok (record { finish = finish; memory = m })) (plain.continue goes n)) (sym is) (ended ps (accesses ++ more) m finish (left finish m refl))
continue-stands ps accesses made rest goes (Err reason) next stands goes_on left = tt

-- the registers at the start
first-at : (ps : Places) (args : List ℕ) (sp : ℕ) → number_at ps (At Stack (STACK_PAGES * PAGE_BYTES)) ≡ sp → map (number_at ps) (symbolic.first_values args) ≡ plain.first_registers args sp
unfolding symbolic.first_values plain.first_registers
first-at ps args sp e =
    let f = number_at ps in
    let eight = replicate 8 (Num 0) in
    let rest = replicate 14 (Num 0) in
    let given : map f (take 8 (map Num args ++ eight)) ≡ take 8 (args ++ replicate 8 0) =
    sym (take-map f 8 (map Num args ++ eight)) ∙ ap (take 8) (map-append f (map Num args) eight ∙ ap (λ xs. xs ++ replicate 8 0) (numbers-at ps args)) in
    let tail : map f (take 8 (map Num args ++ eight) ++ rest) ≡ take 8 (args ++ replicate 8 0) ++ replicate 14 0 =
    map-append f (take 8 (map Num args ++ eight)) rest ∙ ap (λ xs. xs ++ replicate 14 0) given in
    λ j. 0 ∷ GATE ∷ e j ∷ replicate 7 0 ++ tail j

-- the end of the stack
stack-end : (i : Image) (ps : Places) → IsApart i ps → number_at ps (At Stack (STACK_PAGES * PAGE_BYTES)) ≡ base_of ps.stack + STACK_PAGES * PAGE_BYTES
stack-end i ps apart = let to = base-to i ps Stack apart in omega arith

module _ (ps : Places) where
  run-stands : (fuel made : ℕ) (accesses : List Access) (h : State Value) (m : Memory) → IsReady ps h m
      → RunStands ps (symbolic.symbolic_run fuel made h m) (plain.plain_run fuel (state_at ps h) (tracked_at ps accesses m))
  unfolding symbolic.symbolic_run plain.plain_run
  run-stands zero made accesses h m ready =
      gated ps accesses h.registers h.pc m (spent made h m) _ ready (spent-unclear made h.registers h.pc m) (spent-stands ps accesses made h.registers h.pc m ready.fits)
  run-stands (suc fuel) made accesses h m ready =
      gated ps accesses h.registers h.pc m (symbolic.continue made (symbolic.symbolic_run fuel (made + 1)) (symbolic_step h m)) _ ready (step-unclear made (symbolic.symbolic_run fuel (made + 1)) h.registers h.pc m)
      (continue-stands ps accesses made (symbolic.symbolic_run fuel (made + 1)) (plain.plain_run fuel) (symbolic_step h m) (plain.plain_step (state_at ps h) (tracked_at ps accesses m))
      (λ n e. step-stands ps h m accesses n ready e)
      (λ more next memory e. run-stands fuel (made + 1) (accesses ++ more) next memory (step-leaves ps h next m memory ready e))
      (λ finish memory e. step-fits ps h m memory finish ready e))

  call-stands : (fuel offset : ℕ) (args : List ℕ) (m : Memory) → IsApart m.space.image ps → Fits m.space → offset < 2 ^ 64
      → RunStands ps (symbolic.symbolic_call fuel offset args m)
      (plain.plain_call fuel (number_at ps (At Movable offset)) args (base_of ps.stack + STACK_PAGES * PAGE_BYTES) (memory_at ps m))
  unfolding symbolic.symbolic_call plain.plain_call
  call-stands fuel offset args m apart fits below =
      let sp = base_of ps.stack + STACK_PAGES * PAGE_BYTES in
      let entry = number_at ps (At Movable offset) in
      let start : State Value = record { registers = symbolic.first_values args; pc = At Movable offset } in
      let made = λ (h : State ℕ). plain.plain_run fuel h (tracked_at ps [] m) in
      let same = first-at ps args sp (stack-end m.space.image ps apart) in
      let misaligned : plain.PlainOutcome = plain.ended ends.Misaligned (tracked_at ps [] m) in
      let runs = λ (e : (offset % FETCH_BYTES == 0) ≡ true).
      let ready : IsReady ps start m = record { apart = apart; fits = fits; aligned = eqb-true (offset % FETCH_BYTES) 0 e; below = below } in
      subst (λ xs. RunStands ps (symbolic.symbolic_run fuel 0 start m) (made (record { registers = xs; pc = entry }))) same (run-stands fuel 0 [] start m ready) in
      subst (λ n. RunStands ps (if offset % FETCH_BYTES == 0 then symbolic.symbolic_run fuel 0 start m else Ok (record { finish = Ends ends.Misaligned; memory = m }))
      (if n == 0 then made (record { registers = plain.first_registers args sp; pc = entry }) else misaligned)) (sym (alignment ps (At Movable offset)))
      (run-if ps (offset % FETCH_BYTES == 0) _ _ _ _ runs (λ e. ended ps [] m (Ends ends.Misaligned) fits))

  -- a run's outcome
  pub run-outcome : (fuel made : ℕ) (accesses : List Access) (h : State Value) (m : Memory) (o : symbolic.SymbolicOutcome) → IsReady ps h m → symbolic.symbolic_run fuel made h m ≡ Ok o
      → StandsFor ps o (plain.plain_run fuel (state_at ps h) (tracked_at ps accesses m))
  run-outcome fuel made accesses h m o ready e =
      let both = subst (λ r. RunStands ps r (plain.plain_run fuel (state_at ps h) (tracked_at ps accesses m))) e (run-stands fuel made accesses h m ready) in
      both.0

  -- a call's outcome, and what it leaves
  module _ (fuel offset : ℕ) (args : List ℕ) (m : Memory) (o : symbolic.SymbolicOutcome) (apart : IsApart m.space.image ps) (fits : Fits m.space) (below : offset < 2 ^ 64) (is : symbolic.symbolic_call fuel offset args m ≡ Ok o) where
    abbrev Found : symbolic.Run → Type 0
    Found r = RunStands ps r (plain.plain_call fuel (number_at ps (At Movable offset)) args (base_of ps.stack + STACK_PAGES * PAGE_BYTES) (memory_at ps m))

    pub call-outcome : StandsFor ps o (plain.plain_call fuel (number_at ps (At Movable offset)) args (base_of ps.stack + STACK_PAGES * PAGE_BYTES) (memory_at ps m))
    call-outcome = (subst Found is (call-stands fuel offset args m apart fits below)).0

    pub call-fits : Fits o.memory.space
    call-fits = (subst Found is (call-stands fuel offset args m apart fits below)).1
