-- One step more or less of a run, and what a run of the code comes to.
use Rattle.std.proofs.Common.{◌≡◌, ℕ, zero, suc, ◌+◌, ◌-◌, ◌<◌, ◌++◌, List, fold, slice_index, Option, None, Some, Ok, Err, Result, refl, ap, sym, ◌∙◌, arith}
use Rattle.std.proofs.lemmas.List.Sums.{fold-append}
use Rattle.std.proofs.lemmas.Bool.Decides.{nat_tests}
use Rattle.ad_base.specs.declared.layout.TheConstants.{GATE}
use Rattle.ad_base.specs.declared.end.End.{End}
use Rattle.ad_base.specs.declared.end.End.TheVariants.{Returned, Fuel}
use Rattle.ad_base.specs.Segments.{Access}
use Rattle.ad_isa.specs.Numbers.{numbers}
use Rattle.ad_isa.specs.Step.{Finishes, Goes, Next, State, step}
use Rattle.ad_core.specs.Memory.{Memory}
use Rattle.ad_core.specs.Plain.{PlainOutcome, Tracked, continue, ended, plain_run, plain_step, plain_storage}
use Rattle.ad_core.specs.Private.Code.{IsMade, RunsTo, answered, came_to, state_of, tracked}
use Rattle.ad_core.specs.declared.hart.Hart.{Hart}

-- at the gate a run has ended, whatever fuel is left
run_at_gate : (fuel : ℕ) (h : State ℕ) (m : Tracked) → h.pc ≡ GATE → plain_run fuel h m ≡ ended (Returned (slice_index h.registers 10)) m
unfolding plain_run
run_at_gate zero h m e = grind (arith, nat_tests)
run_at_gate (suc fuel) h m e = grind (arith, nat_tests)

-- elsewhere it ends without fuel
run_spent : (h : State ℕ) (m : Tracked) → (h.pc ≡ GATE → ⊥) → plain_run 0 h m ≡ ended Fuel m
unfolding plain_run
run_spent h m away = grind (arith, nat_tests)

-- and else it makes a step
run_step : (fuel : ℕ) (h : State ℕ) (m : Tracked) → (h.pc ≡ GATE → ⊥) → plain_run (suc fuel) h m ≡ continue (plain_run fuel) (plain_step h m)
unfolding plain_run
run_step fuel h m away = grind (arith, nat_tests)

-- what follows a step, by what it comes to
abbrev resumed : (State ℕ → Tracked → PlainOutcome) → Result (State ℕ) End × Tracked → PlainOutcome
resumed rest (Ok h, m) = rest h m
resumed rest (Err end, m) = ended end m

continue_came : (rest : State ℕ → Tracked → PlainOutcome) (n : Next ℕ Tracked) → continue rest n ≡ resumed rest (came_to n)
continue_came rest (Goes h m) = refl
continue_came rest (Finishes finish m) = refl

module _ {T : Type 0} (rule : T → Access → T) (first : T) (memory : Memory) (accesses : List Access) (track : T) (left : ℕ) (h : State ℕ) (outcome : PlainOutcome)
    (tracks : track ≡ fold rule first accesses) (runs : plain_run left h (tracked memory accesses) ≡ outcome) where
  -- the parts of an outcome that is known
  RunsTo_from : (answer : End) → plain_run left h (tracked memory accesses) ≡ ended answer (tracked memory accesses) → RunsTo rule first answer memory track outcome
  RunsTo_from answer e = record {
    end = ap (λ o. o.end) (sym e ∙ runs);
    memory = ap (λ o. o.memory) (sym e ∙ runs);
    track = tracks ∙ ap (λ o. fold rule first o.accesses) (sym e ∙ runs);
  }

  -- what a run that has reached the gate comes to
  pub runs_to_gate : (a : ℕ) → h.pc ≡ GATE → a ≡ slice_index h.registers 10 → RunsTo rule first (Returned a) memory track outcome
  runs_to_gate a e r = RunsTo_from (Returned a) (run_at_gate left h (tracked memory accesses) e ∙ ap (λ x. ended (Returned x) (tracked memory accesses)) (sym r))

  -- what a run comes to whose fuel is spent
  pub comes_spent : left ≡ 0 → (h.pc ≡ GATE → ⊥) → RunsTo rule first Fuel memory track outcome
  comes_spent z away = RunsTo_from Fuel (ap (λ n. plain_run n h (tracked memory accesses)) z ∙ run_spent h (tracked memory accesses) away)

module _ {T : Type 0} (rule : T → Access → T) (first : T) (before : Memory) (accesses : List Access) (track : T) (n i : ℕ) (hart : Hart) (outcome : PlainOutcome)
    (below : i < n) (away : hart.pc ≡ GATE → ⊥) (tracks : track ≡ fold rule first accesses) (runs : plain_run (n - i) (state_of hart) (tracked before accesses) ≡ outcome)
    (answer : Option End) (next : Hart) (after : Memory) (track_then : T) (made : IsMade rule (step numbers plain_storage (state_of hart)) before track answer next after track_then) where
  -- what was accessed until then
  abbrev pub accesses_then : List Access
  accesses_then = accesses ++ made.accesses

  -- the track after a step
  pub track_on : track_then ≡ fold rule first accesses_then
  track_on = made.track_is ∙ ap (λ t. fold rule t made.accesses) tracks ∙ sym (fold-append rule first accesses made.accesses)

  -- a run makes the step
  made_step : resumed (plain_run (n - (i + 1))) (answered answer next, tracked after accesses_then) ≡ outcome
  unfolding plain_step
  made_step =
      let fuel = n - (i + 1) in
      let left : n - i ≡ suc fuel = omega arith in
      let m = tracked before accesses in
      sym (ap (λ k. plain_run k (state_of hart) m) left ∙ run_step fuel (state_of hart) m away ∙ continue_came (plain_run fuel) (plain_step (state_of hart) m) ∙ ap (resumed (plain_run fuel)) (made.same accesses)) ∙ runs

  -- it goes on from where the step leads
  pub run_goes : answer ≡ None → plain_run (n - (i + 1)) (state_of next) (tracked after accesses_then) ≡ outcome
  run_goes none = ap (λ r. resumed (plain_run (n - (i + 1))) (answered r next, tracked after accesses_then)) (sym none) ∙ made_step

  -- or ends as the step does
  pub comes_ended : (end : End) → answer ≡ Some end → RunsTo rule first end after track_then outcome
  comes_ended end some =
      let e : ended end (tracked after accesses_then) ≡ outcome = ap (λ r. resumed (plain_run (n - (i + 1))) (answered r next, tracked after accesses_then)) (sym some) ∙ made_step in
      record { end = ap (λ o. o.end) e; memory = ap (λ o. o.memory) e; track = track_on ∙ ap (λ o. fold rule first o.accesses) e }
