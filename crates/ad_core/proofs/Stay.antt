-- A step, a run and a call leave each segment where it was, as long as it was, and with its rights and its role.
use Rattle.std.proofs.Common.{◌≡◌, ℕ, zero, suc, ◌%◌, Bool, true, false, List, Option, None, Some, Result, Ok, Err, refl, sym, ap, subst, ◌∙◌}
use Rattle.std.specs.Prelude.{◌==◌, if◌then◌else◌}
use Rattle.byteorder.specs.Endian.{little_bytes}
use Rattle.ad_base.specs.declared.end.End.{End}
use Rattle.ad_base.specs.declared.layout.TheConstants.{FETCH_BYTES, GATE, INSTRUCTION_BYTES}
use Rattle.ad_base.specs.Segments.{Extent, Fetch, Load, Segment, Store, extents, reach}
use Rattle.ad_base.proofs.Extents.{extents-put_at}
use Rattle.ad_isa.specs.declared.instr.Instr.{Instr}
use Rattle.ad_isa.specs.Domain.{◌>>=◌}
use Rattle.ad_isa.specs.Finish.{Finish}
use Rattle.ad_isa.specs.Numbers.{numbers}
use Rattle.ad_isa.specs.Rows.{Branches, Effect, Jumps, Loads, Passes, Stops, Stores, Writes, effect, register}
use Rattle.ad_isa.specs.Services.{served}
use Rattle.ad_isa.specs.Step.{Finishes, Found, Goes, Next, Service, State, Word, execute, perform, return_from_service, settle, step, to_target, with_loaded}
use Rattle.ad_isa.specs.Step as steps
use Rattle.ad_isa.specs.Table.{decoded}
use Rattle.ad_core.specs.Memory.{Memory, channels_of, fetched, loaded, put_by, stored}
use Rattle.ad_core.specs.Plain.{PlainOutcome, Tracked, after_service, after_store, certain, continue, found_or_end, plain_call, plain_run, plain_step, plain_storage, untouched, widened_or_end, with_access}
use Rattle.ad_core.specs.Steps.{LeadsTo}

-- what holds of both choices holds of the one that is taken
either : {A : Type 0} (P : A → Type 0) (b : Bool) (x y : A) → P x → P y → P (if b then x else y)
either P true x y px py = px
either P false x y px py = py

-- what is stored then lies so
abbrev LiesSo : List Extent → Tracked → Type 0
LiesSo before m = extents m.memory.segments ≡ before

-- what a step leaves lies so
abbrev Leaves : List Extent → Next ℕ Tracked → Type 0
Leaves before (Goes h after) = LiesSo before after
Leaves before (Finishes finish after) = LiesSo before after

-- what a store leaves lies so
abbrev StoreLeaves : List Extent → Result (List (Segment ℕ)) End → Type 0
StoreLeaves before (Ok segments) = extents segments ≡ before
StoreLeaves before (Err end) = Unit {0}

put : (size value at : ℕ) (segments : List (Segment ℕ)) (r : Result (Segment ℕ) End) → StoreLeaves (extents segments) (put_by size value segments at r)
put size value at segments (Ok s) = extents-put_at at (little_bytes size value) segments
put size value at segments (Err end) = tt

module _ (before : List Extent) (h : State ℕ) where
  targeted : (xs : List ℕ) (m : Tracked) (target : ℕ) → LiesSo before m → Leaves before (to_target numbers plain_storage xs m target)
  targeted xs m target e = either (Leaves before) (target % FETCH_BYTES == 0) _ _ e e

  loads : (next rd : ℕ) (m : Tracked) (r : Result ℕ End) → LiesSo before m → Leaves before (with_loaded numbers plain_storage h next rd (r, m))
  loads next rd m (Ok value) e = e
  loads next rd m (Err end) e = e

  stores : (next : ℕ) (m : Tracked) (r : Result (List (Segment ℕ)) End) → StoreLeaves before r → LiesSo before m → Leaves before (steps.after_store numbers plain_storage h next (after_store m r))
  stores next m (Ok segments) left e = left
  stores next m (Err end) left e = e

  returns : (m : Tracked) (r : Result ℕ (Finish ℕ)) → LiesSo before m → Leaves before (certain (return_from_service numbers plain_storage h m r))
  returns m (Ok a0) e = targeted _ m _ e
  returns m (Err finish) e = e

  settled : (m : Tracked) (next : ℕ) (made : Effect ℕ) → LiesSo before m → Leaves before (certain (settle numbers plain_storage h m next made))
  unfolding stored
  settled m next Passes e = e
  settled m next (Writes rd value) e = e
  settled m next (Jumps rd link target) e = targeted _ m target e
  settled m next (Branches target) e = targeted _ m target e
  settled m next (Loads size signed rd address) e = loads next rd (with_access Load size address m) (widened_or_end size signed (loaded size m.memory.segments address)) e
  settled m next (Stores size value address) e =
      stores next (with_access Store size address m) (stored size value m.memory.segments address)
      (subst (λ es. StoreLeaves es (stored size value m.memory.segments address)) e (put size value address m.memory.segments (reach Store size m.memory.segments address))) e
  settled m next (Stops end) e = e

  bound : (m : Tracked) (next : ℕ) (made : Result (Effect ℕ) ⊥) → LiesSo before m → Leaves before (certain (made >>= λ x. settle numbers plain_storage h m next x))
  bound m next (Ok made) e = settled m next made e
  bound m next (Err none) e = absurd none

  executed : (m : Tracked) (i : Option Instr) → LiesSo before m → Leaves before (certain (execute numbers plain_storage h m INSTRUCTION_BYTES i))
  executed m None e = e
  executed m (Some i) e = bound m _ (effect numbers h.registers h.pc _ i) e

  performed : (m : Tracked) (found : Result Found End) → LiesSo before m → Leaves before (certain (perform numbers plain_storage h m found))
  performed m (Ok (Word word)) e = executed m (decoded word) e
  performed m (Ok (Service number)) e =
      let answer = after_service m (served numbers number (register numbers h.registers 10) (channels_of m.memory)) in
      returns answer.1 answer.0 e
  performed m (Err end) e = e

stepped : (h : State ℕ) (m : Tracked) → Leaves (extents m.memory.segments) (plain_step h m)
unfolding plain_step step
stepped h m = performed (extents m.memory.segments) h (with_access Fetch FETCH_BYTES h.pc m) (found_or_end (fetched m.memory.segments h.pc)) refl

-- what a run that goes on leaves, where the rest of it leaves all where it was
continued : (before : List Extent) (rest : State ℕ → Tracked → PlainOutcome) (n : Next ℕ Tracked) → ((h : State ℕ) (m : Tracked) → extents (rest h m).memory.segments ≡ extents m.memory.segments) → Leaves before n → extents (continue rest n).memory.segments ≡ before
continued before rest (Goes h after) more e = more h after ∙ e
continued before rest (Finishes finish after) more e = e

pub ran_extents : (fuel : ℕ) (h : State ℕ) (m : Tracked) → extents (plain_run fuel h m).memory.segments ≡ extents m.memory.segments
unfolding plain_run
ran_extents zero h m = either (λ (o : PlainOutcome). extents o.memory.segments ≡ extents m.memory.segments) (h.pc == GATE) _ _ refl refl
ran_extents (suc fuel) h m =
    let before = extents m.memory.segments in
    either (λ (o : PlainOutcome). extents o.memory.segments ≡ before) (h.pc == GATE) _ _ refl (continued before (plain_run fuel) (plain_step h m) (ran_extents fuel) (stepped h m))

-- what steps lead to
went : (h next : State ℕ) (m after : Tracked) → plain_step h m ≡ Goes next after → extents after.memory.segments ≡ extents m.memory.segments
went h next m after e = subst (Leaves (extents m.memory.segments)) e (stepped h m)

pub led : (steps : ℕ) (h later : State ℕ) (m after : Tracked) → LeadsTo steps h m later after → extents after.memory.segments ≡ extents m.memory.segments
led zero h later m after e = ap (λ (x : Tracked). extents x.memory.segments) (sym e.1)
led (suc steps) h later m after e = led steps e.0 later e.1 after e.3 ∙ went h e.0 m e.1 e.2

pub called_extents : (fuel entry sp : ℕ) (args : List ℕ) (m : Memory) → extents (plain_call fuel entry args sp m).memory.segments ≡ extents m.segments
unfolding plain_call
called_extents fuel entry sp args m =
    either (λ (o : PlainOutcome). extents o.memory.segments ≡ extents m.segments) (entry % FETCH_BYTES == 0) _ _ (ran_extents fuel _ (untouched m)) refl
