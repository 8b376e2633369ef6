-- What the code makes of the memory and the track, as the machine does.
use Rattle.std.proofs.Common.{◌≡◌, ℕ, ◌+◌, ◌-◌, ◌*◌, ◌/◌, ◌%◌, ◌^◌, ◌<◌, ◌++◌, [], List, Option, None, Some, Ok, Err, Result, refl, sym, ap, ◌∙◌, fold, bit_and, arith}
use Rattle.std.proofs.lemmas.Bool.{cond_both, eqb-true}
use Rattle.std.proofs.lemmas.Bool.Decides.{nat_tests}
use Rattle.std.specs.Prelude.{◌==◌, ◌&&◌, nat_le, nat_lt}
use Rattle.std.proofs.lemmas.List.{append_assoc, append-nil}
use Rattle.std.proofs.lemmas.List.Sums.{fold-append}
use Rattle.ad_base.specs.declared.end.End.{End}
use Rattle.ad_base.specs.declared.end.End.TheVariants.{Denied}
use Rattle.ad_base.specs.declared.layout.TheConstants.{FETCH_BYTES, FIRST_SERVICE, GATE, SERVICES, SERVICE_BYTES}
use Rattle.ad_base.specs.Segments.{Access, Fetch, Load, Segment, Store, reach, service_number, told}
use Rattle.ad_isa.specs.Numbers.{numbers}
use Rattle.ad_isa.specs.Rows.{Effect, Jumps, Loads, Passes, Stores, Writes, register, with_register}
use Rattle.ad_isa.specs.Services.{served}
use Rattle.ad_isa.specs.Step.{Found, Goes, Next, Service, after_store, perform, return_from_service, settle, step, to_target, with_loaded}
use Rattle.ad_core.specs.Memory.{Memory, channels_of, fetched, loaded, service_or, stored, with_channels, word_of}
use Rattle.ad_core.specs.Plain as plain
use Rattle.ad_core.specs.Plain.{Tracked, after_service, certain, found_or_end, plain_storage, untouched, widened_or_end, with_memory}
use Rattle.ad_core.specs.Private.Code.{IsMade, answered, came_to, state_of, tracked}
use Rattle.ad_core.specs.declared.bus.Fetched.TheVariants as fetch
use Rattle.ad_core.specs.declared.hart.Hart.{Hart}

-- the next instruction follows
goes_on : (xs : List ℕ) (m : Tracked) (next : ℕ) → next % FETCH_BYTES ≡ 0 → to_target numbers plain_storage xs m next ≡ Goes (record { registers = xs; pc = next }) m
goes_on xs m next aligned = grind (arith, nat_tests)

-- the code went on, or ended, as the machine does at a target
abbrev pub IsAt : List ℕ → ℕ → Option End → Hart → Type 0
IsAt xs target answer then_ = (m : Tracked) → came_to (to_target numbers plain_storage xs m target) ≡ (answered answer then_, m)

module _ {T : Type 0} (rule : T → Access → T) (before : Memory) (track : T) where
  -- nothing is accessed
  pub made-still : (made : Tracked → Result (Next ℕ Tracked) ⊥) (answer : Option End) (then_ : Hart) → ((m : Tracked) → came_to (certain (made m)) ≡ (answered answer then_, m)) → IsMade rule made before track answer then_ before track
  made-still made answer then_ is = record {
    accesses = [];
    same = λ earlier. is (tracked before earlier) ∙ (λ j. (answered answer then_, tracked before (sym (append-nil earlier) j)));
    track_is = refl;
  }

module _ (h : Hart) (e : Effect ℕ) (next : ℕ) (aligned : next % FETCH_BYTES ≡ 0) (answer : Option End) (then_ : Hart) where
  -- the next instruction follows, where the registers hold these
  came : (xs : List ℕ) → IsAt xs next answer then_ → (m : Tracked) → came_to (Goes (record { registers = xs; pc = next }) m) ≡ (answered answer then_, m)
  came xs at m = sym (ap came_to (goes_on xs m next aligned)) ∙ at m

  pub settled-passes : e ≡ Passes → IsAt h.registers next answer then_ → (m : Tracked) → came_to (certain (settle numbers plain_storage (state_of h) m next e)) ≡ (answered answer then_, m)
  settled-passes is at m = ap (λ x. came_to (certain (settle numbers plain_storage (state_of h) m next x))) is ∙ came h.registers at m

  pub settled-writes : (rd value : ℕ) (xs : List ℕ) → e ≡ Writes rd value → xs ≡ with_register numbers h.registers rd value → IsAt xs next answer then_
      → (m : Tracked) → came_to (certain (settle numbers plain_storage (state_of h) m next e)) ≡ (answered answer then_, m)
  settled-writes rd value xs is set at m =
      ap (λ x. came_to (certain (settle numbers plain_storage (state_of h) m next x))) is
      ∙ ap (λ ys. came_to (Goes (record { registers = ys; pc = next }) m)) (sym set) ∙ came xs at m

  pub settled-jumps : (rd link target : ℕ) (xs : List ℕ) → e ≡ Jumps rd link target → xs ≡ with_register numbers h.registers rd link → IsAt xs target answer then_
      → (m : Tracked) → came_to (certain (settle numbers plain_storage (state_of h) m next e)) ≡ (answered answer then_, m)
  settled-jumps rd link target xs is set at m =
      ap (λ x. came_to (certain (settle numbers plain_storage (state_of h) m next x))) is
      ∙ ap (λ ys. came_to (to_target numbers plain_storage ys m target)) (sym set) ∙ at m

  module _ {T : Type 0} (rule : T → Access → T) (before after : Memory) (track track_then : T) where
    -- a register gets what was loaded
    pub made-load : (size : ℕ) (signed_ : _) (rd address value : ℕ) (xs : List ℕ) → e ≡ Loads size signed_ rd address
        → widened_or_end size signed_ (loaded size before.segments address) ≡ Ok value → after ≡ before → track_then ≡ fold rule track (told Load size address)
        → xs ≡ with_register numbers h.registers rd value → IsAt xs next answer then_
        → IsMade rule (λ m. settle numbers plain_storage (state_of h) m next e) before track answer then_ after track_then
    made-load size signed_ rd address value xs is found same tracks set at = record {
      accesses = told Load size address;
      same = λ earlier. let m = tracked before (earlier ++ told Load size address) in
          ap (λ x. came_to (certain (settle numbers plain_storage (state_of h) (tracked before earlier) next x))) is
          ∙ ap (λ l. came_to (with_loaded numbers plain_storage (state_of h) next rd (l, m))) found
          ∙ ap (λ ys. came_to (Goes (record { registers = ys; pc = next }) m)) (sym set) ∙ came xs at m
          ∙ (λ j. (answered answer then_, tracked (sym same j) (earlier ++ told Load size address)));
      track_is = tracks;
    }

    -- the next instruction follows a store
    pub made-store : (size value address : ℕ) → e ≡ Stores size value address
        → plain.after_store (untouched before) (stored size value before.segments address) ≡ (None, untouched after) → track_then ≡ fold rule track (told Store size address)
        → IsAt h.registers next answer then_
        → IsMade rule (λ m. settle numbers plain_storage (state_of h) m next e) before track answer then_ after track_then
    made-store size value address is left tracks at = record {
      accesses = told Store size address;
      same = λ earlier. let xs = earlier ++ told Store size address in
          ap (λ x. came_to (certain (settle numbers plain_storage (state_of h) (tracked before earlier) next x))) is
          ∙ ap (λ l. came_to (after_store numbers plain_storage (state_of h) next l)) (with_accesses (stored size value before.segments address) xs left)
          ∙ came h.registers at (tracked after xs);
      track_is = tracks;
    }
      where
        with_accesses : (r : Result (List (Segment ℕ)) End) (xs : List Access) → plain.after_store (untouched before) r ≡ (None, untouched after) → plain.after_store (tracked before xs) r ≡ (None, tracked after xs)
        with_accesses (Ok segments) xs e = λ j. (None, tracked (e j).1.memory xs)
        with_accesses (Err end) xs e = absurd (let f = ap (λ x. x.0) e in cc)

-- a service that answers
pub made-answer : {T : Type 0} (rule : T → Access → T) (before after : Memory) (track track_then : T) (h : Hart) (number given a0 : ℕ) (xs : List ℕ) (answer : Option End) (then_ : Hart)
    → given ≡ register numbers h.registers 10 → (Ok a0, channels_of after) ≡ served numbers number given (channels_of before) → after.segments ≡ before.segments → track_then ≡ track
    → xs ≡ with_register numbers h.registers 10 a0 → IsAt xs (bit_and (register numbers h.registers 1) (2 ^ 64 - 2)) answer then_
    → IsMade rule (λ m. perform numbers plain_storage (state_of h) m (Ok (Service number))) before track answer then_ after track_then
made-answer rule before after track track_then h number given a0 xs answer then_ reads serves same tracks set at = record {
  accesses = [];
  same = λ earlier.
      let m = tracked before earlier in
      let target = bit_and (register numbers h.registers 1) (2 ^ 64 - 2) in
      let left = with_memory (with_channels before (channels_of after)) m in
      ap (λ x. came_to (certain (return_from_service numbers plain_storage (state_of h) (after_service m x).1 (after_service m x).0)))
      (ap (λ given. served numbers number given (channels_of before)) (sym reads) ∙ sym serves)
      ∙ ap (λ ys. came_to (to_target numbers plain_storage ys left target)) (sym set) ∙ at left
      ∙ (λ j. (answered answer then_, tracked (record { segments = sym same j; notes = after.notes; queue = after.queue }) (sym (append-nil earlier) j)));
  track_is = tracks;
}

module _ {T : Type 0} (rule : T → Access → T) (before seen after : Memory) (track fetched_track track_then : T) (h : Hart) (answer : Option End) (then_ : Hart) where
  -- a step is what comes of what was fetched
  pub made-fetched : (found : Result Found End) → found_or_end (fetched before.segments h.pc) ≡ found → seen ≡ before → fetched_track ≡ fold rule track (told Fetch FETCH_BYTES h.pc)
      → IsMade rule (λ m. perform numbers plain_storage (state_of h) m found) seen fetched_track answer then_ after track_then
      → IsMade rule (step numbers plain_storage (state_of h)) before track answer then_ after track_then
  unfolding step
  made-fetched found is same tracks made = record {
    accesses = told Fetch FETCH_BYTES h.pc ++ made.accesses;
    same = λ earlier.
        ap (λ x. came_to (certain (perform numbers plain_storage (state_of h) (tracked before (earlier ++ told Fetch FETCH_BYTES h.pc)) x))) is
        ∙ ap (λ memory. came_to (certain (perform numbers plain_storage (state_of h) (tracked memory (earlier ++ told Fetch FETCH_BYTES h.pc)) found))) (sym same)
        ∙ made.same (earlier ++ told Fetch FETCH_BYTES h.pc)
        ∙ (λ j. (answered answer then_, tracked after (append_assoc earlier (told Fetch FETCH_BYTES h.pc) made.accesses j)));
    track_is = made.track_is ∙ ap (λ t. fold rule t made.accesses) tracks ∙ sym (fold-append rule track (told Fetch FETCH_BYTES h.pc) made.accesses);
  }

-- the service at an address has a number of one
number-few : (at number : ℕ) → service_number at ≡ Some number → number < SERVICES
number-few at number =
    cond_both (nat_le FIRST_SERVICE at && nat_lt at (FIRST_SERVICE + SERVICES * SERVICE_BYTES) && ((at - FIRST_SERVICE) % SERVICE_BYTES == 0)) (Some ((at - FIRST_SERVICE) / SERVICE_BYTES)) None
    (λ x. x ≡ Some number → number < SERVICES)
    (λ there e. let high : at < FIRST_SERVICE + SERVICES * SERVICE_BYTES = grind (arith, nat_tests) in let is : (at - FIRST_SERVICE) / SERVICE_BYTES ≡ number = cc in omega arith)
    (λ away e. absurd cc)

few-or : (at : ℕ) (service : Option ℕ) (found : Result (Segment ℕ) End) (number : ℕ) → (service ≡ Some number → number < SERVICES) → service_or service (word_of at found) ≡ fetch.Service number → number < SERVICES
few-or at (Some k) found number few e = few (let same : k ≡ number = cc in ap Some same)
few-or at None (Ok s) number few e = absurd cc
few-or at None (Err Denied) number few e = absurd cc
few-or at None (Err end) number few e = absurd cc

-- a service that is found has a number of one
pub service-few : (segments : List (Segment ℕ)) (at number : ℕ) → fetched segments at ≡ fetch.Service number → number < SERVICES
unfolding fetched
service-few segments at number =
    cond_both (at == GATE) fetch.Gate (service_or (service_number at) (word_of at (reach Fetch FETCH_BYTES segments at))) (λ x. x ≡ fetch.Service number → number < SERVICES)
    (λ there e. absurd cc)
    (λ away. few-or at (service_number at) (reach Fetch FETCH_BYTES segments at) number (number-few at number))

not-gate : (at : ℕ) (service : Option ℕ) (found : Result (Segment ℕ) End) → service_or service (word_of at found) ≡ fetch.Gate → ⊥
not-gate at (Some k) found e = cc
not-gate at None (Ok s) e = cc
not-gate at None (Err Denied) e = cc
not-gate at None (Err end) e = cc

-- the gate is found there alone
pub gate-there : (segments : List (Segment ℕ)) (at : ℕ) → fetched segments at ≡ fetch.Gate → at ≡ GATE
unfolding fetched
gate-there segments at =
    cond_both (at == GATE) fetch.Gate (service_or (service_number at) (word_of at (reach Fetch FETCH_BYTES segments at))) (λ x. x ≡ fetch.Gate → at ≡ GATE)
    (λ there e. eqb-true at GATE there)
    (λ away e. absurd (not-gate at (service_number at) (reach Fetch FETCH_BYTES segments at) e))
