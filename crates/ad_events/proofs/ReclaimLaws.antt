-- The laws of the joined machine follow from its invariant.
use Rattle.std.proofs.Common.{◌≡◌, ◌≢◌, ◌⊎◌, ℕ, zero, suc, ◌+◌, ◌<◌, ◌≤◌, List, [], ◌∷◌, length, get_or, Some, refl, sym, ap, ◌∙◌, subst, inl, inr, arith, unwrap_or}
use Rattle.std.specs.List.{Contains}
use Rattle.std.proofs.lemmas.Bool.{cases_eq}
use Rattle.ad_events.specs.declared.mapping.Status.{Status}
use Rattle.ad_events.specs.declared.mapping.Status.TheVariants.{Fresh, Current, Out, Retired, Gone}
use Rattle.ad_events.specs.Mapping.{rank_of}
use Rattle.ad_events.specs.World.{status_of}
use Rattle.ad_events.specs.Owed as owing
use Rattle.ad_events.specs.Owed.{Away, Inside, Paying, Seat, Passage, Ahead, Pushed, Settled, seat_at, count_of, last_batch, passage_of, IsOpened, SettledEverywhere, IsIdle, IsInside, IsPaying, owes, WaitsFor, takes_from, answer}
use Rattle.ad_events.specs.Reclaim.{Agent, Worker, Mover, ReclaimState, Step, Enter, Read, Leave, Pay, Map, Switch, Retire, Open, Push, Settle, Unmap, MayUnmap, MayStep, after, reclaim_opening, reclaim_run, MayRun}
use Rattle.ad_events.specs.ReclaimInvariant.{Holds}
use Rattle.ad_events.specs.ReclaimLaws.{maker_of, BringsToZero, IsQuiet, InIsInside, BatchIsTold, NoneAbove, AboveUntilOpen, BatchStays, Pinned, NotGoneInside, ZeroIsNoted, NotedByMaker, NotedStays, EachBroughtOnce, WhoZeroedMayUnmap, OnlyWhoZeroedUnmaps, GoneIsZeroed, NothingLeft, LeftByOwnSteps, UnmapsItsOwn, LeaveReturns, RetireReturns, QuietIsGone, events_of, owing_steps_of}
use Rattle.ad_events.proofs.OwedReads.{last-after, slots-after, settle-passage, last-opened, idle-from_last}
use Rattle.ad_events.proofs.OwingFacts.{settled-after}
use Rattle.ad_events.proofs.OwedLaws.{waits-entry, zero_is_done, quiet_is_zero}
use Rattle.ad_events.proofs.Zeros.{one_zero, no_zero}
use Rattle.ad_events.proofs.WorldLaws.{none_gone_inside, never_back, gone_once}
use Rattle.ad_events.proofs.WorldReads.{unmap-here}
use Rattle.ad_events.proofs.Functions.{changed-here, changed-else, some≢none, option-cases}
use Rattle.ad_events.proofs.WorldLemmas.{status≢}
use Rattle.ad_events.proofs.ReclaimSteps.{noted-cases, note-stays, unmap-lawful, Holds-after}
use Rattle.ad_events.proofs.ReclaimRuns.{Holds-run, Holds-opening, lawful-in_both, owed-after, lawful-run, world-run, may-run, owed-run}

-- ---- who is in

pub in_is_inside : (j : ReclaimState) → Holds j → InIsInside j
in_is_inside j h i = (h.in_inside i, h.inside_in i)

-- ---- the batch of a mapping

pub batch_is_told : (j : ReclaimState) → Holds j → BatchIsTold j
batch_is_told j h = record { listed = λ p. (h.listed p, λ is. h.told p is.0 is.1); numbered = h.numbered }

-- a step of what is owed lets no mapping be above
none-owing : (j : ReclaimState) → Holds j → (x : owing.Step) → owing.MayStep j.owed x → NoneAbove j → (p b : ℕ) → j.batch p ≡ Some b → b ≤ last_batch (owing.after j.owed x)
none-owing j h x may none p b is = let last = last-after j.owed h.owed x may in let most = none p b is in omega arith

pub above_until_open : (j : ReclaimState) → Holds j → AboveUntilOpen j
above_until_open j h = record { begins = begins; ends = ends }
  where
    begins : NoneAbove j → (x : Step) → MayStep j x → NoneAbove (after j x) ⊎ ((p : ℕ) × (x ≡ Retire p))
    begins none (Enter i s) may = inl (none-owing j h (owing.Enter i s) may none)
    begins none (Read i m p) may = inl none
    begins none (Leave i) may = inl (none-owing j h (owing.Leave i) (lawful-in_both j h (Leave i) may).1 none)
    begins none (Pay i) may = inl (none-owing j h (owing.Pay i) may none)
    begins none (Map m p) may = inl none
    begins none (Switch m p) may = inl none
    begins none (Retire p) may = inr (p, refl)
    begins none Open may = inl (none-owing j h owing.Open may none)
    begins none (Push s) may = inl (none-owing j h (owing.Push s) may none)
    begins none (Settle s) may = inl (none-owing j h (owing.Settle s) may none)
    begins none (Unmap p a) may = inl none

    ends : MayStep j Open → NoneAbove (after j Open)
    ends may p b is = let last = last-after j.owed h.owed owing.Open may in let most = (h.numbered p b is).1 in omega arith

-- one step keeps a batch that is told
pub batch-after : (j : ReclaimState) → Holds j → (x : Step) → MayStep j x → (p b : ℕ) → j.batch p ≡ Some b → (after j x).batch p ≡ Some b
batch-after j h (Enter i s) may p b is = is
batch-after j h (Read i m q) may p b is = is
batch-after j h (Leave i) may p b is = is
batch-after j h (Pay i) may p b is = is
batch-after j h (Map m q) may p b is = is
batch-after j h (Switch m q) may p b is = is
batch-after j h (Retire q) lawful p b is =
    elim (cases_eq p q) [
      | inl e ↦
          absurd (elim (h.told p b is) [
            | inl retired ↦ status≢ Out Retired rank_of (λ same. absurd (omega arith)) (sym lawful ∙ ap (status_of j.world) (sym e) ∙ retired)
            | inr gone ↦ status≢ Out Gone rank_of (λ same. absurd (omega arith)) (sym lawful ∙ ap (status_of j.world) (sym e) ∙ gone)
          ])
      | inr apart ↦ changed-else j.batch q (Some (last_batch j.owed + 1)) p apart ∙ is
    ]
batch-after j h Open may p b is = is
batch-after j h (Push s) may p b is = is
batch-after j h (Settle s) may p b is = is
batch-after j h (Unmap q a) may p b is = is

pub batch_stays : (j : ReclaimState) → Holds j → BatchStays j
batch_stays j h more may p b is = go j h more may p b is
  where
    go : (j : ReclaimState) → Holds j → (more : List Step) → MayRun j more → (p b : ℕ) → j.batch p ≡ Some b → (reclaim_run j more).batch p ≡ Some b
    go j h [] may p b is = is
    go j h (x ∷ more) may p b is = go (after j x) (Holds-after j h x may.0) more may.1 p b (batch-after j h x may.0 p b is)

-- a batch that was opened before a step gets no mapping in it
pub batch-before : (j : ReclaimState) (x : Step) (p b : ℕ) → b ≤ last_batch j.owed → (after j x).batch p ≡ Some b → j.batch p ≡ Some b
batch-before j (Enter i s) p b within is = is
batch-before j (Read i m q) p b within is = is
batch-before j (Leave i) p b within is = is
batch-before j (Pay i) p b within is = is
batch-before j (Map m q) p b within is = is
batch-before j (Switch m q) p b within is = is
batch-before j (Retire q) p b within is =
    let next = last_batch j.owed + 1 in
    elim (cases_eq p q) [
      | inl e ↦ let same = ap (λ o. unwrap_or o b) (sym is ∙ changed-here j.batch q (Some next) p e) in absurd (omega arith)
      | inr apart ↦ sym (changed-else j.batch q (Some next) p apart) ∙ is
    ]
batch-before j Open p b within is = is
batch-before j (Push s) p b within is = is
batch-before j (Settle s) p b within is = is
batch-before j (Unmap q a) p b within is = is

-- a batch that was opened stays opened
pub opened-step : (j : ReclaimState) → Holds j → (x : Step) → MayStep j x → (b : ℕ) → b ≤ last_batch j.owed → b ≤ last_batch (after j x).owed
opened-step j h x may b within = owed-after j h (λ w. b ≤ last_batch w) within (λ y may_owe. let last = last-after j.owed h.owed y may_owe in omega arith) x may

-- in a run
batch-earlier : (j : ReclaimState) → Holds j → (more : List Step) → MayRun j more → (p b : ℕ) → b ≤ last_batch j.owed → (reclaim_run j more).batch p ≡ Some b → j.batch p ≡ Some b
batch-earlier j h [] may p b within is = is
batch-earlier j h (x ∷ more) may p b within is =
    batch-before j x p b within (batch-earlier (after j x) (Holds-after j h x may.0) more may.1 p b (opened-step j h x may.0 b within) is)

-- ---- a worker pins its mapping

pub pinned : (j : ReclaimState) → Holds j → Pinned j
pinned j h i p b found is =
    record {
      waits = h.pinned i p b found is;
      entry = λ s entry seat. waits-entry j.owed h.owed i s entry b seat (h.numbered p b is).0 (h.pinned i p b found is);
    }

pub not_gone_inside : (j : ReclaimState) → Holds j → NotGoneInside j
not_gone_inside j h i p found = (h.world.fits.held i p found, none_gone_inside j.world h.world i p found)

-- ---- a count at zero

pub zero_is_noted : (j : ReclaimState) → Holds j → ZeroIsNoted j
zero_is_noted j h =
    record {
      zero = λ b opened. (h.zero b opened, λ is. (h.zeroed b is).1);
      done = λ b is. (let zero = h.zeroed b is in let done = (zero_is_done j.owed h.owed b zero.0).0 zero.1 in (zero.0, done.0, done.1));
    }

pub noted_by_maker : (j : ReclaimState) → Holds j → NotedByMaker j
noted_by_maker j h (Enter i s) may b a none is = absurd (some≢none a (sym is ∙ none))
noted_by_maker j h (Read i m p) may b a none is = absurd (some≢none a (sym is ∙ none))
noted_by_maker j h (Leave i) may b a none is = absurd (some≢none a (sym is ∙ none))
noted_by_maker j h (Pay i) may b a none is =
    let x = owing.Pay i in
    elim (noted-cases j.zeroed (takes_from j.owed x) (Worker i) (answer j.owed x) b) [
      | inl new ↦ (ap (λ o. unwrap_or o a) (sym new.2 ∙ is), (x, refl, tt, sym new.1, new.0))
      | inr same ↦ absurd (some≢none a (sym is ∙ same ∙ none))
    ]
noted_by_maker j h (Map m p) may b a none is = absurd (some≢none a (sym is ∙ none))
noted_by_maker j h (Switch m p) may b a none is = absurd (some≢none a (sym is ∙ none))
noted_by_maker j h (Retire p) may b a none is = absurd (some≢none a (sym is ∙ none))
noted_by_maker j h Open may b a none is = absurd (some≢none a (sym is ∙ none))
noted_by_maker j h (Push s) may b a none is = absurd (some≢none a (sym is ∙ none))
noted_by_maker j h (Settle s) may b a none is =
    let x = owing.Settle s in
    elim (noted-cases j.zeroed (takes_from j.owed x) Mover (answer j.owed x) b) [
      | inl new ↦ (ap (λ o. unwrap_or o a) (sym new.2 ∙ is), (x, refl, tt, sym new.1, new.0))
      | inr same ↦ absurd (some≢none a (sym is ∙ same ∙ none))
    ]
noted_by_maker j h (Unmap p c) may b a none is = absurd (some≢none a (sym is ∙ none))

pub noted-after : (j : ReclaimState) → Holds j → (x : Step) → MayStep j x → (b : ℕ) (a : Agent) → j.zeroed b ≡ Some a → (after j x).zeroed b ≡ Some a
noted-after j h (Enter i s) may b a is = is
noted-after j h (Read i m p) may b a is = is
noted-after j h (Leave i) may b a is = is
noted-after j h (Pay i) may b a is = note-stays j.owed h.owed j.zeroed (h.zero, h.zeroed) (owing.Pay i) may tt (Worker i) b a is
noted-after j h (Map m p) may b a is = is
noted-after j h (Switch m p) may b a is = is
noted-after j h (Retire p) may b a is = is
noted-after j h Open may b a is = is
noted-after j h (Push s) may b a is = is
noted-after j h (Settle s) may b a is = note-stays j.owed h.owed j.zeroed (h.zero, h.zeroed) (owing.Settle s) may tt Mover b a is
noted-after j h (Unmap p c) may b a is = is

noted-run : (j : ReclaimState) → Holds j → (more : List Step) → MayRun j more → (b : ℕ) (a : Agent) → j.zeroed b ≡ Some a → (reclaim_run j more).zeroed b ≡ Some a
noted-run j h [] may b a is = is
noted-run j h (x ∷ more) may b a is = noted-run (after j x) (Holds-after j h x may.0) more may.1 b a (noted-after j h x may.0 b a is)

pub noted_stays : (j : ReclaimState) → Holds j → NotedStays j
noted_stays j h more may b a is = noted-run j h more may b a is

pub each_brought_once : EachBroughtOnce
each_brought_once slots workers current steps sized differ may =
    let j = reclaim_opening slots workers current in
    let h = Holds-opening slots workers current sized differ in
    let k = reclaim_run j steps in
    let at = Holds-run j h steps may in
    let same = owed-run j steps in
    let xs = may-run j h steps may in
    record {
      one = λ b is. (let zero = at.zeroed b is in one_zero slots workers (owing_steps_of steps) sized xs b (subst (λ w. IsOpened w b) same zero.0) (ap (λ w. count_of w b) (sym same) ∙ zero.1));
      none = λ b opened not. no_zero slots workers (owing_steps_of steps) sized xs b (subst (λ w. IsOpened w b) same opened) (λ zero. not (at.zero b opened (ap (λ w. count_of w b) same ∙ zero)));
    }

pub who_zeroed_may_unmap : (j : ReclaimState) → Holds j → WhoZeroedMayUnmap j
who_zeroed_may_unmap j h p b a listed is there =
    let may : MayUnmap j p a = record { batch = b; listed = listed; brought = is; there = there } in
    (may, unmap-lawful j h p a may)

pub only_who_zeroed_unmaps : (j : ReclaimState) → Holds j → OnlyWhoZeroedUnmaps j
only_who_zeroed_unmaps j h p a may =
    let zero = h.zeroed may.batch (a, may.brought) in (
      may.batch,
      may.listed,
      zero.0,
      zero.1,
      λ c other.
          (let same : other.batch ≡ may.batch = ap (λ o. unwrap_or o other.batch) (sym other.listed ∙ may.listed) in
          ap (λ o. unwrap_or o c) (sym other.brought ∙ ap j.zeroed same ∙ may.brought)),
    )

-- ---- what is left to free

pub gone_is_zeroed : (j : ReclaimState) → Holds j → GoneIsZeroed j
gone_is_zeroed j h p gone =
    let told = h.listed p (inr gone) in
    let is = h.gone p told.0 gone told.1 in
    (told.0, told.1, (h.zeroed told.0 is).0, is)

-- what is gone stays gone
last-rank : (s : Status) → 4 ≤ rank_of s → s ≡ Gone
last-rank Fresh l = absurd (omega arith)
last-rank Current l = absurd (omega arith)
last-rank Out l = absurd (omega arith)
last-rank Retired l = absurd (omega arith)
last-rank Gone l = refl

pub gone-stays : (j : ReclaimState) → Holds j → (more : List Step) → MayRun j more → (p : ℕ) → status_of j.world p ≡ Some Gone → status_of (reclaim_run j more).world p ≡ Some Gone
gone-stays j h more may p gone =
    let back = never_back j.world h.world (events_of more) (lawful-run j h more may) p Gone gone in
    ap (λ w. status_of w p) (world-run j more) ∙ back.1 ∙ ap (λ s. Some s) (last-rank back.0 back.2)

-- what a run unmaps is gone at its end
unmapped-gone : (j : ReclaimState) → Holds j → (more : List Step) → MayRun j more → (p : ℕ) (a : Agent) → Contains more (Unmap p a) → status_of (reclaim_run j more).world p ≡ Some Gone
unmapped-gone j h more may p a found = go j h more may found.0 found.1 found.2
  where
    go : (j : ReclaimState) → Holds j → (more : List Step) → MayRun j more → (k : ℕ) → k < length more → get_or more k (Unmap p a) ≡ Unmap p a → status_of (reclaim_run j more).world p ≡ Some Gone
    go j h [] may k l e = absurd (omega arith)
    go j h (x ∷ more) may zero l e =
        let here : MayStep j (Unmap p a) = subst (MayStep j) e may.0 in
        let gone = unmap-here j.world p (unmap-lawful j h p a here) p refl in
        gone-stays (after j x) (Holds-after j h x may.0) more may.1 p (ap (λ y. status_of (after j y).world p) e ∙ gone)
    go j h (x ∷ more) may (suc k) l e = go (after j x) (Holds-after j h x may.0) more may.1 k (omega arith) e

-- an agent that unmaps its own has nothing left again
pub nothing-left : (j : ReclaimState) → Holds j → (more : List Step) → MayRun j more → (a : Agent) → NothingLeft j a → UnmapsItsOwn j more a → NothingLeft (reclaim_run j more) a
nothing-left j h more may a free unmaps p b listed is =
    elim (option-cases (j.zeroed b)) [
      | inl none ↦ unmapped-gone j h more may p a (unmaps p b listed none is)
      | inr was ↦
          let same : was.0 ≡ a = ap (λ o. unwrap_or o a) (sym (noted-run j h more may b was.0 was.1) ∙ is) in
          let opened = (h.zeroed b was).0 in
          let before = batch-earlier j h more may p b opened.within listed in
          gone-stays j h more may p (free p b before (was.1 ∙ ap (λ c. Some c) same))
    ]

-- what an agent has to free after a step it had to before, or it is the maker of the step that brought the batch to zero
left-after : (j : ReclaimState) → Holds j → (x : Step) → MayStep j x → (a : Agent) (p c : ℕ) → (after j x).batch p ≡ Some c → (after j x).zeroed c ≡ Some a
    → ((maker_of x ≡ a) × BringsToZero j x c) ⊎ ((j.batch p ≡ Some c) × (j.zeroed c ≡ Some a))
left-after j h x may a p c listed is =
    elim (option-cases (j.zeroed c)) [
      | inl none ↦ inl (noted_by_maker j h x may c a none is)
      | inr was ↦
          let same : was.0 ≡ a = ap (λ o. unwrap_or o a) (sym (noted-after j h x may c was.0 was.1) ∙ is) in
          inr (batch-before j x p c (h.zeroed c was).0.within listed, was.1 ∙ ap (λ d. Some d) same)
    ]

pub gone-after : (j : ReclaimState) → Holds j → (x : Step) → MayStep j x → (p : ℕ) → status_of j.world p ≡ Some Gone → status_of (after j x).world p ≡ Some Gone
gone-after j h x may p gone = gone-stays j h (x ∷ []) (may, tt) p gone

-- a step brings one batch to zero at most
brings-one : (j : ReclaimState) (x : Step) (b c : ℕ) → BringsToZero j x b → BringsToZero j x c → c ≡ b
brings-one j x b c one two =
    let same : two.0 ≡ one.0 = ap (λ o. unwrap_or o two.0) (sym two.1 ∙ one.1) in
    sym two.3 ∙ ap (takes_from j.owed) same ∙ one.3

pub left_by_own_steps : (j : ReclaimState) → Holds j → LeftByOwnSteps j
left_by_own_steps j h =
    record {
      nothing = λ a x may not free p c listed is.
          elim (left-after j h x may a p c listed is) [ inl new ↦ absurd (not c new.1 new.0) | inr old ↦ gone-after j h x may p (free p c old.0 old.1) ];
      brought = λ a x may b brings free p c listed is apart.
          elim (left-after j h x may a p c listed is) [ inl new ↦ absurd (apart (brings-one j x b c brings new.1)) | inr old ↦ gone-after j h x may p (free p c old.0 old.1) ];
      but = λ a x may not b free p c listed is apart.
          elim (left-after j h x may a p c listed is) [ inl new ↦ absurd (not c new.1 new.0) | inr old ↦ gone-after j h x may p (free p c old.0 old.1 apart) ];
      done = λ a b free gone p c listed is.
          elim (cases_eq c b) [ inl e ↦ gone p (listed ∙ ap (λ n. Some n) e) | inr apart ↦ free p c listed is apart ];
    }

-- a seat that isn't inside and has nothing to pay is away
away-of : (seat : Seat) → (IsInside seat → ⊥) → (IsPaying seat → ⊥) → seat ≡ Away
away-of Away inside paying = refl
away-of (Inside s entry) inside paying = absurd (inside (s, entry, refl))
away-of (Paying s paid last) inside paying = absurd (paying (s, paid, last, refl))

pub leave_returns : (j : ReclaimState) → Holds j → LeaveReturns j
leave_returns j h i more may free unmaps out paid =
    let k = reclaim_run j more in
    let at = Holds-run j h more may in
    let away = away-of (seat_at k.owed i) (λ is. out (at.inside_in i is)) paid in
    ((λ b. ap (owes k.owed b) away), nothing-left j h more may (Worker i) free unmaps)

-- ---- a batch that is settled on a slot stays so

settled-step : (j : ReclaimState) → Holds j → (x : Step) → MayStep j x → (b s : ℕ) → IsOpened j.owed b → passage_of j.owed b s ≡ Settled → passage_of (after j x).owed b s ≡ Settled
settled-step j h x may b s opened is = owed-after j h (λ w. passage_of w b s ≡ Settled) is (λ y may_owe. settled-after j.owed h.owed y may_owe b s opened is) x may

settled-run : (j : ReclaimState) → Holds j → (more : List Step) → MayRun j more → (b s : ℕ) → IsOpened j.owed b → passage_of j.owed b s ≡ Settled → passage_of (reclaim_run j more).owed b s ≡ Settled
settled-run j h [] may b s opened is = is
settled-run j h (x ∷ more) may b s opened is =
    settled-run (after j x) (Holds-after j h x may.0) more may.1 b s (record { positive = opened.positive; within = opened-step j h x may.0 b opened.within }) (settled-step j h x may.0 b s opened is)

-- without an open the mover's batch stays the same
last-step : (j : ReclaimState) → Holds j → (x : Step) → MayStep j x → x ≢ Open → last_batch (after j x).owed ≡ last_batch j.owed
last-step j h (Enter i s) may not = let last = last-after j.owed h.owed (owing.Enter i s) may in omega arith
last-step j h (Read i m p) may not = refl
last-step j h (Leave i) may not = let last = last-after j.owed h.owed (owing.Leave i) (lawful-in_both j h (Leave i) may).1 in omega arith
last-step j h (Pay i) may not = let last = last-after j.owed h.owed (owing.Pay i) may in omega arith
last-step j h (Map m p) may not = refl
last-step j h (Switch m p) may not = refl
last-step j h (Retire p) may not = refl
last-step j h Open may not = absurd (not refl)
last-step j h (Push s) may not = let last = last-after j.owed h.owed (owing.Push s) may in omega arith
last-step j h (Settle s) may not = let last = last-after j.owed h.owed (owing.Settle s) may in omega arith
last-step j h (Unmap p a) may not = refl

last-run : (j : ReclaimState) → Holds j → (more : List Step) → MayRun j more → (Contains more Open → ⊥) → last_batch (reclaim_run j more).owed ≡ last_batch j.owed
last-run j h [] may not = refl
last-run j h (x ∷ more) may not =
    last-run (after j x) (Holds-after j h x may.0) more may.1 (λ found. not (suc found.0, (let l = found.1 in omega arith), found.2))
    ∙ last-step j h x may.0 (λ e. not (0, omega arith, e))

slots-step : (j : ReclaimState) → Holds j → (x : Step) → MayStep j x → length (after j x).owed.slots ≡ length j.owed.slots
slots-step j h x may = owed-after j h (λ w. length w.slots ≡ length j.owed.slots) refl (λ y may_owe. slots-after j.owed y may_owe) x may

slots-run : (j : ReclaimState) → Holds j → (more : List Step) → MayRun j more → length (reclaim_run j more).owed.slots ≡ length j.owed.slots
slots-run j h [] may = refl
slots-run j h (x ∷ more) may = slots-run (after j x) (Holds-after j h x may.0) more may.1 ∙ slots-step j h x may.0

-- a slot that the mover settles in a run without an open is settled at its end
settles : (j : ReclaimState) → Holds j → (more : List Step) → MayRun j more → (Contains more Open → ⊥) → (s k : ℕ) → k < length more → get_or more k (Settle s) ≡ Settle s → passage_of (reclaim_run j more).owed (last_batch j.owed) s ≡ Settled
settles j h [] may not s k l e = absurd (omega arith)
settles j h (x ∷ more) may not s zero l e =
    let here : MayStep j (Settle s) = subst (MayStep j) e may.0 in
    let opened = last-opened j.owed here.opened in
    settled-run (after j x) (Holds-after j h x may.0) more may.1 (last_batch j.owed) s (record { positive = opened.positive; within = opened-step j h x may.0 (last_batch j.owed) opened.within })
    (ap (λ y. passage_of (after j y).owed (last_batch j.owed) s) e ∙ settle-passage j.owed h.owed s here)
settles j h (x ∷ more) may not s (suc k) l e =
    let same = last-step j h x may.0 (λ e. not (0, omega arith, e)) in
    ap (λ b. passage_of (reclaim_run (after j x) more).owed b s) (sym same)
    ∙ settles (after j x) (Holds-after j h x may.0) more may.1 (λ found. not (suc found.0, (let l' = found.1 in omega arith), found.2)) s k (omega arith) e

pub retire_returns : (j : ReclaimState) → Holds j → RetireReturns j
retire_returns j h more may not each =
    let k = reclaim_run j more in
    let at = Holds-run j h more may in
    let slots = slots-run j h more may in
    let settled : SettledEverywhere k.owed (last_batch j.owed) = λ s l. (let found = each s (omega arith) in settles j h more may not s found.0 found.1 found.2) in
    let last = last-run j h more may not in
    (settled, idle-from_last k.owed at.owed (λ _. subst (SettledEverywhere k.owed) (sym last) settled), nothing-left j h more may Mover)

-- ---- quiet

-- where all is quiet, what is listed is gone
pub quiet-gone : (j : ReclaimState) → Holds j → IsQuiet j → (p b : ℕ) → j.batch p ≡ Some b → status_of j.world p ≡ Some Gone
quiet-gone j h quiet p b listed =
    let opened : IsOpened j.owed b = record { positive = (h.numbered p b listed).0; within = quiet.none_above p b listed } in
    let is = h.zero b opened (quiet_is_zero j.owed h.owed quiet.away quiet.idle b opened) in
    quiet.nothing_left is.0 p b listed is.1

pub quiet_is_gone : QuietIsGone
quiet_is_gone slots workers current steps sized differ may quiet =
    let j = reclaim_opening slots workers current in
    let h = Holds-opening slots workers current sized differ in
    let k = reclaim_run j steps in
    let at = Holds-run j h steps may in
    record {
      none_retired = λ p retired.
          (let told = at.listed p (inl retired) in
          status≢ Retired Gone rank_of (λ same. absurd (omega arith)) (sym retired ∙ quiet-gone k at quiet p told.0 told.1));
      gone = λ p b listed.
          (let is = quiet-gone k at quiet p b listed in
          (is, gone_once workers current (events_of steps) differ (lawful-run j h steps may) p (ap (λ w. status_of w p) (sym (world-run j steps)) ∙ is)));
    }
