-- Runs of the joined machine: the invariant, the runs of the two machines, and what a run keeps.
use Rattle.std.proofs.Common.{◌≡◌, ℕ, List, [], ◌∷◌, Option, Some, None, refl, sym, ap, ◌∙◌, inl, inr, arith, true≢false}
use Rattle.std.specs.List.{cons_option}
use Rattle.std.specs.Option.{option_map, is_some}
use Rattle.std.proofs.lemmas.List.{length-replicate}
use Rattle.std.specs.FinMap as map
use Rattle.ad_events.specs.declared.mapping.Status.TheVariants.{Current}
use Rattle.ad_events.specs.declared.event.Event.{Event}
use Rattle.ad_events.specs.World.{EventWorld, AllDiffer, world_opening}
use Rattle.ad_events.specs.WorldLaws as worlds
use Rattle.ad_events.specs.Owed as owing
use Rattle.ad_events.specs.Owed.{last_batch, seat_at, IsOpened}
use Rattle.ad_events.specs.OwedInvariant as owed
use Rattle.ad_events.specs.Reclaim.{ReclaimState, Step, Enter, Read, Leave, Pay, Map, Switch, Retire, Open, Push, Settle, Unmap, event_of, owing_of, world_after, owed_after, MayStep, after, reclaim_opening, reclaim_run, MayRun}
use Rattle.ad_events.specs.ReclaimInvariant.{IsIn, IsListed, Holds}
use Rattle.ad_events.specs.ReclaimLaws.{AfterEveryRun, LawfulIfSome, MayIfSome, LawfulInBoth, events_of, owing_steps_of, EachRunsBoth}
use Rattle.ad_events.proofs.OwedWrites.{inside-away}
use Rattle.ad_events.proofs.OwedRuns.{Holds-opening as owed_opening, opening-away, no_batch}
use Rattle.ad_events.proofs.WorldLaws.{IsWorld-opening}
use Rattle.ad_events.proofs.WorldReads.{opening-has}
use Rattle.ad_events.proofs.RunLemmas.{run-keeps}
use Rattle.ad_events.proofs.Functions.{some≢none, option-cases}
use Rattle.ad_events.proofs.ReclaimSteps.{Holds-after, enter-lawful, leave-inside, unmap-lawful, not-listed, absent-listed}

pub Holds-run : (j : ReclaimState) → Holds j → (xs : List Step) → MayRun j xs → Holds (reclaim_run j xs)
Holds-run j h xs may = run-keeps MayStep after Holds Holds-after j h xs may

-- ---- the opening

-- no mapping is retired or gone
opening-listed : (workers : ℕ) (current : List ℕ) → AllDiffer current → (p : ℕ) → IsListed (world_opening workers current) p → ⊥
opening-listed workers current differ p listed =
    let w = world_opening workers current in
    elim (option-cases (map.get w.mappings p)) [
      | inl none ↦ absent-listed w p none listed
      | inr found ↦
          let given = (opening-has workers current differ).no_other p found.0 found.1 in
          not-listed w p Current (ap (option_map (λ x. x.status)) (found.1 ∙ ap (λ x. Some x) given.3)) (omega arith) listed
    ]

-- nobody is in
opening-out : (workers : ℕ) (current : List ℕ) → AllDiffer current → (i : ℕ) → IsIn (world_opening workers current) i → ⊥
opening-out workers current differ i within =
    let has = opening-has workers current differ in
    elim within [
      | inl entered ↦ true≢false (sym entered ∙ has.nobody_entered i)
      | inr inside ↦ true≢false (sym inside ∙ ap is_some (has.nobody_inside i))
    ]

pub Holds-opening : (slots workers : ℕ) (current : List ℕ) → owed.IsSized slots workers → AllDiffer current → Holds (reclaim_opening slots workers current)
Holds-opening slots workers current sized differ =
    let none = opening-listed workers current differ in
    record {
      world = IsWorld-opening workers current differ;
      owed = owed_opening slots workers sized;
      workers = sym (length-replicate workers owing.Away);
      in_inside = λ i within. absurd (opening-out workers current differ i within);
      inside_in = λ i is. absurd (inside-away (seat_at (owing.owed_opening slots workers) i) is.0 is.1 is.2 (opening-away slots workers i));
      listed = λ p is. absurd (none p is);
      told = λ p b is. absurd (some≢none b (sym is));
      numbered = λ p b is. absurd (some≢none b (sym is));
      pinned = λ i p b found is. absurd (some≢none b (sym is));
      gone = λ p b gone is. absurd (some≢none b (sym is));
      zero = λ b opened zero. absurd (no_batch slots workers b opened);
      zeroed = λ b is. absurd (some≢none is.0 (sym is.1));
    }

-- what holds wherever the invariant does holds after every run
pub after_every_run : (Law : ReclaimState → Type 0) → ((j : ReclaimState) → Holds j → Law j) → AfterEveryRun Law
after_every_run Law law slots workers current steps sized differ may =
    law _ (Holds-run (reclaim_opening slots workers current) (Holds-opening slots workers current sized differ) steps may)

-- ---- the runs of the two machines

pub lawful-in_both : (j : ReclaimState) → Holds j → LawfulInBoth j
lawful-in_both j h (Enter i s) may = (enter-lawful j h i s may, may)
lawful-in_both j h (Read i m p) may = (may, tt)
lawful-in_both j h (Leave i) may = (may, leave-inside j h i may)
lawful-in_both j h (Pay i) may = (tt, may)
lawful-in_both j h (Map m p) may = (may, tt)
lawful-in_both j h (Switch m p) may = (may, tt)
lawful-in_both j h (Retire p) may = (may, tt)
lawful-in_both j h Open may = (tt, may)
lawful-in_both j h (Push s) may = (tt, may)
lawful-in_both j h (Settle s) may = (tt, may)
lawful-in_both j h (Unmap p a) may = (unmap-lawful j h p a may, tt)

-- what holds of what is owed, and after each step of it that may be made, holds after each step
pub owed-after : (j : ReclaimState) → Holds j → (P : owing.State → Type 0) → P j.owed → ((y : owing.Step) → owing.MayStep j.owed y → P (owing.after j.owed y)) → (x : Step) → MayStep j x → P (after j x).owed
owed-after j h P same step x may = either (owing_of x) (lawful-in_both j h x may).1
  where
    either : (o : Option owing.Step) → MayIfSome j.owed o → P (owed_after j.owed o)
    either None none = same
    either (Some y) may_owe = step y may_owe

lawful-cons : (w : EventWorld) (o : Option Event) (es : List Event) → LawfulIfSome w o → worlds.AllLawful (world_after w o) es → worlds.AllLawful w (cons_option o es)
lawful-cons w None es lawful rest = rest
lawful-cons w (Some e) es lawful rest = (lawful, rest)

world-cons : (w : EventWorld) (o : Option Event) (es : List Event) → worlds.world_run (world_after w o) es ≡ worlds.world_run w (cons_option o es)
world-cons w None es = refl
world-cons w (Some e) es = refl

may-cons : (w : owing.State) (o : Option owing.Step) (xs : List owing.Step) → MayIfSome w o → owing.MayRun (owed_after w o) xs → owing.MayRun w (cons_option o xs)
may-cons w None xs may rest = rest
may-cons w (Some x) xs may rest = (may, rest)

owed-cons : (w : owing.State) (o : Option owing.Step) (xs : List owing.Step) → owing.owed_run (owed_after w o) xs ≡ owing.owed_run w (cons_option o xs)
owed-cons w None xs = refl
owed-cons w (Some x) xs = refl

pub lawful-run : (j : ReclaimState) → Holds j → (xs : List Step) → MayRun j xs → worlds.AllLawful j.world (events_of xs)
lawful-run j h [] may = tt
lawful-run j h (x ∷ xs) may = lawful-cons j.world (event_of x) (events_of xs) (lawful-in_both j h x may.0).0 (lawful-run (after j x) (Holds-after j h x may.0) xs may.1)

pub world-run : (j : ReclaimState) (xs : List Step) → (reclaim_run j xs).world ≡ worlds.world_run j.world (events_of xs)
world-run j [] = refl
world-run j (x ∷ xs) = world-run (after j x) xs ∙ world-cons j.world (event_of x) (events_of xs)

pub may-run : (j : ReclaimState) → Holds j → (xs : List Step) → MayRun j xs → owing.MayRun j.owed (owing_steps_of xs)
may-run j h [] may = tt
may-run j h (x ∷ xs) may = may-cons j.owed (owing_of x) (owing_steps_of xs) (lawful-in_both j h x may.0).1 (may-run (after j x) (Holds-after j h x may.0) xs may.1)

pub owed-run : (j : ReclaimState) (xs : List Step) → (reclaim_run j xs).owed ≡ owing.owed_run j.owed (owing_steps_of xs)
owed-run j [] = refl
owed-run j (x ∷ xs) = owed-run (after j x) xs ∙ owed-cons j.owed (owing_of x) (owing_steps_of xs)

pub each-runs_both : EachRunsBoth
each-runs_both slots workers current steps sized differ may =
    let j = reclaim_opening slots workers current in
    let h = Holds-opening slots workers current sized differ in
    record { lawful = lawful-run j h steps may; world = world-run j steps; may = may-run j h steps may; owed = owed-run j steps }
