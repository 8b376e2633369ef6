-- What the worked examples of the joined machine show.
use Rattle.std.proofs.Common.{◌≡◌, ℕ, true, List, Some, None, sym, ap, ◌∙◌, arith, true≢false, unwrap_or}
use Rattle.std.specs.Option.{option_map}
use Rattle.std.specs.FinMap as map
use Rattle.ad_events.specs.declared.mapping.Status.TheVariants.{Retired, Gone}
use Rattle.ad_events.specs.Mapping.{rank_of}
use Rattle.ad_events.specs.World.{EventWorld, status_of}
use Rattle.ad_events.specs.Owed.{seat_at, owes}
use Rattle.ad_events.specs.Reclaim.{Agent, ReclaimState, Step, MayRun, reclaim_opening, reclaim_run}
use Rattle.ad_events.specs.ReclaimLaws.{NotGoneInside, WhoZeroedMayUnmap, GoneIsZeroed, ZeroIsNoted, events_of}
use Rattle.ad_events.proofs.Pictures.{Picture, Shows, opening_picture, picture_run, shows-opening, shows-run, may_run, MayRun-tested}
use Rattle.ad_events.proofs.Functions.{some≢none}
use Rattle.ad_events.proofs.WorldLemmas.{status≢}

-- the status that a world shows
pub status-shown : (w : EventWorld) (v : Picture) → Shows w v → (p : ℕ) → status_of w p ≡ option_map (λ x. x.status) (v.mapping p)
status-shown w v s p = ap (option_map (λ x. x.status)) (s.mapping p)

-- ---- runs from an opening

module _ (slots workers : ℕ) (current : List ℕ) (xs : List Step) where
  pub shown : Shows (reclaim_run (reclaim_opening slots workers current) xs).world (picture_run (opening_picture current) (events_of xs))
  shown = shows-run (reclaim_opening slots workers current) (opening_picture current) (shows-opening workers current) xs

  pub possible : may_run (reclaim_opening slots workers current) (opening_picture current) xs ≡ true → MayRun (reclaim_opening slots workers current) xs
  possible e = MayRun-tested (reclaim_opening slots workers current) (opening_picture current) (shows-opening workers current) xs e

-- ---- what breaks a law

-- somebody is inside a mapping that is gone
pub gone-inside : (j : ReclaimState) (i p : ℕ) → map.get j.world.inside i ≡ Some p → status_of j.world p ≡ Some Gone → NotGoneInside j → ⊥
gone-inside j i p inside gone law = (law i p inside).1 gone

-- a mapping is gone whose batch nobody brought to zero
pub gone-unzeroed : (j : ReclaimState) (p b : ℕ) → status_of j.world p ≡ Some Gone → j.batch p ≡ Some b → j.zeroed b ≡ None → GoneIsZeroed j → ⊥
gone-unzeroed j p b gone listed none law =
    let is = law p gone in
    let same : b ≡ is.0 = ap (λ o. unwrap_or o b) (sym listed ∙ is.1) in
    some≢none is.3.0 (sym is.3.1 ∙ ap j.zeroed (sym same) ∙ none)

-- somebody is inside a retired mapping whose batch is noted as brought to zero
pub freed-inside : (j : ReclaimState) (i p b : ℕ) (a : Agent) → map.get j.world.inside i ≡ Some p → status_of j.world p ≡ Some Retired → j.batch p ≡ Some b → j.zeroed b ≡ Some a → WhoZeroedMayUnmap j → ⊥
freed-inside j i p b a inside retired listed is law = (law p b a listed is (λ gone. status≢ Retired Gone rank_of (λ e. absurd (omega arith)) (sym retired ∙ gone))).1.1 i inside

-- somebody owes a batch that is noted as brought to zero
pub owed-zeroed : (j : ReclaimState) (i b : ℕ) (a : Agent) → owes j.owed b (seat_at j.owed i) ≡ true → j.zeroed b ≡ Some a → ZeroIsNoted j → ⊥
owed-zeroed j i b a owing is law = true≢false (sym owing ∙ (law.done b (a, is)).2 i)
