-- The invariant holds of every state that a run reaches.
use Rattle.std.proofs.Common.{◌≡◌, ℕ, ◌<◌, List, length, get_or, sym, ap, ◌∙◌, subst, inl, inr, arith}
use Rattle.std.specs.Prelude.{replicate}
use Rattle.std.proofs.lemmas.List.{get_or-replicate, get_or_past, length-replicate}
use Rattle.std.proofs.lemmas.Bool.{cases_lt}
use Rattle.ad_events.specs.Owed.{State, Slot, Away, seat_at, Step, Open, Push, Settle, Enter, Leave, Pay, pushed_on, IsOpened, is_inside, MayStep, MayRun, after, owed_run, owed_opening}
use Rattle.ad_events.proofs.RunLemmas.{run-keeps}
use Rattle.ad_events.proofs.SumLemmas.{count_by-none}
use Rattle.ad_events.specs.OwedInvariant.{IsSized, SeatFits, Holds}
use Rattle.ad_events.proofs.OwedWrites.{IsSized-same}
use Rattle.ad_events.proofs.OpenStep.{Holds-open}
use Rattle.ad_events.proofs.PushStep.{Holds-push}
use Rattle.ad_events.proofs.SettleStep.{Holds-settle}
use Rattle.ad_events.proofs.SeatSteps.{Holds-enter, Holds-leave}
use Rattle.ad_events.proofs.PayStep.{Holds-pay}

pub Holds-step : (w : State) → Holds w → (x : Step) → MayStep w x → Holds (after w x)
Holds-step w h Open may = Holds-open w h may
Holds-step w h (Push s) may = Holds-push w h s may
Holds-step w h (Settle s) may = Holds-settle w h s may
Holds-step w h (Enter i s) may = Holds-enter w h i s may
Holds-step w h (Leave i) may = Holds-leave w h i may
Holds-step w h (Pay i) may = Holds-pay w h i may

pub Holds-run : (w : State) → Holds w → (xs : List Step) → MayRun w xs → Holds (owed_run w xs)
Holds-run w h xs may = run-keeps MayStep after Holds Holds-step w h xs may

-- ---- the opening

pub no_batch : (slots seats b : ℕ) → IsOpened (owed_opening slots seats) b → ⊥
no_batch slots seats b opened = omega (arith, opened.positive, opened.within)

pub opening-away : (slots seats i : ℕ) → seat_at (owed_opening slots seats) i ≡ Away
opening-away slots seats i =
    elim (cases_lt i seats) [
      | inl l ↦ get_or-replicate seats i Away Away l
      | inr past ↦ get_or_past (replicate seats Away) i Away (let same = length-replicate seats Away in omega arith)
    ]

pub Holds-opening : (slots seats : ℕ) → IsSized slots seats → Holds (owed_opening slots seats)
Holds-opening slots seats sized =
    let slots_are = length-replicate slots (let x : Slot = record { inside = 0; pushed = 0 } in x) in
    let seats_are = length-replicate seats Away in
    let away : (i : ℕ) → i < length (replicate seats Away) → get_or (replicate seats Away) i Away ≡ Away = λ i l. get_or-replicate seats i Away Away (omega arith) in
    let slot : (s : ℕ) → s < length (owed_opening slots seats).slots → get_or (owed_opening slots seats).slots s (record { inside = 0; pushed = 0 }) ≡ record { inside = 0; pushed = 0 } = λ s l. get_or-replicate slots s _ _ (omega arith) in
    record {
      sized = IsSized-same slots seats _ _ slots_are seats_are sized;
      lengths = λ b opened. absurd (no_batch slots seats b opened);
      counted = λ b opened. absurd (no_batch slots seats b opened);
      inside = λ s l. ap (λ (x : Slot). x.inside) (slot s l) ∙ sym (count_by-none (is_inside s) Away (replicate seats Away) (λ i m. ap (is_inside s) (away i m)));
      seats = λ i l. subst (SeatFits (length (owed_opening slots seats).slots) (pushed_on (owed_opening slots seats))) (sym (away i l)) tt;
      pushed = λ s l. (let at = ap (λ (x : Slot). x.pushed) (slot s l) in omega arith);
      passages = λ b s opened l. absurd (no_batch slots seats b opened);
    }
