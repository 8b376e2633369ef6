-- The unmaps that all agents made together are the unmaps of the world's events.
use Rattle.std.proofs.Common.{◌≡◌, ◌≢◌, ℕ, zero, suc, ◌+◌, ◌<◌, ◌≤◌, Bool, false, ◌&&◌, eqb, List, [], ◌∷◌, length, refl, sym, ap, ◌∙◌, inl, inr, arith}
use Rattle.std.specs.List.{count_by, sum_by}
use Rattle.std.proofs.lemmas.Bool.{cases_lt}
use Rattle.std.proofs.lemmas.List.Sums.{sum_by-cons}
use mathlib.Core.Option.{some}
use lib.ListN.{get_elem?}
use Rattle.ad_events.specs.declared.event.Event.{Event}
use Rattle.ad_events.specs.declared.event.Event.TheVariants as event
use Rattle.ad_events.specs.Reclaim as machine
use Rattle.ad_events.specs.Reclaim.{Agent}
use Rattle.ad_events.specs.ReclaimLaws.{events_of}
use Rattle.ad_events.specs.Sums.{bit, sum_below}
use Rattle.ad_events.specs.WorldLaws.{unmaps}
use Rattle.ad_events.proofs.SumLemmas.{count_by-cons, sum_below-changed, sum_below-const, sum_below-same}
use Rattle.ad_maps.specs.Rule.{unmaps_by, unmaps_made}
use Rattle.ad_maps.proofs.Telling.{other-agent, same-agent}

-- ---- a sum over a list as one over the numbers below its length

sum_below-front : (n : ℕ) (f : ℕ → ℕ) → sum_below (suc n) f ≡ f 0 + sum_below n (λ i. f (suc i))
sum_below-front zero f = omega arith
sum_below-front (suc n) f = let front = sum_below-front n f in omega arith

pub sum_by-below : {X : Type 0} (F : X → ℕ) (g : ℕ → ℕ) (xs : List X) → ((i : ℕ) (x : X) → i < length xs → get_elem? xs i ≡ some x → F x ≡ g i) → sum_by F xs ≡ sum_below (length xs) g
sum_by-below F g [] alike = refl
sum_by-below F g (x ∷ xs) alike =
    let rest = sum_by-below F (λ i. g (suc i)) xs (λ i y l e. alike (suc i) y (omega arith) e) in
    let here = alike 0 x (omega arith) refl in
    let front = sum_below-front (length xs) g in
    sum_by-cons F x xs ∙ omega arith

-- ---- the unmaps of one mapping

module _ (n : ℕ) where
  abbrev by_mover : List machine.Step → ℕ
  by_mover xs = unmaps_made machine.Mover xs n

  abbrev by_worker : List machine.Step → ℕ → ℕ
  by_worker xs w = unmaps_made (machine.Worker w) xs n

  abbrev seen : List machine.Step → ℕ
  seen xs = count_by (unmaps n) (events_of xs)

  made-cons : (a : Agent) (x : machine.Step) (xs : List machine.Step) → unmaps_made a (x ∷ xs) n ≡ bit (unmaps_by a n x) + unmaps_made a xs n
  made-cons a x xs = count_by-cons (unmaps_by a n) x xs

  -- a step by which the agent doesn't unmap it
  made-same : (a : Agent) (x : machine.Step) (xs : List machine.Step) → unmaps_by a n x ≡ false → unmaps_made a (x ∷ xs) n ≡ unmaps_made a xs n
  made-same a x xs none = made-cons a x xs ∙ ap (λ (b : Bool). bit b + unmaps_made a xs n) none ∙ omega arith

  event-same : (e : Event) (es : List Event) → unmaps n e ≡ false → count_by (unmaps n) (e ∷ es) ≡ count_by (unmaps n) es
  event-same e es none = count_by-cons (unmaps n) e es ∙ ap (λ (b : Bool). bit b + count_by (unmaps n) es) none ∙ omega arith

  module _ (workers : ℕ) where
    abbrev by_all : List machine.Step → ℕ
    by_all xs = by_mover xs + sum_below workers (by_worker xs)

    -- no worker of another number unmapped it
    abbrev NoOther : List machine.Step → Type 0
    NoOther xs = (w : ℕ) → workers ≤ w → by_worker xs w ≡ 0

    later : (x : machine.Step) (xs : List machine.Step) → NoOther (x ∷ xs) → NoOther xs
    later x xs none w l =
        let here : by_worker (x ∷ xs) w ≡ 0 = none w l in
        let cons : by_worker (x ∷ xs) w ≡ bit (unmaps_by (machine.Worker w) n x) + by_worker xs w = made-cons (machine.Worker w) x xs in omega arith

    -- a step that is no unmap
    quiet : (x : machine.Step) (xs : List machine.Step) → ((c : Agent) → unmaps_by c n x ≡ false) → by_all (x ∷ xs) ≡ by_all xs
    quiet x xs none =
        let mover : by_mover (x ∷ xs) ≡ by_mover xs = made-same machine.Mover x xs (none machine.Mover) in
        let rest : sum_below workers (by_worker (x ∷ xs)) ≡ sum_below workers (by_worker xs) = sum_below-same workers (by_worker xs) (by_worker (x ∷ xs)) (λ w l. made-same (machine.Worker w) x xs (none (machine.Worker w))) in
        ap (λ (i : ℕ). i + sum_below workers (by_worker (x ∷ xs))) mover ∙ ap (λ (i : ℕ). by_mover xs + i) rest

    -- the mover's unmap
    by-mover : (k : ℕ) (xs : List machine.Step) → by_all (machine.Unmap k machine.Mover ∷ xs) ≡ bit (eqb k n) + by_all xs
    by-mover k xs =
        let x : machine.Step = machine.Unmap k machine.Mover in
        let mover : by_mover (x ∷ xs) ≡ bit (eqb k n) + by_mover xs = made-cons machine.Mover x xs in
        let rest : sum_below workers (by_worker (x ∷ xs)) ≡ sum_below workers (by_worker xs) = sum_below-same workers (by_worker xs) (by_worker (x ∷ xs)) (λ w l. made-same (machine.Worker w) x xs refl) in omega arith

    -- and a worker's
    by-worker : (k w : ℕ) (xs : List machine.Step) → NoOther (machine.Unmap k (machine.Worker w) ∷ xs) → by_all (machine.Unmap k (machine.Worker w) ∷ xs) ≡ bit (eqb k n) + by_all xs
    by-worker k w xs none =
        let x : machine.Step = machine.Unmap k (machine.Worker w) in
        let mover : by_mover (x ∷ xs) ≡ by_mover xs = made-same machine.Mover x xs refl in
        let own : by_worker (x ∷ xs) w ≡ bit (eqb k n) + by_worker xs w = made-cons (machine.Worker w) x xs ∙ ap (λ (b : Bool). bit (b && eqb k n) + by_worker xs w) (same-agent (machine.Worker w)) in
        let other : (v : ℕ) → v ≢ w → by_worker (x ∷ xs) v ≡ by_worker xs v = λ v ne.
        made-same (machine.Worker v) x xs (ap (λ (b : Bool). b && eqb k n) (other-agent (machine.Worker v) (machine.Worker w) (λ e. ne (let same : v ≡ w = cc in same)))) in
        elim (cases_lt w workers) [
          | inl low ↦
              let rest : sum_below workers (by_worker (x ∷ xs)) + by_worker xs w ≡ sum_below workers (by_worker xs) + by_worker (x ∷ xs) w = sum_below-changed workers (by_worker xs) (by_worker (x ∷ xs)) w low (λ v l ne. other v ne) in omega arith
          | inr far ↦
              let nothing : by_worker (x ∷ xs) w ≡ 0 = none w (omega arith) in
              let rest : sum_below workers (by_worker (x ∷ xs)) ≡ sum_below workers (by_worker xs) = sum_below-same workers (by_worker xs) (by_worker (x ∷ xs)) (λ v l. other v (λ e. omega arith)) in omega arith
        ]

    pub all-events : (xs : List machine.Step) → NoOther xs → by_all xs ≡ seen xs
    all-events [] none = let nothing = sum_below-const workers (by_worker []) 0 (λ w l. refl) in omega arith
    all-events (machine.Enter i s ∷ xs) none = quiet (machine.Enter i s) xs (λ c. refl) ∙ (all-events xs (later (machine.Enter i s) xs none) ∙ sym (event-same (event.Enter i) (events_of xs) refl))
    all-events (machine.Read i m p ∷ xs) none = quiet (machine.Read i m p) xs (λ c. refl) ∙ (all-events xs (later (machine.Read i m p) xs none) ∙ sym (event-same (event.Read i m p) (events_of xs) refl))
    all-events (machine.Leave i ∷ xs) none = quiet (machine.Leave i) xs (λ c. refl) ∙ (all-events xs (later (machine.Leave i) xs none) ∙ sym (event-same (event.Leave i) (events_of xs) refl))
    all-events (machine.Pay i ∷ xs) none = quiet (machine.Pay i) xs (λ c. refl) ∙ all-events xs (later (machine.Pay i) xs none)
    all-events (machine.Map m p ∷ xs) none = quiet (machine.Map m p) xs (λ c. refl) ∙ (all-events xs (later (machine.Map m p) xs none) ∙ sym (event-same (event.Map m p) (events_of xs) refl))
    all-events (machine.Switch m p ∷ xs) none = quiet (machine.Switch m p) xs (λ c. refl) ∙ (all-events xs (later (machine.Switch m p) xs none) ∙ sym (event-same (event.Switch m p) (events_of xs) refl))
    all-events (machine.Retire p ∷ xs) none = quiet (machine.Retire p) xs (λ c. refl) ∙ (all-events xs (later (machine.Retire p) xs none) ∙ sym (event-same (event.Retire p) (events_of xs) refl))
    all-events (machine.Open ∷ xs) none = quiet machine.Open xs (λ c. refl) ∙ all-events xs (later machine.Open xs none)
    all-events (machine.Push s ∷ xs) none = quiet (machine.Push s) xs (λ c. refl) ∙ all-events xs (later (machine.Push s) xs none)
    all-events (machine.Settle s ∷ xs) none = quiet (machine.Settle s) xs (λ c. refl) ∙ all-events xs (later (machine.Settle s) xs none)
    all-events (machine.Unmap k machine.Mover ∷ xs) none =
        by-mover k xs ∙ (ap (λ (i : ℕ). bit (eqb k n) + i) (all-events xs (later (machine.Unmap k machine.Mover) xs none)) ∙ sym (count_by-cons (unmaps n) (event.Unmap k) (events_of xs)))
    all-events (machine.Unmap k (machine.Worker w) ∷ xs) none =
        by-worker k w xs none ∙ (ap (λ (i : ℕ). bit (eqb k n) + i) (all-events xs (later (machine.Unmap k (machine.Worker w)) xs none)) ∙ sym (count_by-cons (unmaps n) (event.Unmap k) (events_of xs)))
