-- What stays of the rule's parts at a step.
use Rattle.std.proofs.Common.{◌≡◌, ⊎_elim, inl, inr, ℕ, List, Option, None, Some, sym, ap, ◌∙◌, subst}
use Rattle.ad_base.specs.declared.place.Place.{Place}
use Rattle.ad_stacks.specs.declared.view.Stance.{Stance}
use Rattle.ad_stacks.specs.declared.view.Stance.TheVariants as stance
use Rattle.ad_stacks.specs.declared.view.Stage.{Stage}
use Rattle.ad_stacks.specs.declared.view.Stage.TheVariants as stage
use Rattle.ad_stacks.specs.Names.{changed}
use Rattle.ad_stacks.specs.History.{Event, Status, unmade, in_lane, held, gone, status, line_of, AreBelow}
use Rattle.ad_stacks.specs.Rule.{IsOwed, IsMoverOwed, IsRecorded, Counts, Records, OwesGone, IsGone, StageStands}
use Rattle.ad_stacks.proofs.Changed.{changed_here, changed_else, either_way}

-- who owes a Gone stack may be said otherwise
pub same_counts : {x : ℕ} {p : Place} {w : ℕ} {a b a' b' : Type 0} → (a' → a) → (a → a') → (b' → b) → (b → b') → Counts x p w a b → Counts x p w a' b'
same_counts ua ta ub tb c = record {
  one = λ x y. c.one (ua x) (ub y);
  owed = λ s. c.owed (⊎_elim (λ x. inl (ua x)) (λ y. inr (ub y)) s);
  counted = λ n m. c.counted (λ x. n (ta x)) (λ y. m (tb y));
}

-- a worker's stance changes, and the mapping m was and is not what it owes
pub other_stance : (recorded : ℕ → ℕ) (stances : ℕ → Stance) (stage : Stage) (w : ℕ) (d : Stance) (m : ℕ) (st : Status) → (IsOwed (stances w) m → ⊥) → (IsOwed d m → ⊥)
    → Records recorded stances stage m st → Records recorded (changed stances w d) stage m st
other_stance recorded stances stage w d m unmade was now h = h
other_stance recorded stances stage w d m (in_lane v p) was now h = h
other_stance recorded stances stage w d m (held v p) was now h = h
other_stance recorded stances stage w d m (gone v p) was now h = same_counts
    (λ o. either_way v w
    (λ e. absurd (now (subst (λ (x : Stance). IsOwed x m) (changed_here stances w d v e) o)))
    (λ ne. subst (λ (x : Stance). IsOwed x m) (changed_else stances w d v ne) o))
    (λ o. either_way v w
    (λ e. absurd (was (subst (λ (k : ℕ). IsOwed (stances k) m) e o)))
    (λ ne. subst (λ (x : Stance). IsOwed x m) (sym (changed_else stances w d v ne)) o))
    (λ o. o) (λ o. o) h

-- the mover's stage changes, and the mapping m was and is neither recorded nor owed
pub other_stage : (recorded : ℕ → ℕ) (stances : ℕ → Stance) (a b : Stage) (m : ℕ) (st : Status) → (IsMoverOwed a m → ⊥) → (IsMoverOwed b m → ⊥) → (IsRecorded a m → ⊥)
    → Records recorded stances a m st → Records recorded stances b m st
other_stage recorded stances a b m unmade was now free h = λ _. h free
other_stage recorded stances a b m (in_lane v p) was now free h = h
other_stage recorded stances a b m (held v p) was now free h = h
other_stage recorded stances a b m (gone v p) was now free h = same_counts (λ o. o) (λ o. o) (λ o. absurd (now o)) (λ o. absurd (was o)) h

-- the record word of another mapping changes
pub other_record : (recorded recorded' : ℕ → ℕ) (stances : ℕ → Stance) (stage : Stage) (m : ℕ) (st : Status) → recorded' m ≡ recorded m → Records recorded stances stage m st → Records recorded' stances stage m st
other_record recorded recorded' stances stage m unmade e h = λ f. e ∙ h f
other_record recorded recorded' stances stage m (in_lane v p) e h = e ∙ h
other_record recorded recorded' stances stage m (held v p) e h = e ∙ h
other_record recorded recorded' stances stage m (gone v p) e h = record { one = h.one; owed = λ s. e ∙ h.owed s; counted = λ n k. e ∙ h.counted n k }

-- the statuses that are Gone stay so
abbrev pub GoneStays : List Event → List Event → Type 0
GoneStays past past' = (m w : ℕ) (p : Place) → status past m ≡ gone w p → status past' m ≡ gone w p

pub owes_stay : (past past' : List Event) → GoneStays past past' → (w : ℕ) (d : Stance) → OwesGone past w d → OwesGone past' w d
owes_stay past past' stays w stance.Rest h = h
owes_stay past past' stays w (stance.Holds p) h = h
owes_stay past past' stays w (stance.Owes p) h = stays p.mapping w p h

pub gone_stay : (past past' : List Event) → GoneStays past past' → (o : Option Place) → IsGone past o → IsGone past' o
gone_stay past past' stays None h = h
gone_stay past past' stays (Some p) h = (h.0, stays p.mapping h.0 p h.1)

-- what the mover knows stays, where a worker makes a step
pub stage_stays : (recorded recorded' : ℕ → ℕ) (past past' : List Event) (lanes : ℕ) → GoneStays past past' → ((m : ℕ) → AreBelow past m → AreBelow past' m) → ((m : ℕ) → line_of past' m ≡ line_of past m) → ((m : ℕ) → AreBelow past m → recorded' m ≡ recorded m)
    → (stage : Stage) → StageStands recorded past lanes stage → StageStands recorded' past' lanes stage
stage_stays recorded recorded' past past' lanes stays below line words stage.Idle h = h
stage_stays recorded recorded' past past' lanes stays below line words (stage.Recorded g) h = record { place = h.place; lane = h.lane; from_line = h.from_line; above = below g.place.mapping h.above; word = words g.place.mapping h.above ∙ h.word }
stage_stays recorded recorded' past past' lanes stays below line words (stage.Replaced m l old) h = record { replaced = line m ∙ h.replaced; number = h.number; went = gone_stay past past' stays old h.went }
stage_stays recorded recorded' past past' lanes stays below line words (stage.Owes p) h = gone_stay past past' stays (Some p) h

-- what the mover owes is Gone
pub mover_owes_gone : (recorded : ℕ → ℕ) (past : List Event) (lanes : ℕ) (stage : Stage) (m : ℕ) → StageStands recorded past lanes stage → IsMoverOwed stage m → (w : ℕ) × (p : Place) × (status past m ≡ gone w p)
mover_owes_gone recorded past lanes stage.Idle m h o = absurd o
mover_owes_gone recorded past lanes (stage.Recorded g) m h o = absurd o
mover_owes_gone recorded past lanes (stage.Replaced n l None) m h o = absurd o
mover_owes_gone recorded past lanes (stage.Replaced n l (Some p)) m h o = (h.went.0, p, ap (status past) (sym o) ∙ h.went.1)
mover_owes_gone recorded past lanes (stage.Owes p) m h o = (h.0, p, ap (status past) (sym o) ∙ h.1)

-- what a worker owes is Gone
pub owes_gone : (past : List Event) (w : ℕ) (d : Stance) (m : ℕ) → OwesGone past w d → IsOwed d m → (p : Place) × (status past m ≡ gone w p)
owes_gone past w stance.Rest m h o = absurd o
owes_gone past w (stance.Holds p) m h o = absurd o
owes_gone past w (stance.Owes p) m h o = (p, ap (status past) (sym o) ∙ h)
