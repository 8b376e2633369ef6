-- What another agent's step leaves as it was: a worker's seat and where it is in, and the mover's batches.
use Rattle.std.proofs.Common.{◌≡◌, ◌≢◌, ℕ, ◌<◌, get_or, refl, sym, ap, arith}
use Rattle.std.specs.FinMap as map
use Rattle.std.specs.FinSet as set
use Rattle.ad_events.specs.Owed as owing
use Rattle.ad_events.specs.Owed.{Batch, Ahead, seat_at, last_batch, passage_of}
use Rattle.ad_events.specs.Reclaim.{Worker, Mover, ReclaimState, Step, Enter, Read, Leave, Pay, Map, Switch, Retire, Open, Push, Settle, Unmap, MayStep, after}
use Rattle.ad_events.specs.ReclaimInvariant.{Holds}
use Rattle.ad_events.specs.ReclaimLaws.{maker_of}
use Rattle.ad_events.proofs.OwedReads.{last-after, enter-seat_other, leave-batch, leave-seat_other, pay-seat_other, pay-passage}
use Rattle.ad_events.proofs.WorldReads.{read-other, leave-other, enter-other, entered-other}
use Rattle.ad_events.proofs.ReclaimSteps.{leave-inside}

-- a worker whose step it isn't has another number
other : (i k : ℕ) → Worker i ≢ Worker k → k ≢ i
other i k apart e = apart (ap (λ n. Worker n) (sym e))

-- ---- a step that isn't worker k's

pub other-seat : (j : ReclaimState) → Holds j → (x : Step) → MayStep j x → (k : ℕ) → maker_of x ≢ Worker k → seat_at (after j x).owed k ≡ seat_at j.owed k
other-seat j h (Enter i s) may k apart = enter-seat_other j.owed i s may k (other i k apart)
other-seat j h (Read i m p) may k apart = refl
other-seat j h (Leave i) may k apart = let is = leave-inside j h i may in leave-seat_other j.owed i is.0 is.1 is.2 k (other i k apart)
other-seat j h (Pay i) may k apart = pay-seat_other j.owed i may.0 may.1 may.2 may.3 k (other i k apart)
other-seat j h (Map m p) may k apart = refl
other-seat j h (Switch m p) may k apart = refl
other-seat j h (Retire p) may k apart = refl
other-seat j h Open may k apart = refl
other-seat j h (Push s) may k apart = refl
other-seat j h (Settle s) may k apart = refl
other-seat j h (Unmap p a) may k apart = refl

pub other-entered : (j : ReclaimState) (x : Step) (k : ℕ) → maker_of x ≢ Worker k → set.contains (after j x).world.entered k ≡ set.contains j.world.entered k
other-entered j (Enter i s) k apart = enter-other j.world i k (other i k apart)
other-entered j (Read i m p) k apart = entered-other j.world i m p k (other i k apart)
other-entered j (Leave i) k apart = refl
other-entered j (Pay i) k apart = refl
other-entered j (Map m p) k apart = refl
other-entered j (Switch m p) k apart = refl
other-entered j (Retire p) k apart = refl
other-entered j Open k apart = refl
other-entered j (Push s) k apart = refl
other-entered j (Settle s) k apart = refl
other-entered j (Unmap p a) k apart = refl

pub other-inside : (j : ReclaimState) (x : Step) (k : ℕ) → maker_of x ≢ Worker k → map.get (after j x).world.inside k ≡ map.get j.world.inside k
other-inside j (Enter i s) k apart = refl
other-inside j (Read i m p) k apart = read-other j.world i m p k (other i k apart)
other-inside j (Leave i) k apart = leave-other j.world i k (other i k apart)
other-inside j (Pay i) k apart = refl
other-inside j (Map m p) k apart = refl
other-inside j (Switch m p) k apart = refl
other-inside j (Retire p) k apart = refl
other-inside j Open k apart = refl
other-inside j (Push s) k apart = refl
other-inside j (Settle s) k apart = refl
other-inside j (Unmap p a) k apart = refl

-- ---- a step that isn't the mover's

pub other-last : (j : ReclaimState) → Holds j → (x : Step) → MayStep j x → maker_of x ≢ Mover → last_batch (after j x).owed ≡ last_batch j.owed
other-last j h (Enter i s) may apart = refl
other-last j h (Read i m p) may apart = refl
other-last j h (Leave i) may apart = let last = last-after j.owed h.owed (owing.Leave i) (leave-inside j h i may) in omega arith
other-last j h (Pay i) may apart = let last = last-after j.owed h.owed (owing.Pay i) may in omega arith
other-last j h (Unmap p a) may apart = refl
other-last j h (Map m p) may apart = absurd (apart refl)
other-last j h (Switch m p) may apart = absurd (apart refl)
other-last j h (Retire p) may apart = absurd (apart refl)
other-last j h Open may apart = absurd (apart refl)
other-last j h (Push s) may apart = absurd (apart refl)
other-last j h (Settle s) may apart = absurd (apart refl)

pub other-passage : (j : ReclaimState) → Holds j → (x : Step) → MayStep j x → maker_of x ≢ Mover → (b s : ℕ) → 0 < b → passage_of (after j x).owed b s ≡ passage_of j.owed b s
other-passage j h (Enter i t) may apart b s positive = refl
other-passage j h (Read i m p) may apart b s positive = refl
other-passage j h (Leave i) may apart b s positive = let is = leave-inside j h i may in ap (λ (x : Batch). get_or x.passages s Ahead) (leave-batch j.owed i is.0 is.1 is.2 b)
other-passage j h (Pay i) may apart b s positive = pay-passage j.owed h.owed i may.0 may.1 may.2 may.3 b s positive
other-passage j h (Unmap p a) may apart b s positive = refl
other-passage j h (Map m p) may apart b s positive = absurd (apart refl)
other-passage j h (Switch m p) may apart b s positive = absurd (apart refl)
other-passage j h (Retire p) may apart b s positive = absurd (apart refl)
other-passage j h Open may apart b s positive = absurd (apart refl)
other-passage j h (Push t) may apart b s positive = absurd (apart refl)
other-passage j h (Settle t) may apart b s positive = absurd (apart refl)
