-- A worker's steps keep the rule.
use Rattle.std.proofs.Common.{◌≡◌, ℕ, ◌+◌, ◌*◌, ◌-◌, ◌/◌, ◌%◌, ◌^◌, ◌<◌, Bool, true, false, cond, List, [], ◌∷◌, ◌++◌, length, get_or, set, IsSome, refl, sym, ap, ◌∙◌, subst, arith}
use Rattle.std.specs.Prelude.{nat_lt}
use Rattle.std.proofs.Math.Nat.{mod-lt}
use mathlib.Core.Option.{some}
use lib.ListN.{get_elem?}
use Rattle.ad_base.specs.declared.place.Place.{Place}
use Rattle.ad_events.specs.World.{EventWorld}
use Rattle.ad_events.specs.Owed as owing
use Rattle.ad_events.specs.Owed.{seat_at, pushed_on, to_pay, MayEnter}
use Rattle.ad_events.specs.OwedLaws.{slot_word}
use Rattle.ad_events.specs.Reclaim as machine
use Rattle.ad_events.specs.Reclaim.{ReclaimState}
use Rattle.ad_events.proofs.OwedLaws.{words_fit}
use Rattle.ad_events.proofs.OwedReads.{slots-after, seats-after, last-after, enter-seat, enter-seat_other, leave-batch, leave-seat, leave-seat_other}
use Rattle.ad_events.proofs.OwedWords.{word-high, enter-word, enter-word_other, leave-word, leave-word_other}
use Rattle.ad_events.proofs.WorldReads.{enter-here, enter-other, leave-other}
use Rattle.ad_maps.specs.declared.shape.Shape.{Shape}
use Rattle.ad_maps.specs.declared.view.Act.{Act}
use Rattle.ad_maps.specs.declared.view.Act.TheVariants as act
use Rattle.ad_maps.specs.declared.view.Stance.{Stance}
use Rattle.ad_maps.specs.declared.view.Stance.TheVariants as stance
use Rattle.ad_maps.specs.declared.view.Hand.{Hand}
use Rattle.ad_maps.specs.declared.view.Doing.TheVariants.{Worker}
use Rattle.ad_maps.specs.Names.{Slot, wrote}
use Rattle.ad_maps.specs.Ledger.{act_unmaps, reads_of, unmaps_in_acts}
use Rattle.ad_maps.specs.Laws.{Stays, EnterLaw, PageLaw, CellLaw, LeaveLaw}
use Rattle.ad_maps.specs.Rule.{St, Kept, StanceStands, seat_of}
use Rattle.ad_maps.specs.Steps.{hand, left_with}
use Rattle.ad_maps.proofs.Batches.{batching-worker, few-batches, freed-same}
use Rattle.ad_maps.proofs.Frames.{worker_knows, worker_step}
use Rattle.ad_maps.proofs.Freeings.{enter-brings, leave-brings}
use Rattle.ad_maps.proofs.Hands.{hand_stays, own_act}
use Rattle.ad_maps.proofs.Machine.{holds_of, reached_after, lawful_of}
use Rattle.ad_maps.proofs.OwingFrames.{slot_changed}
use Rattle.ad_maps.proofs.Writes.{writes, rereads}
use Rattle.ad_maps.proofs.Telling.{count-same, told-none, told-quiet}

-- ---- a slot's word

-- what a worker's seat knows of its slot
pub record SlotKnown (shape : Shape) (s : St) (r : Kept shape s) (slot : ℕ) : Type 0 where
  pub low : slot < shape.slots
  pub few : slot < 16
  pub inside : slot < length r.state.owed.slots
  pub word : get_or s.words slot 0 ≡ slot_word r.state.owed slot
  pub pushed : get_or s.words slot 0 / 2 ^ 32 ≡ pushed_on r.state.owed slot
  pub fits : slot_word r.state.owed slot < 2 ^ 64

pub slot_known : (shape : Shape) (s : St) (r : Kept shape s) (w slot : ℕ) → slot ≡ w % shape.slots → SlotKnown shape s r slot
slot_known shape s r w slot is =
    let some_slot = r.form.some_slot in
    let below : w % shape.slots < shape.slots = mod-lt w (omega arith) in
    let few_slots = r.form.few_slots in
    let slots = r.owing.slots in
    let low : slot < shape.slots = omega arith in
    let few : slot < 16 = omega arith in
    let inside : slot < length r.state.owed.slots = omega arith in
    let word = r.reads.1 (Slot slot) few ∙ r.owing.each_slot slot low in
    let h = (holds_of shape r.form r.state r.reached).owed in record {
      low = low;
      few = few;
      inside = inside;
      word = word;
      pushed = ap (λ (n : ℕ). n / 2 ^ 32) word ∙ word-high r.state.owed h slot inside;
      fits = (words_fit r.state.owed h).words (let most = few-batches shape s r in omega arith) slot inside;
    }

-- ---- enter

pub enter_law : EnterLaw
enter_law shape s r id w slot gives acts at =
    let h : Hand = hand slot stance.Away gives acts in
    let k = worker_knows shape s r id w h at in
    let t = slot_known shape s r w slot k.hand.slot in
    let owed = r.state.owed in
    let seats = r.owing.seats in
    let few = k.few in
    let may : MayEnter owed w slot = record { seat = omega arith; slot = t.inside; away = k.seat } in
    let x : machine.Step = machine.Enter w slot in
    let j = machine.after r.state x in
    let found = get_or s.words slot 0 in
    let n : ℕ = (found + 1) % 2 ^ 64 in
    let next = enter-word owed w slot may in
    let fits = (words_fit j.owed (holds_of shape r.form j (reached_after shape r.state x r.reached may)).owed).words (let most = few-batches shape s r in omega arith) slot (let l = slots-after owed (owing.Enter w slot) may in let a = t.inside in omega arith) in
    let word : n ≡ slot_word j.owed slot = added found (slot_word owed slot) (slot_word j.owed slot) t.word next fits in
    let h' : Hand = hand slot (stance.Entered (found / 2 ^ 32)) gives (acts ++ act.Enter ∷ []) in
    let step = worker_step shape s r id w h h' at (set s.words slot n) (wrote r.words (Slot slot) n) j
    (writes s.words r.words (Slot slot) n t.few r.reads)
    (reached_after shape r.state x r.reached may)
    (told-quiet shape r.state r.reached (machine.Worker w) x may (unmaps_in_acts acts) (unmaps_in_acts (acts ++ act.Enter ∷ [])) (λ c n. refl) (λ n. count-same (act_unmaps n) acts act.Enter refl))
    r.mappings
    (slot_changed shape s r j.owed slot n (slots-after owed (owing.Enter w slot) may) (seats-after owed (owing.Enter w slot) may) refl (λ b opened. refl) word (λ u ne. enter-word_other owed w slot may u ne))
    (batching-worker shape s r x may (λ e. let f : ⊥ = cc in f) (slots-after owed (owing.Enter w slot) may))
    (freed-same shape s r x may (enter-brings r.state w slot))
    refl
    (enter-seat owed w slot may w refl ∙ λ i. owing.Inside (k.hand.slot i) (sym t.pushed i))
    (λ v ne. enter-seat_other owed w slot may v ne)
    (own_act shape r.state.world j.world r.places r.ledger r.plan.current r.gives w slot stance.Away (stance.Entered (found / 2 ^ 32)) gives acts act.Enter (λ m. refl) (λ m p e. let f : ⊥ = cc in f) (enter-here r.state.world w w refl) k.hand)
    (λ v ne. hand_stays shape r.state.world j.world r.places r.places r.ledger r.ledger r.plan.current r.plan.current r.gives v (enter-other r.state.world w v ne) refl (λ g st is. (st, is)) (λ g c. c) (λ m. omega arith) (r.hands v)) in record { may = may; lawful = lawful_of shape r.form r.state r.reached x may; kept = step.kept; state = step.state }
  where
    added : (found old new : ℕ) → found ≡ old → new ≡ old + 1 → new < 2 ^ 64 → (found + 1) % 2 ^ 64 ≡ new
    added found old new a b c = omega arith

-- ---- leave

-- a seat that leaves is to pay what the machine says
pub leaves-seat : (slot entry pushed : ℕ) → to_pay slot entry pushed ≡ seat_of slot (left_with entry pushed)
leaves-seat slot entry pushed = elim (nat_lt entry pushed) as (λ (b : Bool). cond b (owing.Paying slot entry pushed) owing.Away ≡ seat_of slot (cond b (stance.Paying entry pushed) stance.Away)) [ true ↦ refl | false ↦ refl ]

-- nothing is asked of the world of one that has left
pub leaves-stands : (world : EventWorld) (places : ℕ → Place) (w entry pushed : ℕ) → StanceStands world places w (left_with entry pushed)
leaves-stands world places w entry pushed = elim (nat_lt entry pushed) as (λ (b : Bool). StanceStands world places w (cond b (stance.Paying entry pushed) stance.Away)) [ true ↦ tt | false ↦ tt ]

pub leave_law : LeaveLaw
leave_law shape s r id w slot entry m p gives acts at =
    let h : Hand = hand slot (stance.Inside entry m p) gives acts in
    let k = worker_knows shape s r id w h at in
    let t = slot_known shape s r w slot k.hand.slot in
    let owed = r.state.owed in
    let is : seat_at owed w ≡ owing.Inside slot entry = k.seat ∙ ap (λ (u : ℕ). owing.Inside u entry) (sym k.hand.slot) in
    let x : machine.Step = machine.Leave w in
    let may : machine.MayStep r.state x = subst IsSome (sym k.hand.stance.0) refl in
    let j = machine.after r.state x in
    let holds = holds_of shape r.form r.state r.reached in
    let found = get_or s.words slot 0 in
    let n : ℕ = (found + (2 ^ 64 - 1)) % 2 ^ 64 in
    let inside : owing.IsInside (seat_at owed w) = (slot, entry, is) in
    let next = leave-word owed holds.owed w slot entry is in
    let word : n ≡ slot_word j.owed slot = taken found (slot_word owed slot) (slot_word j.owed slot) t.word next t.fits in
    let same = leave-batch owed w slot entry is in
    let last = last-after owed holds.owed (owing.Leave w) inside in
    let d : Stance = left_with entry (found / 2 ^ 32) in
    let h' : Hand = hand slot d gives (acts ++ act.Leave ∷ []) in
    let step = worker_step shape s r id w h h' at (set s.words slot n) (wrote r.words (Slot slot) n) j
    (writes s.words r.words (Slot slot) n t.few r.reads)
    (reached_after shape r.state x r.reached may)
    (told-quiet shape r.state r.reached (machine.Worker w) x may (unmaps_in_acts acts) (unmaps_in_acts (acts ++ act.Leave ∷ [])) (λ c n. refl) (λ n. count-same (act_unmaps n) acts act.Leave refl))
    r.mappings
    (slot_changed shape s r j.owed slot n (slots-after owed (owing.Leave w) inside) (seats-after owed (owing.Leave w) inside) (let l = last in omega arith) (λ b opened. ap (λ (c : owing.Batch). c.count) (same b)) word (λ u ne. leave-word_other owed w slot entry is u ne))
    (batching-worker shape s r x may (λ e. let f : ⊥ = cc in f) (slots-after owed (owing.Leave w) inside))
    (freed-same shape s r x may (leave-brings r.state w))
    refl
    (leave-seat owed w slot entry is w refl ∙ (ap (to_pay slot entry) (sym t.pushed) ∙ (leaves-seat slot entry (found / 2 ^ 32) ∙ ap (λ (u : ℕ). seat_of u d) k.hand.slot)))
    (λ v ne. leave-seat_other owed w slot entry is v ne)
    (own_act shape r.state.world j.world r.places r.ledger r.plan.current r.gives w slot (stance.Inside entry m p) d gives acts act.Leave (λ m. refl) (λ m p e. let f : ⊥ = cc in f) (leaves-stands j.world r.places w entry (found / 2 ^ 32)) k.hand)
    (λ v ne. hand_stays shape r.state.world j.world r.places r.places r.ledger r.ledger r.plan.current r.plan.current r.gives v refl (leave-other r.state.world w v ne) (λ g st is. (st, is)) (λ g c. c) (λ m. omega arith) (r.hands v)) in record { may = may; lawful = lawful_of shape r.form r.state r.reached x may; kept = step.kept; state = step.state }
  where
    taken : (found old new : ℕ) → found ≡ old → new + 1 ≡ old → old < 2 ^ 64 → (found + (2 ^ 64 - 1)) % 2 ^ 64 ≡ new
    taken found old new a b c = omega arith

-- ---- page and cell

-- a worker loads a word, and is where it was
pub loads : (shape : Shape) (s : St) (r : Kept shape s) (id w slot : ℕ) (d : Stance) (gives : List Place) (acts : List Act) (i : ℕ) (a : Act)
    → ((m : ℕ) → reads_of m (a ∷ []) ≡ []) → ((m : ℕ) (p : Place) → a ≡ act.Read m p → ⊥) → ((n : ℕ) → act_unmaps n a ≡ false)
    → get_elem? s.views id ≡ some (Worker w (hand slot d gives acts))
    → Stays shape s r (record { words = set s.words i (get_or s.words i 0); homes = s.homes; views = set s.views id (Worker w (hand slot d gives (acts ++ a ∷ []))) })
loads shape s r id w slot d gives acts i a none other quiet at =
    let h : Hand = hand slot d gives acts in
    let k = worker_knows shape s r id w h at in
    let step = worker_step shape s r id w h (hand slot d gives (acts ++ a ∷ [])) at (set s.words i (get_or s.words i 0)) r.words r.state
    (rereads s.words r.words i r.reads) r.reached
    (told-none (machine.Worker w) r.reached.past (unmaps_in_acts acts) (unmaps_in_acts (acts ++ a ∷ [])) (λ n. count-same (act_unmaps n) acts a (quiet n)))
    r.mappings r.owing r.batching r.freed refl k.seat (λ v ne. refl)
    (own_act shape r.state.world r.state.world r.places r.ledger r.plan.current r.gives w slot d d gives acts a none other k.hand.stance k.hand)
    (λ v ne old. old) in record { kept = step.kept; state = step.state }

pub page_law : PageLaw
page_law shape s r id w slot entry m p gives acts va at low = loads shape s r id w slot (stance.Inside entry m p) gives acts (24 + va / 262144) (act.Page va) (λ m. refl) (λ m p e. let f : ⊥ = cc in f) (λ n. refl) at

pub cell_law : CellLaw
cell_law shape s r id w slot entry m p gives acts e at low = loads shape s r id w slot (stance.Inside entry m p) gives acts (65688 + (512 * p.frame + e)) (act.Cell e) (λ m. refl) (λ m p e. let f : ⊥ = cc in f) (λ n. refl) at
