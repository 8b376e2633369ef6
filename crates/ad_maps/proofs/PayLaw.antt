-- A worker's pay keeps the rule.
use Rattle.std.proofs.Common.{◌≡◌, ℕ, ◌+◌, ◌-◌, ◌%◌, ◌^◌, ◌<◌, Bool, eqb, eqb-true, get_or, set, refl, sym, ap, ◌∙◌, subst, inl, inr, arith}
use Rattle.std.proofs.lemmas.Bool.{cases_Bool, eqb-false}
use Rattle.ad_events.specs.Owed as owing
use Rattle.ad_events.specs.Reclaim as machine
use Rattle.ad_events.specs.Reclaim.{Agent}
use Rattle.ad_maps.specs.declared.view.Stance.{Stance}
use Rattle.ad_maps.specs.declared.view.Stance.TheVariants as stance
use Rattle.ad_maps.specs.declared.view.Freeing.{Freeing}
use Rattle.ad_maps.specs.declared.view.Hand.{Hand}
use Rattle.ad_events.specs.Owed.{count_of, last_batch, seat_at, IsOpened}
use Rattle.ad_events.proofs.OwedLaws.{words_fit}
use Rattle.ad_events.proofs.OwedReads.{slots-after, seats-after, last-after, pay-count_else, pay-seat, pay-seat_other}
use Rattle.ad_events.proofs.OwedWords.{pay-takes, pay-word}
use Rattle.ad_events.proofs.PayStep.{pay-opened}
use Rattle.ad_events.proofs.ReclaimLaws.{left_by_own_steps}
use Rattle.ad_events.proofs.ReclaimZeros.{pay-brings, pay-brings_none, pay-notes}
use Rattle.ad_events.specs.ReclaimLaws.{NothingLeft}
use Rattle.ad_maps.specs.Names.{Count, wrote}
use Rattle.ad_maps.specs.Laws.{PayLaw}
use Rattle.ad_maps.specs.Ledger.{unmaps_in_acts}
use Rattle.ad_maps.specs.Rule.{FreeingStands, seat_of}
use Rattle.ad_maps.specs.Steps.{begins, hand, left_with}
use Rattle.ad_maps.proofs.Batches.{batching-worker, few-batches}
use Rattle.ad_maps.proofs.Frames.{worker_knows, worker_step_as}
use Rattle.ad_maps.proofs.Freeings.{begins-freeing, changed_for, for-here, for-worker, freed-else}
use Rattle.ad_maps.proofs.Machine.{holds_of, reached_after, lawful_of}
use Rattle.ad_maps.proofs.OwingFrames.{count_changed}
use Rattle.ad_maps.proofs.WorkerLaws.{leaves-seat, leaves-stands}
use Rattle.ad_maps.proofs.Writes.{writes}
use Rattle.ad_maps.proofs.Telling.{told-quiet}

pub pay_law : PayLaw
pay_law shape s r id w slot paid last gives acts at =
    let h : Hand = hand slot (stance.Paying paid last) gives acts in
    let k = worker_knows shape s r id w h at in
    let owed = r.state.owed in
    let is : seat_at owed w ≡ owing.Paying slot paid last = k.seat ∙ ap (λ (u : ℕ). owing.Paying u paid last) (sym k.hand.slot) in
    let b : ℕ = paid + 1 in
    let x : machine.Step = machine.Pay w in
    let may : machine.MayStep r.state x = (slot, paid, last, is) in
    let j = machine.after r.state x in
    let holds = holds_of shape r.form r.state r.reached in
    let opened : IsOpened owed b = pay-opened owed holds.owed w slot paid last is in
    let most = few-batches shape s r in
    let few : b < 4096 = (let l = opened.within in omega arith) in
    let found = get_or s.words (131224 + b) 0 in
    let word : found ≡ count_of owed b = r.reads.1 (Count b) few ∙ r.owing.each_count b opened in
    let n : ℕ = (found + (2 ^ 64 - 1)) % 2 ^ 64 in
    let count : n ≡ count_of j.owed b = taken found (count_of owed b) (count_of j.owed b) word (pay-takes owed holds.owed w slot paid last is) ((words_fit owed holds.owed).counts b opened) in
    let d : Stance = left_with b last in
    let f : Freeing = begins b (eqb found 1) in
    let h' : Hand = record { slot = slot; stance = d; freeing = f; gives = gives; acts = acts } in
    let a : Agent = machine.Worker w in
    let end = last-after owed holds.owed (owing.Pay w) may in
    let nothing : NothingLeft r.state a = subst (FreeingStands r.state r.words.member r.lines r.places a) (sym k.freeing) (r.freed.each a) in
    let freed : FreeingStands j r.words.member r.lines r.places a f =
    elim (cases_Bool (eqb found 1)) [
      | inl one ↦
          let all : count_of owed b ≡ 1 = sym word ∙ eqb-true found 1 one in
          subst (λ (t : Bool). FreeingStands j r.words.member r.lines r.places a (begins b t)) (sym one)
          (begins-freeing r.state holds x may r.words.member r.lines r.places a b (pay-brings r.state holds w slot paid last is all) (pay-notes r.state holds w slot paid last is all) (λ i. refl) (λ i. refl) nothing (λ i listed. r.owing.each_listed i b listed))
      | inr more ↦
          subst (λ (t : Bool). FreeingStands j r.words.member r.lines r.places a (begins b t)) (sym more)
          ((left_by_own_steps r.state holds).nothing a x may (λ c brings. absurd (pay-brings_none r.state holds w slot paid last is (λ one. eqb-false found 1 more (word ∙ one)) c brings)) nothing)
    ] in
    let step = worker_step_as shape s r id w h h' at (set s.words (131224 + b) n) (wrote r.words (Count b) n) j r.gives (changed_for r.frees a f)
    (writes s.words r.words (Count b) n few r.reads)
    (reached_after shape r.state x r.reached may)
    (told-quiet shape r.state r.reached (machine.Worker w) x may (unmaps_in_acts acts) (unmaps_in_acts acts) (λ c n. refl) (λ n. refl))
    r.mappings
    (count_changed shape s r j.owed b n (slots-after owed (owing.Pay w) may) (seats-after owed (owing.Pay w) may) (omega arith) (let within = opened.within in omega arith) (pay-word owed w slot paid last is) count
    (λ c now ne. ((let l = now.within in omega arith), pay-count_else owed holds.owed w slot paid last is c now.positive ne)))
    (batching-worker shape s r x may (λ e. let z : ⊥ = cc in z) (slots-after owed (owing.Pay w) may))
    (freed-else r.state holds x may r.words.member r.words.member r.lines r.lines r.places r.places (λ c i there. refl) (λ i c listed. refl) a refl r.gives r.frees f r.freed freed)
    (sym (for-here r.frees a f))
    (λ v ne. for-worker r.frees w f v ne)
    refl refl
    (pay-seat owed w slot paid last is w refl ∙ (leaves-seat slot b last ∙ ap (λ (u : ℕ). seat_of u d) k.hand.slot))
    (λ v ne. pay-seat_other owed w slot paid last is v ne)
    (record { slot = k.hand.slot; to_give = k.hand.to_give; stance = leaves-stands r.state.world r.places w b last; reads = k.hand.reads; falls = k.hand.falls })
    (λ v ne old. old) in record { may = may; lawful = lawful_of shape r.form r.state r.reached x may; kept = step.kept; state = step.state }
  where
    taken : (found old new : ℕ) → found ≡ old → new + 1 ≡ old → old < 2 ^ 64 → (found + (2 ^ 64 - 1)) % 2 ^ 64 ≡ new
    taken found old new a b c = omega arith
