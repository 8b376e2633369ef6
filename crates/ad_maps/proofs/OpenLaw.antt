-- The mover's open, push and settle keep the rule.
use Rattle.std.proofs.Common.{◌≡◌, ◌≢◌, ℕ, ◌+◌, ◌*◌, ◌-◌, ◌%◌, ◌^◌, ◌<◌, ◌≤◌, Bool, true, cond, eqb, eqb-true, length, get_or, set, refl, sym, ap, ◌∙◌, subst, inl, inr, arith}
use Rattle.std.proofs.lemmas.Bool.{cases_eq, cases_Bool, eqb-false}
use Rattle.ad_events.specs.Owed as owing
use Rattle.ad_events.specs.Reclaim as machine
use Rattle.ad_events.specs.Reclaim.{Agent}
use Rattle.ad_maps.specs.declared.view.Freeing.{Freeing}
use Rattle.ad_maps.specs.declared.view.Freeing.TheVariants as freeing
use Rattle.ad_maps.specs.declared.view.Plan.{Plan}
use Rattle.ad_maps.specs.declared.view.Doing.TheVariants.{Mover}
use Rattle.ad_events.specs.Owed.{inside_of, count_of, last_batch, passage_of, is_passed, IsOpened, SettledEverywhere, MayPush, MaySettle}
use Rattle.ad_events.specs.OwedLaws.{slot_word}
use Rattle.ad_events.proofs.OpenStep.{open-count, open-count_new}
use Rattle.ad_events.proofs.OwedLaws.{words_fit}
use Rattle.ad_events.proofs.OwedReads.{last-after, last-opened, slots-after, open-passage_new, push-passage, push-passage_other, settle-passage, settle-passage_other, idle-from_last}
use Rattle.ad_events.proofs.OwedWords.{push-word, push-word_other, settle-takes, word-low}
use Rattle.ad_events.proofs.PushStep.{push-count}
use Rattle.ad_events.proofs.SettleStep.{settle-count_other}
use Rattle.ad_events.proofs.ReclaimLaws.{left_by_own_steps}
use Rattle.ad_events.proofs.ReclaimZeros.{settle-brings, settle-brings_none, settle-notes}
use Rattle.ad_events.specs.ReclaimLaws.{NothingLeft}
use Rattle.ad_maps.specs.declared.view.Passing.{Passing}
use Rattle.ad_maps.specs.declared.view.Passing.TheVariants as passing
use Rattle.ad_maps.specs.Ledger.{retires_in, unmaps_in_deeds}
use Rattle.ad_maps.specs.Names.{Count, Slot, wrote}
use Rattle.ad_maps.specs.Laws.{Adds, moved, OpenLaw, PushLaw, SettleLaw}
use Rattle.ad_maps.specs.Rule.{FreeingStands, PassingStands, IsPassing, listed_in}
use Rattle.ad_maps.specs.Steps.{begins, next_slot, opened, pushed_with, settles, settling}
use Rattle.ad_maps.proofs.Batches.{few-batches, few-retired, freed-same}
use Rattle.ad_maps.proofs.Frames.{mover_step, mover_step_as}
use Rattle.ad_maps.proofs.Freeings.{begins-freeing, changed_for, freed-else, open-brings, push-brings}
use Rattle.ad_maps.proofs.Machine.{holds_of, reached_after, lawful_of}
use Rattle.ad_maps.proofs.MappingFrames.{mappings-stay, mover_knows, same_currents}
use Rattle.ad_maps.proofs.OwingFrames.{count_changed, slot_changed}
use Rattle.ad_maps.proofs.Writes.{writes}
use Rattle.ad_maps.proofs.Telling.{deeds-stay, told-quiet}

-- ---- open

pub open_law : OpenLaw
open_law shape s r id q k at is =
    let m = mover_knows shape s r id q at in
    let owed = r.state.owed in
    let holds = holds_of shape r.form r.state r.reached in
    let stands : PassingStands owed (length (retires_in q.deeds)) (passing.Listing k) = subst (PassingStands owed (length (retires_in q.deeds))) is m.batching.stands in
    let x : machine.Step = machine.Open in
    let may : machine.MayStep r.state x = stands.0 in
    let j = machine.after r.state x in
    let number = m.batching.number in
    let b : ℕ = q.batches + 1 in
    let same : b ≡ last_batch owed + 1 = omega arith in
    let few : b < 4096 = (let most = few-retired shape s r in let retired = stands.1 in let deeds = ap (λ (p : Plan). length (retires_in p.deeds)) m.is in omega arith) in
    let n : ℕ = shape.slots * 2 ^ 32 in
    let slots = r.owing.slots in
    let last : last_batch j.owed ≡ last_batch owed + 1 = last-after owed holds.owed owing.Open may in
    let ahead : (t : ℕ) → t < length owed.slots → passage_of j.owed (last_batch j.owed) t ≡ owing.Ahead = λ t l. ap (λ (c : ℕ). passage_of j.owed c t) last ∙ open-passage_new owed holds.owed may t l in
    let some_slot = r.form.some_slot in
    let step = mover_step shape s r id (opened q) m.mine (set s.words (131224 + b) n) (wrote r.words (Count b) n) j r.places r.ledger
    (ap (λ (p : Plan). p.slots) m.is) (ap (λ (p : Plan). p.dealt) m.is) (ap (λ (p : Plan). p.back) m.is)
    (writes s.words r.words (Count b) n few r.reads)
    (reached_after shape r.state x r.reached may)
    (told-quiet shape r.state r.reached machine.Mover x may (unmaps_in_deeds r.plan.deeds) (unmaps_in_deeds q.deeds) (λ c n. refl) (deeds-stay q r.plan m.is))
    (mappings-stay shape s r q m.mappings m.mappings.rooms)
    (count_changed shape s r j.owed b n refl refl (omega arith) (omega arith) (λ t. refl) (ap (λ (i : ℕ). i * 2 ^ 32) (sym slots) ∙ (sym (open-count_new owed holds.owed may) ∙ ap (count_of j.owed) (sym same)))
    (λ c now ne. let few : c ≤ last_batch owed = (let l = now.within in omega arith) in (few, open-count owed holds.owed may c (record { positive = now.positive; within = few }))))
    (record {
      number = omega arith;
      stands = record { opened = omega arith; slot = omega arith; before = λ t l. absurd (omega arith); here = ahead 0 (omega arith); behind = λ t l low. ahead t low };
      enough = let retired = stands.1 in omega arith;
      retired = m.batching.retired;
      differ = m.batching.differ;
      next = λ i l. m.batching.later (last_batch j.owed + 1) i (omega arith);
      later = λ c i l. m.batching.later c i (omega arith);
    })
    (freed-same shape s r x may (open-brings r.state))
    (ap (λ (p : Plan). p.freeing) m.is) (ap (λ (p : Plan). p.gives) m.is)
    m.ledger_is
    m.lines_are
    (λ v. refl)
    (same_currents shape s r q m.is) in
    record { may = may; lawful = lawful_of shape r.form r.state r.reached x may; kept = step.kept; state = step.state }

-- ---- push

-- a slot is not before itself
passed : (p : owing.Passage) → p ≡ owing.Settled → is_passed p ≡ true
passed p e = ap is_passed e

pub push_law : PushLaw
push_law shape s r id q slot at is =
    let m = mover_knows shape s r id q at in
    let owed = r.state.owed in
    let holds = holds_of shape r.form r.state r.reached in
    let retired = length (retires_in q.deeds) in
    let stands : IsPassing owed slot owing.Ahead = subst (PassingStands owed retired) is m.batching.stands in
    let x : machine.Step = machine.Push slot in
    let may : MayPush owed slot = record { opened = stands.opened; slot = stands.slot; ahead = stands.here; before = λ t l. passed (passage_of owed (last_batch owed) t) (stands.before t l) } in
    let j = machine.after r.state x in
    let slots = r.owing.slots in
    let few_slots = r.form.few_slots in
    let low : slot < shape.slots = (let l = stands.slot in omega arith) in
    let few : slot < 16 = omega arith in
    let found = get_or s.words slot 0 in
    let word : found ≡ slot_word owed slot = r.reads.1 (Slot slot) few ∙ r.owing.each_slot slot low in
    let n : ℕ = (found + 2 ^ 32) % 2 ^ 64 in
    let last : last_batch j.owed ≡ last_batch owed = (let l = last-after owed holds.owed (owing.Push slot) may in omega arith) in
    let most = few-batches shape s r in
    let next = push-word owed holds.owed slot may in
    let same_slots = slots-after owed (owing.Push slot) may in
    let fits = (words_fit j.owed (holds_of shape r.form j (reached_after shape r.state x r.reached may)).owed).words (omega arith) slot (let l = stands.slot in omega arith) in
    let count : n ≡ slot_word j.owed slot = added found (slot_word owed slot) (slot_word j.owed slot) word next fits in
    let inside : found % 2 ^ 32 ≡ inside_of owed slot = ap (λ (i : ℕ). i % 2 ^ 32) word ∙ word-low owed holds.owed slot stands.slot in
    let old : (t : ℕ) → t ≢ slot → passage_of j.owed (last_batch j.owed) t ≡ passage_of owed (last_batch owed) t = λ t ne. ap (λ (c : ℕ). passage_of j.owed c t) last ∙ push-passage_other owed holds.owed slot may (last_batch owed) t (last-opened owed stands.opened) (λ _ e. ne e) in
    let q' : Plan = record q { passing = passing.Pushed slot (found % 2 ^ 32) } in
    let step = mover_step shape s r id q' m.mine (set s.words slot n) (wrote r.words (Slot slot) n) j r.places r.ledger
    (ap (λ (p : Plan). p.slots) m.is) (ap (λ (p : Plan). p.dealt) m.is) (ap (λ (p : Plan). p.back) m.is)
    (writes s.words r.words (Slot slot) n few r.reads)
    (reached_after shape r.state x r.reached may)
    (told-quiet shape r.state r.reached machine.Mover x may (unmaps_in_deeds r.plan.deeds) (unmaps_in_deeds q.deeds) (λ c n. refl) (deeds-stay q r.plan m.is))
    (mappings-stay shape s r q m.mappings m.mappings.rooms)
    (slot_changed shape s r j.owed slot n same_slots refl last (λ c before. push-count owed holds.owed slot may c before) count (λ t ne. push-word_other owed holds.owed slot may t ne))
    (record {
      number = m.batching.number ∙ sym last;
      stands = record {
        opened = let o = stands.opened in omega arith;
        slot = let l = stands.slot in omega arith;
        before = λ t l. old t (λ e. omega arith) ∙ stands.before t l;
        here = ap (λ (c : ℕ). passage_of j.owed c slot) last ∙ (push-passage owed holds.owed slot may ∙ ap (λ (i : ℕ). owing.Pushed i) (sym inside));
        behind = λ t l within. old t (λ e. omega arith) ∙ stands.behind t l (omega arith);
      };
      enough = let e = m.batching.enough in omega arith;
      retired = m.batching.retired;
      differ = m.batching.differ;
      next = λ i l. ap (λ (c : ℕ). r.words.member (c + 1) i) last ∙ m.batching.next i (none-listed q.passing slot is i);
      later = λ c i l. m.batching.later c i (omega arith);
    })
    (freed-same shape s r x may (push-brings r.state slot))
    (ap (λ (p : Plan). p.freeing) m.is) (ap (λ (p : Plan). p.gives) m.is)
    m.ledger_is
    m.lines_are
    (λ v. refl)
    (same_currents shape s r q m.is) in
    subst (λ (d : Passing). Adds shape s r (moved s id (Slot slot) (λ i. (i + 2 ^ 32) % 2 ^ 64) (Mover (record q { passing = pushed_with (found % 2 ^ 32) d }))) x) (sym is)
    (record { may = may; lawful = lawful_of shape r.form r.state r.reached x may; kept = step.kept; state = step.state })
  where
    added : (found old new : ℕ) → found ≡ old → new ≡ old + 2 ^ 32 → new < 2 ^ 64 → (found + 2 ^ 32) % 2 ^ 64 ≡ new
    added found old new a b c = omega arith

    none-listed : (d : Passing) (slot : ℕ) → d ≡ passing.Settled slot → (i : ℕ) → listed_in d ≤ i
    none-listed d slot e i = subst (λ (d : Passing). listed_in d ≤ i) (sym e) (omega arith)

-- ---- settle

pub settle_law : SettleLaw
settle_law shape s r id q slot inside at is free =
    let m = mover_knows shape s r id q at in
    let owed = r.state.owed in
    let holds = holds_of shape r.form r.state r.reached in
    let retired = length (retires_in q.deeds) in
    let stands : IsPassing owed slot (owing.Pushed inside) = subst (PassingStands owed retired) is m.batching.stands in
    let x : machine.Step = machine.Settle slot in
    let may : MaySettle owed slot = record { opened = stands.opened; slot = stands.slot; pushed = (inside, stands.here) } in
    let j = machine.after r.state x in
    let b : ℕ = q.batches in
    let number : b ≡ last_batch owed = m.batching.number in
    let most = few-batches shape s r in
    let few : b < 4096 = omega arith in
    let there : IsOpened owed (last_batch owed) = last-opened owed stands.opened in
    let found = get_or s.words (131224 + b) 0 in
    let word : found ≡ count_of owed (last_batch owed) = r.reads.1 (Count b) few ∙ (ap r.words.count number ∙ r.owing.each_count (last_batch owed) there) in
    let n : ℕ = (found + (2 ^ 64 - settles inside)) % 2 ^ 64 in
    let last : last_batch j.owed ≡ last_batch owed = (let l = last-after owed holds.owed (owing.Settle slot) may in omega arith) in
    let count : n ≡ count_of j.owed (last_batch owed) = taken found (settles inside) (count_of owed (last_batch owed)) (count_of j.owed (last_batch owed)) word (settle-takes owed holds.owed slot may inside stands.here) ((words_fit owed holds.owed).counts (last_batch owed) there) in
    let old : (t : ℕ) → t ≢ slot → passage_of j.owed (last_batch j.owed) t ≡ passage_of owed (last_batch owed) t = λ t ne. ap (λ (c : ℕ). passage_of j.owed c t) last ∙ settle-passage_other owed holds.owed slot may (last_batch owed) t there (λ _ e. ne e) in
    let here : passage_of j.owed (last_batch j.owed) slot ≡ owing.Settled = ap (λ (c : ℕ). passage_of j.owed c slot) last ∙ settle-passage owed holds.owed slot may in
    let a : Agent = machine.Mover in
    let f : Freeing = begins b (eqb found (settles inside)) in
    let q' : Plan = record q { passing = next_slot q.slots slot; freeing = f } in
    let nothing : NothingLeft r.state a = subst (FreeingStands r.state r.words.member r.lines r.places a) (sym m.freeing ∙ free) (r.freed.each a) in
    let freed : FreeingStands j r.words.member r.lines r.places a f =
    elim (cases_Bool (eqb found (settles inside))) [
      | inl one ↦
          let all : count_of owed (last_batch owed) ≡ settles inside = sym word ∙ eqb-true found (settles inside) one in
          subst (λ (t : Bool). FreeingStands j r.words.member r.lines r.places a (begins b t)) (sym one)
          (subst (λ (c : ℕ). FreeingStands j r.words.member r.lines r.places a (freeing.Batch c 0)) (sym number)
          (begins-freeing r.state holds x may r.words.member r.lines r.places a (last_batch owed) (settle-brings r.state holds slot inside may stands.here all) (settle-notes r.state holds slot inside may stands.here all) (λ i. refl) (λ i. refl) nothing (λ i listed. r.owing.each_listed i (last_batch owed) listed)))
      | inr more ↦
          subst (λ (t : Bool). FreeingStands j r.words.member r.lines r.places a (begins b t)) (sym more)
          ((left_by_own_steps r.state holds).nothing a x may (λ c brings. absurd (settle-brings_none r.state holds slot inside may stands.here (λ one. eqb-false found (settles inside) more (word ∙ one)) c brings)) nothing)
    ] in
    let at_slot : q.slots ≡ length owed.slots = m.dealt.slots ∙ sym r.owing.slots in
    let step = mover_step_as shape s r id q' m.mine (set s.words (131224 + b) n) (wrote r.words (Count b) n) j r.places r.ledger r.lines r.gives (changed_for r.frees a f)
    (ap (λ (p : Plan). p.slots) m.is) (ap (λ (p : Plan). p.dealt) m.is) (ap (λ (p : Plan). p.back) m.is)
    (writes s.words r.words (Count b) n few r.reads)
    (reached_after shape r.state x r.reached may)
    (told-quiet shape r.state r.reached machine.Mover x may (unmaps_in_deeds r.plan.deeds) (unmaps_in_deeds q.deeds) (λ c n. refl) (deeds-stay q r.plan m.is))
    (mappings-stay shape s r q m.mappings m.mappings.rooms)
    (count_changed shape s r j.owed b n refl refl (omega arith) (omega arith) (λ t. refl) (count ∙ ap (count_of j.owed) (sym number))
    (λ c now ne. ((let l = now.within in omega arith), settle-count_other owed holds.owed slot may c now.positive (λ e. ne (e ∙ sym number)))))
    (record {
      number = number ∙ sym last;
      stands = next-stands j.owed retired q.slots slot at_slot (λ t l. old t (λ e. omega arith) ∙ stands.before t l) here (λ t l low. old t (λ e. omega arith) ∙ stands.behind t l low)
          (λ all. idle-from_last j.owed (holds_of shape r.form j (reached_after shape r.state x r.reached may)).owed (λ positive. all)) (let o = stands.opened in omega arith) stands.slot;
      enough = let e = m.batching.enough in omega arith;
      retired = m.batching.retired;
      differ = m.batching.differ;
      next = λ i l. ap (λ (c : ℕ). r.words.member (c + 1) i) last ∙ m.batching.next i (none-listed q.passing slot inside is i);
      later = λ c i l. m.batching.later c i (omega arith);
    })
    (freed-else r.state holds x may r.words.member r.words.member r.lines r.lines r.places r.places (λ c i there. refl) (λ i c listed. refl) a refl r.gives r.frees f r.freed freed)
    (λ v. refl) refl m.gives
    m.ledger_is
    m.lines_are
    (λ v. refl)
    (same_currents shape s r q m.is) in
    subst (λ (d : Passing). Adds shape s r (moved s id (Count b) (λ i. (i + (2 ^ 64 - settles inside)) % 2 ^ 64) (Mover (settling q found d))) x) (sym is)
    (record { may = may; lawful = lawful_of shape r.form r.state r.reached x may; kept = step.kept; state = step.state })
  where
    taken : (found take old new : ℕ) → found ≡ old → new + take ≡ old → old < 2 ^ 64 → (found + (2 ^ 64 - take)) % 2 ^ 64 ≡ new
    taken found take old new a b c = omega arith

    none-listed : (d : Passing) (slot inside : ℕ) → d ≡ passing.Pushed slot inside → (i : ℕ) → listed_in d ≤ i
    none-listed d slot inside e i = subst (λ (d : Passing). listed_in d ≤ i) (sym e) (omega arith)

    next-stands : (owed : owing.State) (retired slots slot : ℕ) → slots ≡ length owed.slots → ((t : ℕ) → t < slot → passage_of owed (last_batch owed) t ≡ owing.Settled) → passage_of owed (last_batch owed) slot ≡ owing.Settled
        → ((t : ℕ) → slot < t → t < length owed.slots → passage_of owed (last_batch owed) t ≡ owing.Ahead) → (SettledEverywhere owed (last_batch owed) → owing.IsIdle owed) → 0 < last_batch owed → slot < length owed.slots → PassingStands owed retired (next_slot slots slot)
    next-stands owed retired slots slot same before here behind idle opened low =
        elim (cases_Bool (eqb (slot + 1) slots)) [
          | inl end ↦
              let is = eqb-true (slot + 1) slots end in
              subst (λ (t : Bool). PassingStands owed retired (cond t passing.Rest (passing.Settled (slot + 1)))) (sym end)
              (idle (λ t l. elim (cases_eq t slot) [ inl e ↦ ap (passage_of owed (last_batch owed)) e ∙ here | inr ne ↦ before t (omega arith) ]))
          | inr more ↦
              let ne = eqb-false (slot + 1) slots more in
              subst (λ (t : Bool). PassingStands owed retired (cond t passing.Rest (passing.Settled (slot + 1)))) (sym more) (record {
                opened = opened;
                slot = omega arith;
                before = λ t l. elim (cases_eq t slot) [ inl e ↦ ap (passage_of owed (last_batch owed)) e ∙ here | inr ne ↦ before t (omega arith) ];
                here = behind (slot + 1) (omega arith) (omega arith);
                behind = λ t l low. behind t (omega arith) low;
              })
        ]
