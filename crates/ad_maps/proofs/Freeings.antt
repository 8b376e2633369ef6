-- What agents have to free, and the mover's batches, once a step was made.
use Rattle.std.proofs.Common.{◌≡◌, ◌≢◌, ◌⊎◌, ⊎_elim, inl, inr, ℕ, ◌+◌, ◌<◌, ◌≤◌, List, length, Option, Some, None, refl, sym, ap, ◌∙◌, subst, arith, unwrap_or}
use Rattle.std.specs.List.{Contains}
use Rattle.std.specs.Prelude.{AllPairs}
use Rattle.ad_base.specs.declared.place.Place.{Place}
use Rattle.ad_events.specs.declared.mapping.Status.TheVariants.{Fresh, Out, Retired, Gone}
use Rattle.ad_events.specs.World.{EventWorld, effect, status_of}
use Rattle.ad_events.specs.Functions.{changed}
use Rattle.ad_events.proofs.Functions.{changed-here, changed-else, some≢none}
use Rattle.std.proofs.lemmas.Bool.{cases_eq}
use Rattle.ad_events.specs.Owed as owing
use Rattle.ad_events.specs.Owed.{last_batch, passage_of, IsOpened}
use Rattle.ad_events.specs.OwedLaws.{Takes}
use Rattle.ad_events.specs.Reclaim as machine
use Rattle.ad_events.specs.Reclaim.{Agent, ReclaimState}
use Rattle.ad_events.specs.ReclaimInvariant.{Holds}
use Rattle.ad_events.specs.ReclaimLaws.{BringsToZero, NothingLeft, maker_of}
use Rattle.std.specs.Option.{option_map}
use Rattle.std.specs.FinMap as map
use Rattle.ad_events.specs.declared.mapping.Status.{Status}
use Rattle.ad_events.specs.declared.mapping.Mapping.{Mapping}
use Rattle.ad_events.specs.declared.event.Event.TheVariants as event
use Rattle.ad_events.specs.Mapping.{rank_of}
use Rattle.ad_events.proofs.WorldLemmas.{status≢}
use Rattle.ad_events.proofs.WorldReads.{map-other, switch-status, retire-other, unmap-other, same-status}
use Rattle.ad_events.proofs.ReclaimSteps.{unmap-lawful}
use Rattle.ad_events.proofs.ReclaimZeros.{brought}
use Rattle.ad_maps.specs.MapPlace.{member_word}
use Rattle.ad_events.proofs.ReclaimLaws.{batch-after, batch-before, noted-after, gone-after, left_by_own_steps}
use Rattle.ad_events.proofs.ReclaimReads.{other-last, other-passage}
use Rattle.ad_maps.specs.declared.view.Freeing.{Freeing}
use Rattle.ad_maps.specs.declared.view.Freeing.TheVariants as freeing
use Rattle.ad_maps.specs.declared.view.Passing.{Passing}
use Rattle.ad_maps.specs.declared.view.Passing.TheVariants as passing
use Rattle.ad_maps.specs.declared.view.Plan.{Plan}
use Rattle.ad_maps.specs.Ledger.{retires_in}
use Rattle.ad_maps.specs.Rule.{Batching, Freed, FreesFrom, FreeingStands, IsMember, IsPassing, IsZeroedBy, PassingStands, listed_in}

-- ---- a function of agents, changed at one

abbrev pub changed_for : {A : Type 0} → (Agent → A) → Agent → A → Agent → A
changed_for f (machine.Worker w) x (machine.Worker v) = changed (λ (u : ℕ). f (machine.Worker u)) w x v
changed_for f (machine.Worker w) x machine.Mover = f machine.Mover
changed_for f machine.Mover x (machine.Worker v) = f (machine.Worker v)
changed_for f machine.Mover x machine.Mover = x

pub for-here : {A : Type 0} (f : Agent → A) (a : Agent) (x : A) → changed_for f a x a ≡ x
for-here f (machine.Worker w) x = changed-here (λ (u : ℕ). f (machine.Worker u)) w x w refl
for-here f machine.Mover x = refl

pub for-worker : {A : Type 0} (f : Agent → A) (w : ℕ) (x : A) (v : ℕ) → v ≢ w → changed_for f (machine.Worker w) x (machine.Worker v) ≡ f (machine.Worker v)
for-worker f w x v ne = changed-else (λ (u : ℕ). f (machine.Worker u)) w x v ne

pub for-cases : {A : Type 0} (f : Agent → A) (a : Agent) (x : A) (c : Agent) → (c ≡ a) ⊎ ((c ≢ a) × (changed_for f a x c ≡ f c))
for-cases f (machine.Worker w) x (machine.Worker v) =
    elim (cases_eq v w) [
      | inl e ↦ inl (ap (λ (u : ℕ). machine.Worker u) e)
      | inr ne ↦ inr ((λ e. ne (let same : v ≡ w = cc in same)), for-worker f w x v ne)
    ]
for-cases f (machine.Worker w) x machine.Mover = inr ((λ e. let z : ⊥ = cc in z), refl)
for-cases f machine.Mover x (machine.Worker v) = inr ((λ e. let z : ⊥ = cc in z), refl)
for-cases f machine.Mover x machine.Mover = inl refl

-- ---- which steps bring nothing to zero

-- the step takes from no count, and is no unmap
abbrev pub BringsNothing : ReclaimState → machine.Step → Type 0
BringsNothing j x = ((b : ℕ) → BringsToZero j x b → ⊥) × ((p : ℕ) (a : Agent) → x ≡ machine.Unmap p a → ⊥)

no-takes : (j : ReclaimState) (x : machine.Step) (z : owing.Step) → machine.owing_of x ≡ Some z → (Takes z → ⊥) → (b : ℕ) → BringsToZero j x b → ⊥
no-takes j x z is none b brings = none (subst Takes (let same : Some brings.0 ≡ Some z = sym brings.1 ∙ is in let e : brings.0 ≡ z = cc in e) brings.2)

no-owing : (j : ReclaimState) (x : machine.Step) → machine.owing_of x ≡ None → (b : ℕ) → BringsToZero j x b → ⊥
no-owing j x is b brings = some≢none brings.0 (sym brings.1 ∙ is)

pub enter-brings : (j : ReclaimState) (i s : ℕ) → BringsNothing j (machine.Enter i s)
enter-brings j i s = (no-takes j (machine.Enter i s) (owing.Enter i s) refl (λ t. t), λ n a e. let z : ⊥ = cc in z)

pub leave-brings : (j : ReclaimState) (i : ℕ) → BringsNothing j (machine.Leave i)
leave-brings j i = (no-takes j (machine.Leave i) (owing.Leave i) refl (λ t. t), λ n a e. let z : ⊥ = cc in z)

pub open-brings : (j : ReclaimState) → BringsNothing j machine.Open
open-brings j = (no-takes j machine.Open owing.Open refl (λ t. t), λ n a e. let z : ⊥ = cc in z)

pub push-brings : (j : ReclaimState) (s : ℕ) → BringsNothing j (machine.Push s)
push-brings j s = (no-takes j (machine.Push s) (owing.Push s) refl (λ t. t), λ n a e. let z : ⊥ = cc in z)

pub read-brings : (j : ReclaimState) (i m p : ℕ) → BringsNothing j (machine.Read i m p)
read-brings j i m p = (no-owing j (machine.Read i m p) refl, λ n a e. let z : ⊥ = cc in z)

pub map-brings : (j : ReclaimState) (m p : ℕ) → BringsNothing j (machine.Map m p)
map-brings j m p = (no-owing j (machine.Map m p) refl, λ n a e. let z : ⊥ = cc in z)

pub switch-brings : (j : ReclaimState) (m p : ℕ) → BringsNothing j (machine.Switch m p)
switch-brings j m p = (no-owing j (machine.Switch m p) refl, λ n a e. let z : ⊥ = cc in z)

pub retire-brings : (j : ReclaimState) (p : ℕ) → BringsNothing j (machine.Retire p)
retire-brings j p = (no-owing j (machine.Retire p) refl, λ n a e. let z : ⊥ = cc in z)

pub unmap-brings : (j : ReclaimState) (p : ℕ) (a : Agent) (b : ℕ) → BringsToZero j (machine.Unmap p a) b → ⊥
unmap-brings j p a = no-owing j (machine.Unmap p a) refl

-- ---- a mapping that isn't Gone, and that only this agent may unmap

module _ (j : ReclaimState) (h : Holds j) (n b : ℕ) (a : Agent) (listed : j.batch n ≡ Some b) (brought : j.zeroed b ≡ Some a) (there : status_of j.world n ≢ Some Gone) where
  retired : status_of j.world n ≡ Some Retired
  retired = ⊎_elim (λ e. e) (λ e. absurd (there e)) (h.told n b listed)

  not-status : (k : ℕ) (t : Status) → rank_of t < 3 → n ≡ k → status_of j.world k ≡ Some t → ⊥
  not-status k t low e is = status≢ t Retired rank_of (λ r. let z : ⊥ = omega arith in z) (sym is ∙ (ap (status_of j.world) (sym e) ∙ retired))

  kept : (v : EventWorld) → map.get v.mappings n ≡ map.get j.world.mappings n → status_of v n ≢ Some Gone
  kept v same gone = there (sym (same-status v j.world n same) ∙ gone)

  pub not-gone-after : (x : machine.Step) → machine.MayStep j x → ((p : ℕ) → x ≡ machine.Unmap p a → ⊥) → status_of (machine.after j x).world n ≢ Some Gone
  not-gone-after (machine.Enter i s) may none = there
  not-gone-after (machine.Read i m p) may none = there
  not-gone-after (machine.Leave i) may none = there
  not-gone-after (machine.Pay i) may none = there
  not-gone-after (machine.Map m p) may none =
      elim (cases_eq n p) [
        | inl e ↦ λ gone. some≢none Retired (sym retired ∙ ap (option_map (λ (x : Mapping). x.status)) (ap (map.get j.world.mappings) e ∙ may.1))
        | inr ne ↦ kept (effect j.world (event.Map m p)) (map-other j.world m p n ne)
      ]
  not-gone-after (machine.Switch m p) may none =
      elim (cases_eq n p) [
        | inl e ↦ λ gone. absurd (not-status p Fresh (omega arith) e (ap (option_map (λ (x : Mapping). x.status)) may))
        | inr ne ↦ λ gone. ⊎_elim (λ same. there (sym same ∙ gone)) (λ out. status≢ Out Gone rank_of (λ r. let z : ⊥ = omega arith in z) (sym out.1 ∙ gone)) (switch-status j.world m p n ne)
      ]
  not-gone-after (machine.Retire p) may none =
      elim (cases_eq n p) [
        | inl e ↦ λ gone. absurd (not-status p Out (omega arith) e may)
        | inr ne ↦ kept (effect j.world (event.Retire p)) (retire-other j.world p may n ne)
      ]
  not-gone-after machine.Open may none = there
  not-gone-after (machine.Push s) may none = there
  not-gone-after (machine.Settle s) may none = there
  not-gone-after (machine.Unmap p c) may none =
      elim (cases_eq n p) [
        | inl e ↦
            let batch : may.batch ≡ b = ap (λ o. unwrap_or o may.batch) (sym may.listed ∙ (ap j.batch (sym e) ∙ listed)) in
            let same : c ≡ a = ap (λ o. unwrap_or o c) (sym may.brought ∙ (ap j.zeroed batch ∙ brought)) in
            absurd (none p (ap (λ (d : Agent). machine.Unmap p d) same))
        | inr ne ↦ kept (effect j.world (event.Unmap p)) (unmap-other j.world p (unmap-lawful j h p c may) n ne)
      ]

-- ---- what an agent has to free, once a step was made that is no unmap of its own and doesn't bring its batch to zero

module _ (j : ReclaimState) (h : Holds j) (x : machine.Step) (may : machine.MayStep j x) (member member' : ℕ → ℕ → ℕ) (lines lines' : ℕ → ℕ) (places places' : ℕ → Place)
    (words : (b i : ℕ) → IsOpened j.owed b → member' b i ≡ member b i)
    (rows : (n b : ℕ) → j.batch n ≡ Some b → member_word (lines' n) (places' n).region ≡ member_word (lines n) (places n).region) where
  pub frees-after : (a : Agent) → ((b : ℕ) → BringsToZero j x b → maker_of x ≢ a) → ((p : ℕ) → x ≡ machine.Unmap p a → ⊥) → (b k : ℕ) → FreesFrom j member lines places a b k → FreesFrom (machine.after j x) member' lines' places' a b k
  frees-after a apart none b k old =
      let opened = (h.zeroed b (a, old.brought)).0 in record {
        brought = noted-after j h x may b a old.brought;
        other = (left_by_own_steps j h).but a x may apart b old.other;
        low = old.low;
        rest = λ n is there. (
            let was = batch-before j x n b opened.within is in
            let t = old.rest n was (λ gone. there (gone-after j h x may n gone)) in
            (t.0, t.1, t.2, words b t.0 opened ∙ (t.3 ∙ sym (rows n b was))));
        ahead = λ n i is l word. (
            let was = batch-before j x n b opened.within is in
            not-gone-after j h n b a was old.brought (old.ahead n i was l (sym (words b i opened) ∙ (word ∙ rows n b was))) x may none);
      }

  pub stands-after : (a : Agent) → ((b : ℕ) → BringsToZero j x b → maker_of x ≢ a) → ((p : ℕ) → x ≡ machine.Unmap p a → ⊥) → (f : Freeing) → FreeingStands j member lines places a f → FreeingStands (machine.after j x) member' lines' places' a f
  stands-after a apart none freeing.Nothing old = (left_by_own_steps j h).nothing a x may apart old
  stands-after a apart none (freeing.Batch b k) old = frees-after a apart none b k old
  stands-after a apart none (freeing.Found b k word) old = (frees-after a apart none b k old.0, words b k (h.zeroed b (a, old.0.brought)).0 ∙ old.1, old.2)

  pub zeroed-after : (n : ℕ) (a : Agent) → IsZeroedBy j n a → IsZeroedBy (machine.after j x) n a
  zeroed-after n a t = (t.0, batch-after j h x may n t.0 t.1, noted-after j h x may t.0 a t.2)

  -- once a step was made that brings nothing to zero, and is no unmap
  pub freed-after : BringsNothing j x → (gives : Agent → List Place) (frees : Agent → Freeing) → Freed j member lines places gives frees → Freed (machine.after j x) member' lines' places' gives frees
  freed-after none gives frees old = record {
    each = λ a. stands-after a (λ b brings. absurd (none.0 b brings)) (λ p. none.1 p a) (frees a) (old.each a);
    each_give = λ a p c. zeroed-after p.mapping a (old.each_give a p c);
  }

  -- and of all agents but one, once it made a step
  pub freed-else : (c : Agent) → maker_of x ≡ c → (gives : Agent → List Place) (frees : Agent → Freeing) (f : Freeing) → Freed j member lines places gives frees → FreeingStands (machine.after j x) member' lines' places' c f
      → Freed (machine.after j x) member' lines' places' gives (changed_for frees c f)
  freed-else c made_by gives frees f old mine = record {
    each = λ a. ⊎_elim
        (λ e. subst (λ (d : Agent). FreeingStands (machine.after j x) member' lines' places' d (changed_for frees c f d)) (sym e) (subst (FreeingStands (machine.after j x) member' lines' places' c) (sym (for-here frees c f)) mine))
        (λ t. subst (FreeingStands (machine.after j x) member' lines' places' a) (sym t.1)
        (stands-after a (λ b brings e. t.0 (sym e ∙ made_by)) (λ p e. t.0 (sym (ap maker_of e) ∙ made_by)) (frees a) (old.each a)))
        (for-cases frees c f a);
    each_give = λ a p d. zeroed-after p.mapping a (old.each_give a p d);
  }

-- an agent that brings a batch to zero begins to free it
pub begins-freeing : (j : ReclaimState) → Holds j → (x : machine.Step) → machine.MayStep j x → (member : ℕ → ℕ → ℕ) (lines : ℕ → ℕ) (places : ℕ → Place) (a : Agent) (b : ℕ) → BringsToZero j x b → (machine.after j x).zeroed b ≡ Some a
    → ((n : ℕ) → status_of (machine.after j x).world n ≡ status_of j.world n) → ((n : ℕ) → (machine.after j x).batch n ≡ j.batch n) → NothingLeft j a
    → ((n : ℕ) → j.batch n ≡ Some b → (i : ℕ) × (i < 8) × IsMember member lines places b i n) → FreesFrom (machine.after j x) member lines places a b 0
begins-freeing j h x may member lines places a b brings noted same batches nothing each = record {
  brought = noted;
  other = (left_by_own_steps j h).brought a x may b brings nothing;
  low = omega arith;
  rest = λ n is there. (let t = each n (sym (batches n) ∙ is) in (t.0, omega arith, t.1, t.2));
  ahead = λ n i is l word gone.
      (let some = (brought j h x may b brings).some in
      let zero = (h.zeroed b (h.gone n b (sym (same n) ∙ gone) (sym (batches n) ∙ is))).1 in
      let z : ⊥ = omega arith in z);
}

-- ---- the mover's batches

-- where the batches are as they were, the mover's stands as it did
pub passing-same : (owed owed' : owing.State) (retired : ℕ) → last_batch owed' ≡ last_batch owed → length owed'.slots ≡ length owed.slots → ((b s : ℕ) → 0 < b → passage_of owed' b s ≡ passage_of owed b s)
    → (d : Passing) → PassingStands owed retired d → PassingStands owed' retired d
passing-same owed owed' retired last slots same = by_case
  where
    idle : owing.IsIdle owed → owing.IsIdle owed'
    idle old b opened s low = same b s opened.positive ∙ old b (record { positive = opened.positive; within = let l = opened.within in omega arith }) s (omega arith)

    is_passing : (s : ℕ) (come : owing.Passage) → IsPassing owed s come → IsPassing owed' s come
    is_passing s come old =
        let positive : 0 < last_batch owed' = let p = old.opened in omega arith in
        let at : (t : ℕ) → passage_of owed' (last_batch owed') t ≡ passage_of owed (last_batch owed) t = λ t. same (last_batch owed') t positive ∙ ap (λ (b : ℕ). passage_of owed b t) last in record {
          opened = positive;
          slot = let l = old.slot in omega arith;
          before = λ t l. at t ∙ old.before t l;
          here = at s ∙ old.here;
          behind = λ t l m. at t ∙ old.behind t l (omega arith);
        }

    by_case : (d : Passing) → PassingStands owed retired d → PassingStands owed' retired d
    by_case passing.Rest old = idle old
    by_case (passing.Listing k) old = (idle old.0, let l = old.1 in omega arith)
    by_case (passing.Settled s) old = is_passing s owing.Ahead old
    by_case (passing.Pushed s found) old = is_passing s (owing.Pushed found) old

-- a step that isn't the mover's leaves its batches
pub batching-other : (j : ReclaimState) → Holds j → (x : machine.Step) → machine.MayStep j x → maker_of x ≢ machine.Mover → (slots : length (machine.after j x).owed.slots ≡ length j.owed.slots) (member : ℕ → ℕ → ℕ) (plan : Plan)
    → Batching j.owed j.batch member plan → Batching (machine.after j x).owed (machine.after j x).batch member plan
batching-other j h x may apart slots member plan old =
    let last = other-last j h x may apart in record {
      number = old.number ∙ sym last;
      stands = passing-same j.owed (machine.after j x).owed (length (retires_in plan.deeds)) last slots (λ b s positive. other-passage j h x may apart b s positive) plan.passing old.stands;
      enough = let l = old.enough in omega arith;
      retired = λ n c. (let t = old.retired n c in (t.0, batch-after j h x may n t.0 t.1));
      differ = old.differ;
      next = λ k l. ap (λ (b : ℕ). member (b + 1) k) last ∙ old.next k l;
      later = λ b k l. old.later b k (omega arith);
    }

-- nor does a plan that says the same of them
pub batching-plan : (owed : owing.State) (batch : ℕ → Option ℕ) (member : ℕ → ℕ → ℕ) (q q' : Plan) → q'.batches ≡ q.batches → q'.passing ≡ q.passing → retires_in q'.deeds ≡ retires_in q.deeds
    → Batching owed batch member q → Batching owed batch member q'
batching-plan owed batch member q q' number passes retires old = record {
  number = number ∙ old.number;
  stands = subst (λ (d : Passing). PassingStands owed (length (retires_in q'.deeds)) d) (sym passes) (subst (λ (ns : List ℕ). PassingStands owed (length ns) q.passing) (sym retires) old.stands);
  enough = subst (λ (ns : List ℕ). last_batch owed ≤ length ns) (sym retires) old.enough;
  retired = λ n c. old.retired n (subst (λ (ns : List ℕ). Contains ns n) retires c);
  differ = subst (λ (ns : List ℕ). AllPairs (λ (n k : ℕ). n ≢ k) ns) (sym retires) old.differ;
  next = λ k l. old.next k (subst (λ (d : Passing). listed_in d ≤ k) passes l);
  later = old.later;
}
