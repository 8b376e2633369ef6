-- How the state is read off the words and the views.
use Rattle.std.proofs.Common.{◌≡◌, ◌⊎◌, inl, inr, ℕ, cond, not, ◌&&◌, ◌+◌, ◌*◌, ◌^◌, ◌<◌, ◌≤◌, List, [], ◌∷◌, length, get_or, Option, None, Some, sym, refl, ap, ◌∙◌, subst, arith}
use mathlib.Core.Option.{some}
use mathlib.Core.Logic.{dite}
use native.Mathlib.Decide.{dec_lt, ℕ_discrete}
use lib.ListN.{get_elem?}
use Rattle.ad_base.specs.declared.place.Place.{Place}
use Rattle.ad_base.specs.Place.{packed}
use Rattle.ad_stacks.specs.declared.view.Hand.{Hand}
use Rattle.ad_stacks.specs.declared.view.Stance.{Stance}
use Rattle.ad_stacks.specs.declared.view.Stance.TheVariants as stance
use Rattle.ad_stacks.specs.declared.view.Stage.{Stage}
use Rattle.ad_stacks.specs.declared.view.Stage.TheVariants as stage
use Rattle.ad_stacks.specs.declared.view.Doing.{Doing}
use Rattle.ad_stacks.specs.declared.view.Doing.TheVariants.{Spent, Worker, Mover}
use Rattle.ad_stacks.specs.Names.{Lane, Record}
use Rattle.ad_stacks.specs.StackPlace.{record_word}
use Rattle.ad_stacks.specs.History.{Event, Status, unmade, in_lane, held, gone, status, takes_of, line_of, AreLawful}
use Rattle.ad_stacks.specs.Rule.{St, Kept, Records, Counts, IsOwed, IsMoverOwed, IsNumberOf, IsRecorded, IsGone, OwesGone, StageStands, holding}
use Rattle.ad_stacks.specs.Steps.{hand}
use Rattle.ad_stacks.specs.Reading.{OwesMapping, IsOwedBySome, ReadingLaw, HeldLaw, IsQuiet, IsGoneOnce, QuietLaw, LanesLaw, HandsLaw, NumbersLaw, is_gone, times_gone, GoneOnceLaw}
use Rattle.ad_stacks.proofs.Ended.{counted_gone, mark_is, none_held}
use Rattle.ad_stacks.proofs.Numbers.{number_fits, packed_small}
use Rattle.ad_stacks.proofs.Sound.{sound_of, at_status, gone_stays, IsMade}
use Rattle.ad_stacks.proofs.StepLaws.{sound, mover_knows}

-- whether a stance or a stage owes the mapping m
decide_owed : (d : Stance) (m : ℕ) → Dec (IsOwed d m)
decide_owed stance.Rest m = no (λ o. o)
decide_owed (stance.Holds p) m = no (λ o. o)
decide_owed (stance.Owes p) m = ℕ_discrete p.mapping m

decide_number : (o : Option Place) (m : ℕ) → Dec (IsNumberOf o m)
decide_number None m = no (λ o. o)
decide_number (Some p) m = ℕ_discrete p.mapping m

decide_mover_owed : (d : Stage) (m : ℕ) → Dec (IsMoverOwed d m)
decide_mover_owed stage.Idle m = no (λ o. o)
decide_mover_owed (stage.Recorded g) m = no (λ o. o)
decide_mover_owed (stage.Replaced n line old) m = decide_number old m
decide_mover_owed (stage.Owes p) m = ℕ_discrete p.mapping m

-- the mapping m is Gone
abbrev IsGoneNow : List Event → ℕ → Type 0
IsGoneNow past m = (w : ℕ) × (p : Place) × (status past m ≡ gone w p)

-- what a worker or the mover owes is Gone
owed_by_worker : (past : List Event) (w m : ℕ) (d : Stance) → OwesGone past w d → IsOwed d m → IsGoneNow past m
owed_by_worker past w m stance.Rest g o = absurd o
owed_by_worker past w m (stance.Holds p) g o = absurd o
owed_by_worker past w m (stance.Owes p) g o = (w, p, ap (status past) (sym o) ∙ g)

owed_number : (past : List Event) (m : ℕ) (o : Option Place) → IsGone past o → IsNumberOf o m → IsGoneNow past m
owed_number past m None g o = absurd o
owed_number past m (Some p) g o = (g.0, p, ap (status past) (sym o) ∙ g.1)

owed_by_mover : (recorded : ℕ → ℕ) (past : List Event) (lanes m : ℕ) (d : Stage) → StageStands recorded past lanes d → IsMoverOwed d m → IsGoneNow past m
owed_by_mover recorded past lanes m stage.Idle g o = absurd o
owed_by_mover recorded past lanes m (stage.Recorded x) g o = absurd o
owed_by_mover recorded past lanes m (stage.Replaced n line old) g o = owed_number past m old g.went o
owed_by_mover recorded past lanes m (stage.Owes p) g o = owed_number past m (Some p) g o

-- the record word of a mapping that isn't made counts no unmap step
unmade_small : (recorded : ℕ → ℕ) (past : List Event) (lanes m : ℕ) (d : Stage) → lanes ≤ 64 → StageStands recorded past lanes d → ((IsRecorded d m → ⊥) → recorded m ≡ 0) → recorded m < 2 ^ 56
unmade_small recorded past lanes m stage.Idle few g none = let a = none (λ o. o) in omega arith
unmade_small recorded past lanes m (stage.Replaced n line old) few g none = let a = none (λ o. o) in omega arith
unmade_small recorded past lanes m (stage.Owes p) few g none = let a = none (λ o. o) in omega arith
unmade_small recorded past lanes m (stage.Recorded x) few g none = dite (ℕ_discrete x.place.mapping m)
    (λ e. subst (λ (k : ℕ). recorded k < 2 ^ 56) e (subst (λ (k : ℕ). k < 2 ^ 56) (sym g.word) (below (packed x.place) x.lane (packed_small x.place g.place) (let a = g.lane in omega arith))))
    (λ ne. let a = none ne in omega arith)
  where
    below : (n w : ℕ) → n < 2 ^ 48 → w < 64 → n + w * 2 ^ 48 + 0 * 2 ^ 56 < 2 ^ 56
    below n w a b = omega arith

module _ (openings : List Place) (s : St) (r : Kept openings s) where
  fits : (m : ℕ) {w : ℕ} {p : Place} → IsMade r.past m w p → m < 4096
  fits m {w} {p} made = let a = number_fits p made.place in let b = made.number in omega arith

  -- a worker that isn't at rest has its seat
  has_seat : (w : ℕ) → (r.stances w ≡ stance.Rest → ⊥) → get_elem? s.views (r.owner w) ≡ some (Worker w (hand (r.stances w) (takes_of r.past w)))
  has_seat w busy = dite (dec_lt w r.plan.dealt)
      (λ low. dite (dec_lt w (length r.plan.back))
      (λ back. absurd (busy (r.dealt.back w back).0))
      (λ out. r.seated.worker w (omega arith) low))
      (λ high. absurd (busy (r.dealt.undealt w (omega arith)).0))

  not_rest : (w m : ℕ) → IsOwed (r.stances w) m → r.stances w ≡ stance.Rest → ⊥
  not_rest w m o e = subst (λ (d : Stance). IsOwed d m) e o

  -- a stack that is Held is held by a seat
  holder : (m w : ℕ) (p : Place) → status r.past m ≡ held w p → (id : ℕ) × (h : Hand) × (get_elem? s.views id ≡ some (Worker w h)) × (holding h.stance ≡ Some p)
  holder m w p e =
      let holds : holding (r.stances w) ≡ Some p = sym (r.each_lane w).holds ∙ (at_status (sound openings s r) m (held w p) e).holds in
      (r.owner w, hand (r.stances w) (takes_of r.past w), has_seat w (λ rest. let f : None ≡ Some p = ap holding (sym rest) ∙ holds in let g : ⊥ = cc in g), holds)

  owed : (id m : ℕ) (view : Doing) → get_elem? s.views id ≡ some view → OwesMapping view m → IsGoneNow r.past m
  owed id m Spent at o = absurd o
  owed id m (Worker w h) at o = owed_by_worker r.past w m (r.stances w) (r.each_lane w).owes (subst (λ (x : Hand). IsOwed x.stance m) (r.each_seat id (Worker w h) at).3 o)
  owed id m (Mover q) at o = owed_by_mover r.words.recorded r.past (length openings) m q.stage (mover_knows openings s r id q at).planned.stage o

  not_made : (m : ℕ) → m < 4096 → status r.past m ≡ unmade → get_or s.words (64 + m) 0 < 2 ^ 56
  not_made m low e = subst (λ (k : ℕ). k < 2 ^ 56) (sym (r.reads.1 (Record m) low))
      (unmade_small r.words.recorded r.past (length openings) m r.plan.stage r.few r.planned.stage (subst (Records r.words.recorded r.stances r.plan.stage m) e (r.each_record m)))

  went : (m w : ℕ) (p : Place) → status r.past m ≡ gone w p → (get_or s.words (64 + m) 0 ≡ record_word p w 1) ⊎ (IsOwedBySome s.views m × (get_or s.words (64 + m) 0 ≡ record_word p w 0))
  went m w p e =
      let word = r.reads.1 (Record m) (fits m (at_status (sound openings s r) m (gone w p) e).0) in
      let c : Counts (r.words.recorded m) p w (IsOwed (r.stances w) m) (IsMoverOwed r.plan.stage m) = subst (Records r.words.recorded r.stances r.plan.stage m) e (r.each_record m) in
      dite (decide_owed (r.stances w) m)
      (λ a. inr ((r.owner w, Worker w (hand (r.stances w) (takes_of r.past w)), has_seat w (not_rest w m a), a), word ∙ c.owed (inl a)))
      (λ a. dite (decide_mover_owed r.plan.stage m)
      (λ b. inr ((r.mover, Mover r.plan, r.seated.own, b), word ∙ c.owed (inr b)))
      (λ b. inl (word ∙ c.counted a b)))

  in_it : (m w : ℕ) (p : Place) → status r.past m ≡ in_lane w p → get_or s.words (64 + m) 0 ≡ record_word p w 0
  in_it m w p e = r.reads.1 (Record m) (fits m (at_status (sound openings s r) m (in_lane w p) e).0) ∙ subst (Records r.words.recorded r.stances r.plan.stage m) e (r.each_record m)

  in_hand : (m w : ℕ) (p : Place) → status r.past m ≡ held w p → get_or s.words (64 + m) 0 ≡ record_word p w 0
  in_hand m w p e = r.reads.1 (Record m) (fits m (at_status (sound openings s r) m (held w p) e).made) ∙ subst (Records r.words.recorded r.stances r.plan.stage m) e (r.each_record m)

  -- all seats at rest: no worker does anything
  all_rest : IsQuiet s.views → (w : ℕ) → r.stances w ≡ stance.Rest
  all_rest quiet w = dite (dec_lt w r.plan.dealt)
      (λ low. dite (dec_lt w (length r.plan.back))
      (λ back. (r.dealt.back w back).0)
      (λ out. quiet (r.owner w) (Worker w (hand (r.stances w) (takes_of r.past w))) (r.seated.worker w (omega arith) low)))
      (λ high. (r.dealt.undealt w (omega arith)).0)

  once : IsQuiet s.views → (m : ℕ) → 0 < line_of r.past m → (st : Status) → status r.past m ≡ st → IsGoneOnce s.words r.past m
  once quiet m line unmade e = absurd (let l = at_status (sound openings s r) m unmade e in omega arith)
  once quiet m line (in_lane w p) e = absurd (let l = (at_status (sound openings s r) m (in_lane w p) e).2 in omega arith)
  once quiet m line (held w p) e = absurd (let f : Some p ≡ None = sym (at_status (sound openings s r) m (held w p) e).holds ∙ none_held openings s r (all_rest quiet) (quiet r.mover (Mover r.plan) r.seated.own) w in let g : ⊥ = cc in g)
  once quiet m line (gone w p) e =
      let idle = quiet r.mover (Mover r.plan) r.seated.own in
      let low = fits m (at_status (sound openings s r) m (gone w p) e).0 in record {
        lane = w;
        place = p;
        went = e;
        once = r.reads.1 (Record m) low ∙ counted_gone openings s r (all_rest quiet) idle m w p e;
        marked = mark_is openings s r (all_rest quiet) idle m low;
      }

pub reading_law : ReadingLaw
reading_law openings s r = record {
  lanes = λ w low. r.reads.1 (Lane w) low ∙ (r.each_lane w).word;
  hands = λ id w h at. (r.each_lane w).holds ∙ ap holding (ap (λ (x : Hand). x.stance) (sym (r.each_seat id (Worker w h) at).3));
  held_by = holder openings s r;
  word_gone = went openings s r;
  owed_gone = owed openings s r;
  word_in = in_it openings s r;
  word_held = in_hand openings s r;
  word_unmade = not_made openings s r;
  takes = λ id w h at. ap (λ (x : Hand). x.taken) (r.each_seat id (Worker w h) at).3;
  refreshes = λ id q at. (mover_knows openings s r id q at).planned.made;
}

pub held_law : HeldLaw
held_law openings s r id w p taken at =
    let holds = (r.each_lane w).holds ∙ ap holding (ap (λ (x : Hand). x.stance) (sym (r.each_seat id (Worker w (hand (stance.Holds p) taken)) at).3)) in
    let is = ((sound openings s r).lane w).holds p holds in
    (is, in_hand openings s r p.mapping w p is)

pub quiet_law : QuietLaw
quiet_law openings s r quiet = (
  (λ m line. once openings s r quiet m line (status r.past m) refl),
  (λ m w p none e. let l = (at_status (sound openings s r) m (gone w p) e).1 in omega arith),
)

pub lanes_law : LanesLaw
lanes_law past w p law = let snd = sound_of past law in ((λ e. ((snd.lane w).inside p e).0), (λ e. (at_status snd p.mapping (in_lane w p) e).1))

pub hands_law : HandsLaw
hands_law past w p law = let snd = sound_of past law in ((λ e. (snd.lane w).holds p e), (λ e. (at_status snd p.mapping (held w p) e).holds))

pub numbers_law : NumbersLaw
numbers_law past w law = ((sound_of past law).lane w).rises

-- an event that comes adds one where it makes the mapping Gone
gone_step : (e : Event) (past : List Event) (m : ℕ) → AreLawful (e ∷ past) → (st : Status) → status past m ≡ st → (n : ℕ) → n ≡ cond (is_gone st) 1 0
    → n + cond (not (is_gone st) && is_gone (status (e ∷ past) m)) 1 0 ≡ cond (is_gone (status (e ∷ past) m)) 1 0
gone_step e past m law unmade is n count = omega arith
gone_step e past m law (in_lane w p) is n count = omega arith
gone_step e past m law (held w p) is n count = omega arith
gone_step e past m law (gone w p) is n count = let after : cond (is_gone (status (e ∷ past) m)) 1 0 ≡ 1 = ap (λ (x : Status). cond (is_gone x) 1 0) (gone_stays e past law.1 law.0 m w p is) in ap (λ (k : ℕ). k + 0) count ∙ sym after

pub gone_once_law : GoneOnceLaw
gone_once_law [] m law = refl
gone_once_law (e ∷ past) m law = gone_step e past m law (status past m) refl (times_gone past m) (gone_once_law past m law.1)
