-- Each step keeps the rule.
use Rattle.std.proofs.Common.{◌≡◌, ◌≢◌, ⊎_elim, inl, inr, ℕ, Bool, true, false, cond, eqb, eq-eqb, eqb-true, ne_eqb, ◌==◌, ◌+◌, ◌<◌, ◌≤◌, List, [], ◌∷◌, ◌++◌, length, set, get_or, Option, None, Some, is_some, unwrap_or, sym, refl, ap, ◌∙◌, subst, arith, length-append}
use mathlib.Core.Option.{some}
use Rattle.std.proofs.Math.ListN.{length-set}
use Rattle.std.proofs.lemmas.List.{get_or-set_same, get_or-set_other}
use lib.ListN.{get_elem?}
use prog.Atomic.{either}
use Rattle.atomic_table.specs.Table.{keeps, stepped}
use Rattle.atomic_table.proofs.Lists.{at_longer, at_last}
use Rattle.ad_base.specs.declared.place.Place.{Place}
use Rattle.ad_base.specs.Place.{packed, place_at}
use Rattle.ad_stacks.specs.declared.view.Given.{Given}
use Rattle.ad_stacks.specs.declared.view.Hand.{Hand}
use Rattle.ad_stacks.specs.declared.view.Plan.{Plan}
use Rattle.ad_stacks.specs.declared.view.Stance.{Stance}
use Rattle.ad_stacks.specs.declared.view.Stance.TheVariants as stance
use Rattle.ad_stacks.specs.declared.view.Stage.{Stage}
use Rattle.ad_stacks.specs.declared.view.Stage.TheVariants as stage
use Rattle.ad_stacks.specs.declared.view.Doing.{Doing}
use Rattle.ad_stacks.specs.declared.view.Doing.TheVariants.{Spent, Worker, Mover}
use Rattle.ad_stacks.specs.Names.{Name, Lane, Record, Mark, IsName, index, changed, wrote}
use Rattle.ad_stacks.specs.StackPlace.{lane_word, lane_place, record_word, IsStackWord}
use Rattle.ad_stacks.specs.History.{Event, took, put, refreshed, Status, unmade, in_lane, held, gone, replaced, status, lane_of, held_of, takes_of, line_of, newest, openings_of, refreshes_of, MayTake, MayPut, MayRefresh, AreBelow, AreLawful, IsAbove}
use Rattle.ad_stacks.specs.Rule.{St, Kept, Records, Counts, Knows, Seated, Dealt, LaneStands, PlanStands, StageStands, IsOwed, IsMoverOwed, IsRecorded, IsUnmarked, OwesGone, IsNumberOf, IsGone, holding}
use Rattle.ad_stacks.specs.Steps.{hand, put_back, gathering, dealing, replacing, marked, owing}
use Rattle.ad_stacks.specs.Laws.{TakeLaw, PutLaw, GoneLaw, MoverGoneLaw, RecordLaw, RefreshLaw, MarkLaw, SplitLaw, JoinLaw, counted, Adds, Stays, moved}
use Rattle.ad_stacks.proofs.Changed.{changed_here, changed_else, at_changed, either_way}
use Rattle.ad_stacks.proofs.Frames.{same_counts, other_stance, other_stage, other_record, GoneStays, owes_stay, stage_stays, mover_owes_gone, owes_gone}
use Rattle.ad_base.proofs.Packing.{place_at-packed, packed-some}
use Rattle.ad_stacks.proofs.Numbers.{stack_word, counted_once, some_word, lane_place-word, number_fits}
use Rattle.ad_stacks.proofs.Seats.{worker_steps, mover_steps, mover_splits, mover_joins, worker_sits, mover_sits, split_sits, join_sits}
use Rattle.ad_stacks.proofs.Sound.{Sound, sound_of, at_status, gone_stays, below_unmade, are_below, newest_below, refreshed_status}
use Rattle.ad_stacks.proofs.Writes.{writes}

-- what a worker's event, or none, leaves as it was
record Leaves (past past' : List Event) : Type 0 where
  stays : GoneStays past past'
  opened : openings_of past' ≡ openings_of past
  refreshes : refreshes_of past' ≡ refreshes_of past
  newest : (w : ℕ) → newest past' w ≡ newest past w
  below : (m : ℕ) → AreBelow past m → AreBelow past' m
  lines : (m : ℕ) → line_of past' m ≡ line_of past m

-- ---- what a seat knows of the table
module _ (openings : List Place) (s : St) (r : Kept openings s) where
  pub sound : Sound r.past
  sound = sound_of r.past r.lawful

  pub lanes_are : length (openings_of r.past) ≡ length openings
  lanes_are = ap length r.opened

  -- what a worker's seat knows
  module _ (id w : ℕ) (d : Stance) (taken : List Place) (at : get_elem? s.views id ≡ some (Worker w (hand d taken))) where
    pub mine : Knows r.past r.stances r.owner r.plan r.mover id (Worker w (hand d taken))
    mine = r.each_seat id (Worker w (hand d taken)) at

    pub stance_is : r.stances w ≡ d
    stance_is = ap (λ (h : Hand). h.stance) (sym mine.3)

    pub taken_is : takes_of r.past w ≡ taken
    taken_is = ap (λ (h : Hand). h.taken) (sym mine.3)

    pub lane_in : w < length openings
    lane_in = let a = mine.0 in let b = r.dealt.few in omega arith

    pub lane_few : w < 64
    lane_few = let a = lane_in in let b = r.few in omega arith

    pub held_is : held_of r.past w ≡ holding d
    held_is = (r.each_lane w).holds ∙ ap holding stance_is

    pub found_is : get_or s.words w 0 ≡ lane_word (lane_of r.past w)
    found_is = r.reads.1 (Lane w) lane_few ∙ (r.each_lane w).word

  -- what the seats that were split off and joined know stays, where a worker takes a step that is no take
  same_dealt : (past' : List Event) (stances' : ℕ → Stance) (w : ℕ) → w < r.plan.dealt → length r.plan.back ≤ w
      → ((v : ℕ) → v ≢ w → (stances' v ≡ r.stances v) × (takes_of past' v ≡ takes_of r.past v)) → Dealt past' stances' (length openings) r.plan
  same_dealt past' stances' w inside out rest = record {
    few = r.dealt.few;
    undealt = λ v l. let t = rest v (λ e. omega arith) in let u = r.dealt.undealt v l in (t.0 ∙ u.0, t.1 ∙ u.1);
    back = λ v l. let t = rest v (λ e. omega arith) in let u = r.dealt.back v l in (t.0 ∙ u.0, u.1 ∙ (λ i. some (hand stance.Rest (sym t.1 i))));
  }

  -- a worker's step: it writes to the word of a name, and the worker's stance and takes become these
  module _ (id w : ℕ) (d : Stance) (taken : List Place) (at : get_elem? s.views id ≡ some (Worker w (hand d taken))) (name : Name) (x : ℕ) (d' : Stance) (taken' : List Place) (past' : List Event) where
    worker_writes : IsName name → Leaves r.past past' → AreLawful past' → takes_of past' w ≡ taken' → ((v : ℕ) → v ≢ w → takes_of past' v ≡ takes_of r.past v)
        → ((v : ℕ) → LaneStands (wrote r.words name x).lane past' v (changed r.stances w d' v))
        → ((m : ℕ) → Records (wrote r.words name x).recorded (changed r.stances w d') r.plan.stage m (status past' m))
        → ((m : ℕ) → AreBelow r.past m → (wrote r.words name x).recorded m ≡ r.words.recorded m)
        → ((m : ℕ) → (wrote r.words name x).mark m ≡ r.words.mark m)
        → (r' : Kept openings (stepped s (index name) x id [] (Worker w (hand d' taken')) keeps)) × (r'.past ≡ past')
    worker_writes named leaves lawful takes others lanes records kept marks =
        let k = mine id w d taken at in
        let stances' : ℕ → Stance = changed r.stances w d' in
        let is : hand d' taken' ≡ hand (stances' w) (takes_of past' w) = λ i. hand (sym (changed_here r.stances w d' w refl) i) (sym takes i) in
        let rest : (v : ℕ) → v ≢ w → (stances' v ≡ r.stances v) × (takes_of past' v ≡ takes_of r.past v) = λ v ne. (changed_else r.stances w d' v ne, others v ne) in (
          record {
            words = wrote r.words name x;
            past = past';
            stances = stances';
            owner = r.owner;
            plan = r.plan;
            mover = r.mover;
            few = r.few;
            reads = writes s.words r.words name x named r.reads;
            lawful = lawful;
            opened = leaves.opened ∙ r.opened;
            each_lane = lanes;
            each_record = records;
            each_mark = λ m free. marks m ∙ (r.each_mark m free ∙ sym (leaves.lines m));
            each_seat = worker_steps r.past r.stances r.owner r.plan r.mover s.views r.each_seat past' stances' id w (hand d taken) (hand d' taken') at is rest;
            seated = worker_sits r.past r.stances r.owner r.plan r.mover s.views r.seated past' stances' id w (hand d taken) (hand d' taken') at k.2 is rest;
            dealt = same_dealt past' stances' w k.0 k.1 rest;
            planned = record {
              made = r.planned.made ∙ sym leaves.refreshes;
              wide = r.planned.wide;
              newest = λ v l. r.planned.newest v l ∙ sym (leaves.newest v);
              stage = stage_stays r.words.recorded (wrote r.words name x).recorded r.past past' (length openings) leaves.stays leaves.below leaves.lines kept r.plan.stage r.planned.stage;
            };
          },
          refl,
        )

-- ---- take
-- what a take finds: the word of the stack that is In the lane
pub take_found : (openings : List Place) (s : St) (r : Kept openings s) (id w : ℕ) (taken : List Place) → get_elem? s.views id ≡ some (Worker w (hand stance.Rest taken))
    → IsStackWord (get_or s.words w 0) × (lane_of r.past w ≡ Some (place_at (get_or s.words w 0))) × (held_of r.past w ≡ None)
take_found openings s r id w taken at =
    let snd = sound openings s r in
    let free : held_of r.past w ≡ None = held_is openings s r id w stance.Rest taken at in
    let some_one = (snd.lane w).some_one (let a = lane_in openings s r id w stance.Rest taken at in let b = lanes_are openings s r in omega arith) free in
    let there = some_word (lane_of r.past w) some_one in
    let was = (snd.lane w).inside there.0 there.1 in
    let made = at_status snd there.0.mapping (in_lane w there.0) was.0 in
    let word = found_is openings s r id w stance.Rest taken at ∙ ap lane_word there.1 in
    let is = ap place_at word ∙ place_at-packed there.0 made.0.place.place in
    (subst IsStackWord (sym word) (stack_word there.0 made.0.place), there.1 ∙ ap Some (sym is), free)

pub take_law : TakeLaw
take_law openings s r id w taken at =
    let found = take_found openings s r id w taken at in
    take_with openings s r id w taken at (place_at (get_or s.words w 0)) found.1 found.2
  where
    take_with : (openings : List Place) (s : St) (r : Kept openings s) (id w : ℕ) (taken : List Place) (at : get_elem? s.views id ≡ some (Worker w (hand stance.Rest taken))) (q : Place) → lane_of r.past w ≡ Some q → held_of r.past w ≡ None
        → Adds openings s r (moved s id (Lane w) (λ _. 0) (Worker w (hand (stance.Holds q) (taken ++ q ∷ [])))) (took w q)
    take_with openings s r id w taken at q lane_is free =
        let is_in = (((sound openings s r).lane w).inside q lane_is).0 in
        let may : MayTake r.past w q = record { is_in = is_in; free = free } in
        let past' : List Event = took w q ∷ r.past in
        let stays : GoneStays r.past past' = gone_stays (took w q) r.past r.lawful may in
        let not_owed : (m : ℕ) → IsOwed (r.stances w) m → ⊥ = λ m. subst (λ (x : Stance). IsOwed x m → ⊥) (sym (stance_is openings s r id w stance.Rest taken at)) (λ o. o) in (
          may,
          worker_writes openings s r id w stance.Rest taken at (Lane w) 0 (stance.Holds q) (taken ++ q ∷ []) past' (lane_few openings s r id w stance.Rest taken at)
              (record { stays = stays; opened = refl; refreshes = refl; newest = λ v. refl; below = λ m b. b; lines = λ m. refl }) (may, r.lawful)
              (changed_here (takes_of r.past) w (takes_of r.past w ++ q ∷ []) w refl ∙ ap (λ (ps : List Place). ps ++ q ∷ []) (taken_is openings s r id w stance.Rest taken at))
              (λ v ne. changed_else (takes_of r.past) w (takes_of r.past w ++ q ∷ []) v ne)
              (λ v. let old = r.each_lane v in either_way v w
              (λ e. record {
                word = changed_here r.words.lane w 0 v e ∙ ap lane_word (sym (changed_here (lane_of r.past) w None v e));
                holds = changed_here (held_of r.past) w (Some q) v e ∙ ap holding (sym (changed_here r.stances w (stance.Holds q) v e));
                owes = subst (OwesGone past' v) (sym (changed_here r.stances w (stance.Holds q) v e)) tt;
              })
              (λ ne. record {
                word = changed_else r.words.lane w 0 v ne ∙ (old.word ∙ ap lane_word (sym (changed_else (lane_of r.past) w None v ne)));
                holds = changed_else (held_of r.past) w (Some q) v ne ∙ (old.holds ∙ ap holding (sym (changed_else r.stances w (stance.Holds q) v ne)));
                owes = subst (OwesGone past' v) (sym (changed_else r.stances w (stance.Holds q) v ne)) (owes_stay r.past past' stays v (r.stances v) old.owes);
              }))
              (λ m. at_changed (status r.past) q.mapping (held w q) m (Records r.words.recorded (changed r.stances w (stance.Holds q)) r.plan.stage m)
              (λ e. subst (λ (st : Status). Records r.words.recorded r.stances r.plan.stage m st) (ap (status r.past) e ∙ is_in) (r.each_record m))
              (λ ne. other_stance r.words.recorded r.stances r.plan.stage w (stance.Holds q) m (status r.past m) (not_owed m) (λ o. o) (r.each_record m)))
              (λ m b. refl)
              (λ m. refl),
        )

-- ---- put
-- what a put makes of the lane's word and of the worker's stance
module _ (w : ℕ) (p : Place) (some_place : packed p ≢ 0) where
  abbrev word_after : ℕ → ℕ
  word_after found = either (found == 0) (packed p) found

  abbrev stance_after : ℕ → Stance
  stance_after found = put_back (stance.Holds p) found

  -- it finds nothing In the lane, or a stack
  stance_none : (found : ℕ) → found ≡ 0 → stance_after found ≡ stance.Rest
  stance_none found e = ap (λ (b : Bool). cond b stance.Rest (stance.Owes p)) (eq-eqb found 0 e)

  stance_some : (found : ℕ) → found ≢ 0 → stance_after found ≡ stance.Owes p
  stance_some found ne = ap (λ (b : Bool). cond b stance.Rest (stance.Owes p)) (ne_eqb found 0 ne)

  word_is : (o : Option Place) (found : ℕ) → ((q : Place) → o ≡ Some q → packed q ≢ 0) → found ≡ lane_word o → word_after found ≡ lane_word (Some (unwrap_or o p))
  word_is None found places e = ap (λ (b : Bool). either b (packed p) found) (eq-eqb found 0 e)
  word_is (Some q) found places e = ap (λ (b : Bool). either b (packed p) found) (ne_eqb found 0 (λ z. places q refl (sym e ∙ z))) ∙ e

  -- either way the worker holds nothing, and owes at most this stack
  after_none : (P : Stance → Type 0) → P stance.Rest → P (stance.Owes p) → (found : ℕ) → P (stance_after found)
  after_none P rest owes found = elim (eqb found 0) as (λ (b : Bool). P (cond b stance.Rest (stance.Owes p))) [ true ↦ rest | false ↦ owes ]

pub put_law : PutLaw
put_law openings s r id w p taken at =
    let snd = sound openings s r in
    let may : MayPut r.past w p = (snd.lane w).holds p (held_is openings s r id w (stance.Holds p) taken at) in
    let was = at_status snd p.mapping (held w p) may in
    let some_place = packed-some p was.made.place.place in
    let found = get_or s.words w 0 in
    let word = found_is openings s r id w (stance.Holds p) taken at in
    let x = word_after w p some_place found in
    let d : Stance = stance_after w p some_place found in
    let o = lane_of r.past w in
    let places : (q : Place) → o ≡ Some q → packed q ≢ 0 = λ q e. packed-some q (at_status snd q.mapping (in_lane w q) ((snd.lane w).inside q e).0).0.place.place in
    let past' : List Event = put w p ∷ r.past in
    let stays : GoneStays r.past past' = gone_stays (put w p) r.past r.lawful may in
    let stance_was = stance_is openings s r id w (stance.Holds p) taken at in
    let not_owed : (m : ℕ) → IsOwed (r.stances w) m → ⊥ = λ m. subst (λ (y : Stance). IsOwed y m → ⊥) (sym stance_was) (λ h. h) in
    let here : (m : ℕ) → m ≡ p.mapping → (lane : Option Place) → lane ≡ o → Records r.words.recorded (changed r.stances w d) r.plan.stage m (cond (is_some lane) (gone w p) (in_lane w p)) = λ m e. put_record openings s r w p m (subst (λ (st : Status). Records r.words.recorded r.stances r.plan.stage m st) (ap (status r.past) e ∙ may) (r.each_record m)) e may some_place found word places in (
      may,
      worker_writes openings s r id w (stance.Holds p) taken at (Lane w) x d taken past' (lane_few openings s r id w (stance.Holds p) taken at)
          (record { stays = stays; opened = refl; refreshes = refl; newest = λ v. refl; below = λ m b. b; lines = λ m. refl }) (may, r.lawful)
          (taken_is openings s r id w (stance.Holds p) taken at)
          (λ v ne. refl)
          (λ v. let old = r.each_lane v in either_way v w
          (λ e. record {
            word = changed_here r.words.lane w x v e ∙ (word_is w p some_place o found places word ∙ ap lane_word (sym (changed_here (lane_of r.past) w (Some (unwrap_or o p)) v e)));
            holds = changed_here (held_of r.past) w None v e ∙ (after_none w p some_place (λ y. None ≡ holding y) refl refl found ∙ ap holding (sym (changed_here r.stances w d v e)));
            owes = subst (OwesGone past' v) (sym (changed_here r.stances w d v e)) (owes_after openings s r w p may some_place found word places v e);
          })
          (λ ne. record {
            word = changed_else r.words.lane w x v ne ∙ (old.word ∙ ap lane_word (sym (changed_else (lane_of r.past) w (Some (unwrap_or o p)) v ne)));
            holds = changed_else (held_of r.past) w None v ne ∙ (old.holds ∙ ap holding (sym (changed_else r.stances w d v ne)));
            owes = subst (OwesGone past' v) (sym (changed_else r.stances w d v ne)) (owes_stay r.past past' stays v (r.stances v) old.owes);
          }))
          (λ m. at_changed (status r.past) p.mapping (cond (is_some o) (gone w p) (in_lane w p)) m (Records r.words.recorded (changed r.stances w d) r.plan.stage m)
          (λ e. here m e o refl)
          (λ ne. other_stance r.words.recorded r.stances r.plan.stage w d m (status r.past m) (not_owed m) (after_none w p some_place (λ y. IsOwed y m → ⊥) (λ h. h) (λ h. ne (sym h)) found) (r.each_record m)))
          (λ m b. refl)
          (λ m. refl),
    )
  where
    -- where a stack is In the lane, the status is Gone and the worker owes it
    owes_after : (openings : List Place) (s : St) (r : Kept openings s) (w : ℕ) (p : Place) → MayPut r.past w p → (some_place : packed p ≢ 0) (found : ℕ) → found ≡ lane_word (lane_of r.past w) → ((q : Place) → lane_of r.past w ≡ Some q → packed q ≢ 0)
        → (v : ℕ) → v ≡ w → OwesGone (put w p ∷ r.past) v (stance_after w p some_place found)
    owes_after openings s r w p may some_place found word places v e = by_lane (lane_of r.past w) refl
      where
        by_lane : (o : Option Place) → lane_of r.past w ≡ o → OwesGone (put w p ∷ r.past) v (stance_after w p some_place found)
        by_lane None lane = subst (OwesGone (put w p ∷ r.past) v) (sym (stance_none w p some_place found (word ∙ ap lane_word lane))) tt
        by_lane (Some q) lane = subst (OwesGone (put w p ∷ r.past) v) (sym (stance_some w p some_place found (λ z. places q lane (sym (word ∙ ap lane_word lane) ∙ z))))
            (changed_here (status r.past) p.mapping (cond (is_some (lane_of r.past w)) (gone w p) (in_lane w p)) p.mapping refl ∙ (ap (λ (l : Option Place). cond (is_some l) (gone w p) (in_lane w p)) lane ∙ ap (λ (u : ℕ). gone u p) (sym e)))

    put_record : (openings : List Place) (s : St) (r : Kept openings s) (w : ℕ) (p : Place) (m : ℕ) → r.words.recorded m ≡ record_word p w 0 → m ≡ p.mapping → MayPut r.past w p → (some_place : packed p ≢ 0) (found : ℕ) → found ≡ lane_word (lane_of r.past w) → ((q : Place) → lane_of r.past w ≡ Some q → packed q ≢ 0)
        → (o : Option Place) → o ≡ lane_of r.past w → Records r.words.recorded (changed r.stances w (stance_after w p some_place found)) r.plan.stage m (cond (is_some o) (gone w p) (in_lane w p))
    put_record openings s r w p m recorded e may some_place found word places None lane = recorded
    put_record openings s r w p m recorded e may some_place found word places (Some q) lane =
        let d = stance_some w p some_place found (λ z. places q (sym lane) (sym (word ∙ ap lane_word (sym lane)) ∙ z)) in
        let stance_now : changed r.stances w (stance_after w p some_place found) w ≡ stance.Owes p = changed_here r.stances w (stance_after w p some_place found) w refl ∙ d in record {
          one = λ a b. let g = mover_owes_gone r.words.recorded r.past (length openings) r.plan.stage m r.planned.stage b in absurd (let c : gone g.0 g.1 ≡ held w p = sym g.2 ∙ (ap (status r.past) e ∙ may) in let f : ⊥ = cc in f);
          owed = λ _. recorded;
          counted = λ n _. absurd (n (subst (λ (y : Stance). IsOwed y m) (sym stance_now) (sym e)));
        }

-- ---- gone
record_is : (openings : List Place) (s : St) (r : Kept openings s) (m : ℕ) → m < 4096 → get_or s.words (64 + m) 0 ≡ r.words.recorded m
record_is openings s r m few = r.reads.1 (Record m) few

pub gone_law : GoneLaw
gone_law openings s r id w p taken at =
    let stance_was = stance_is openings s r id w (stance.Owes p) taken at in
    let went : status r.past p.mapping ≡ gone w p = subst (OwesGone r.past w) stance_was (r.each_lane w).owes in
    let was = at_status (sound openings s r) p.mapping (gone w p) went in
    let m = p.mapping in
    let few = number_fits p was.0.place in
    let c : Counts (r.words.recorded m) p w (IsOwed (r.stances w) m) (IsMoverOwed r.plan.stage m) = subst (Records r.words.recorded r.stances r.plan.stage m) went (r.each_record m) in
    let owed : IsOwed (r.stances w) m = subst (λ (y : Stance). IsOwed y m) (sym stance_was) refl in
    let found = get_or s.words (64 + m) 0 in
    let x : ℕ = counted found in
    let once : x ≡ record_word p w 1 = ap counted (record_is openings s r m few ∙ c.owed (inl owed)) ∙ counted_once p w was.0.place (lane_few openings s r id w (stance.Owes p) taken at) in
    let recorded' : ℕ → ℕ = changed r.words.recorded m x in
    let stances' : ℕ → Stance = changed r.stances w stance.Rest in
    let here : Counts (recorded' m) p w (IsOwed (stances' w) m) (IsMoverOwed r.plan.stage m) = record {
      one = λ a b. subst (λ (y : Stance). IsOwed y m) (changed_here r.stances w stance.Rest w refl) a;
      owed = λ o. ⊎_elim (λ a. absurd (subst (λ (y : Stance). IsOwed y m) (changed_here r.stances w stance.Rest w refl) a)) (λ b. absurd (c.one owed b)) o;
      counted = λ _ _. changed_here r.words.recorded m x m refl ∙ once;
    } in
    worker_writes openings s r id w (stance.Owes p) taken at (Record m) x stance.Rest taken r.past few
    (record { stays = λ n v q h. h; opened = refl; refreshes = refl; newest = λ v. refl; below = λ n b. b; lines = λ n. refl }) r.lawful
    (taken_is openings s r id w (stance.Owes p) taken at)
    (λ v ne. refl)
    (λ v. let old = r.each_lane v in either_way v w
    (λ e. record {
      word = old.word;
      holds = old.holds ∙ (ap holding (ap r.stances e ∙ stance_was) ∙ ap holding (sym (changed_here r.stances w stance.Rest v e)));
      owes = subst (OwesGone r.past v) (sym (changed_here r.stances w stance.Rest v e)) tt;
    })
    (λ ne. record {
      word = old.word;
      holds = old.holds ∙ ap holding (sym (changed_else r.stances w stance.Rest v ne));
      owes = subst (OwesGone r.past v) (sym (changed_else r.stances w stance.Rest v ne)) old.owes;
    }))
    (λ n. either_way n m
    (λ e. subst (λ (j : ℕ). Records recorded' stances' r.plan.stage j (status r.past j)) (sym e) (subst (Records recorded' stances' r.plan.stage m) (sym went) here))
    (λ ne. other_record r.words.recorded recorded' stances' r.plan.stage n (status r.past n) (changed_else r.words.recorded m x n ne)
    (other_stance r.words.recorded r.stances r.plan.stage w stance.Rest n (status r.past n) (λ o. ne (sym (subst (λ (y : Stance). IsOwed y n) stance_was o))) (λ o. o) (r.each_record n))))
    (λ n b. changed_else r.words.recorded m x n (λ e. let f : unmade ≡ gone w p = sym (below_unmade r.past n r.lawful b) ∙ (ap (status r.past) e ∙ went) in absurd (let g : ⊥ = cc in g)))
    (λ n. refl)

-- ---- what the mover's seat knows
pub record MoverKnows (openings : List Place) (s : St) (r : Kept openings s) (id : ℕ) (q : Plan) : Type 0 where
  pub mover : id ≡ r.mover
  pub each_record : (m : ℕ) → Records r.words.recorded r.stances q.stage m (status r.past m)
  pub each_mark : (m : ℕ) → (IsUnmarked q.stage m → ⊥) → r.words.mark m ≡ line_of r.past m
  pub each_seat : (j : ℕ) (view : Doing) → get_elem? s.views j ≡ some view → Knows r.past r.stances r.owner q r.mover j view
  pub seated : Seated r.past r.stances r.owner q r.mover s.views
  pub dealt : Dealt r.past r.stances (length openings) q
  pub planned : PlanStands r.words.recorded r.past (length openings) q

pub mover_knows : (openings : List Place) (s : St) (r : Kept openings s) (id : ℕ) (q : Plan) → get_elem? s.views id ≡ some (Mover q) → MoverKnows openings s r id q
mover_knows openings s r id q at =
    let k = r.each_seat id (Mover q) at in
    subst (MoverKnows openings s r id) (sym k.0) (record { mover = k.1; each_record = r.each_record; each_mark = r.each_mark; each_seat = r.each_seat; seated = r.seated; dealt = r.dealt; planned = r.planned })

-- what the seats know stays, where the mover is at another stage
stage_dealt : (openings : List Place) (s : St) (r : Kept openings s) (past' : List Event) (q q' : Plan) → Dealt r.past r.stances (length openings) q → q'.dealt ≡ q.dealt → q'.back ≡ q.back → ((v : ℕ) → takes_of past' v ≡ takes_of r.past v) → Dealt past' r.stances (length openings) q'
stage_dealt openings s r past' q q' h dealt back same = record {
  few = let a = h.few in omega arith;
  undealt = λ v l. let u = h.undealt v (omega arith) in (u.0, same v ∙ u.1);
  back = λ v l. let u = h.back v (subst (λ (hs : List Hand). v < length hs) back l) in (u.0, ap (λ (hs : List Hand). get_elem? hs v) back ∙ (u.1 ∙ (λ i. some (hand stance.Rest (sym (same v) i)))));
}

-- a step of the mover: it writes to the word of a name, and its plan becomes this
mover_writes : (openings : List Place) (s : St) (r : Kept openings s) (id : ℕ) (q : Plan) → get_elem? s.views id ≡ some (Mover q) → (name : Name) (x : ℕ) → IsName name → (q' : Plan) → q'.dealt ≡ q.dealt → q'.back ≡ q.back
    → (past' : List Event) → AreLawful past' → openings_of past' ≡ openings_of r.past → ((v : ℕ) → takes_of past' v ≡ takes_of r.past v)
    → ((v : ℕ) → LaneStands (wrote r.words name x).lane past' v (r.stances v))
    → ((m : ℕ) → Records (wrote r.words name x).recorded r.stances q'.stage m (status past' m))
    → ((m : ℕ) → (IsUnmarked q'.stage m → ⊥) → (wrote r.words name x).mark m ≡ line_of past' m)
    → PlanStands (wrote r.words name x).recorded past' (length openings) q'
    → (r' : Kept openings (stepped s (index name) x id [] (Mover q') keeps)) × (r'.past ≡ past')
mover_writes openings s r id q at name x named q' dealt back past' lawful opened takes lanes records marks planned =
    let k = mover_knows openings s r id q at in (
      record {
        words = wrote r.words name x;
        past = past';
        stances = r.stances;
        owner = r.owner;
        plan = q';
        mover = r.mover;
        few = r.few;
        reads = writes s.words r.words name x named r.reads;
        lawful = lawful;
        opened = opened ∙ r.opened;
        each_lane = lanes;
        each_record = records;
        each_mark = marks;
        each_seat = mover_steps r.past r.stances r.owner q r.mover s.views k.each_seat past' q' id k.mover dealt back takes;
        seated = mover_sits r.past r.stances r.owner q r.mover s.views k.seated past' q' id k.mover dealt back takes;
        dealt = stage_dealt openings s r past' q q' k.dealt dealt back takes;
        planned = planned;
      },
      refl,
    )

-- a seat is split off the mover's or joined to it: only the seats change, and what the mover knows of them
mover_seats : (openings : List Place) (s : St) (r : Kept openings s) (id : ℕ) (q : Plan) → get_elem? s.views id ≡ some (Mover q) → (owner' : ℕ → ℕ) (dealt : ℕ) (back : List Hand) (views : List Doing)
    → ((j : ℕ) (view : Doing) → get_elem? views j ≡ some view → Knows r.past r.stances owner' (record q { dealt = dealt; back = back }) r.mover j view)
    → Seated r.past r.stances owner' (record q { dealt = dealt; back = back }) r.mover views
    → Dealt r.past r.stances (length openings) (record q { dealt = dealt; back = back })
    → Stays openings s r (record { words = s.words; homes = s.homes; views = views })
mover_seats openings s r id q at owner' dealt back views know seated are_dealt =
    let k = mover_knows openings s r id q at in (
      record {
        words = r.words;
        past = r.past;
        stances = r.stances;
        owner = owner';
        plan = record q { dealt = dealt; back = back };
        mover = r.mover;
        few = r.few;
        reads = r.reads;
        lawful = r.lawful;
        opened = r.opened;
        each_lane = r.each_lane;
        each_record = k.each_record;
        each_mark = k.each_mark;
        each_seat = know;
        seated = seated;
        dealt = are_dealt;
        planned = record { made = k.planned.made; wide = k.planned.wide; newest = k.planned.newest; stage = k.planned.stage };
      },
      refl,
    )

-- ---- the mover's unmap step
pub mover_gone_law : MoverGoneLaw
mover_gone_law openings s r id q p at stage_is =
    let k = mover_knows openings s r id q at in
    let owes = subst (StageStands r.words.recorded r.past (length openings)) stage_is k.planned.stage in
    let w = owes.0 in
    let went = owes.1 in
    let was = at_status (sound openings s r) p.mapping (gone w p) went in
    let m = p.mapping in
    let few = number_fits p was.0.place in
    let lane_few : w < 64 = let a = was.0.lane in let b = lanes_are openings s r in let c = r.few in omega arith in
    let c : Counts (r.words.recorded m) p w (IsOwed (r.stances w) m) (IsMoverOwed q.stage m) = subst (Records r.words.recorded r.stances q.stage m) went (k.each_record m) in
    let owed : IsMoverOwed q.stage m = subst (λ (y : Stage). IsMoverOwed y m) (sym stage_is) refl in
    let found = get_or s.words (64 + m) 0 in
    let x : ℕ = counted found in
    let once : x ≡ record_word p w 1 = ap counted (record_is openings s r m few ∙ c.owed (inr owed)) ∙ counted_once p w was.0.place lane_few in
    let recorded' : ℕ → ℕ = changed r.words.recorded m x in
    let q' : Plan = record q { stage = stage.Idle } in
    let here : Counts (recorded' m) p w (IsOwed (r.stances w) m) ⊥ = record {
      one = λ a b. b;
      owed = λ o. ⊎_elim (λ a. absurd (c.one a owed)) (λ b. absurd b) o;
      counted = λ _ _. changed_here r.words.recorded m x m refl ∙ once;
    } in
    mover_writes openings s r id q at (Record m) x few q' refl refl r.past r.lawful refl (λ v. refl) r.each_lane
    (λ n. either_way n m
    (λ e. subst (λ (j : ℕ). Records recorded' r.stances stage.Idle j (status r.past j)) (sym e) (subst (Records recorded' r.stances stage.Idle m) (sym went) here))
    (λ ne. other_record r.words.recorded recorded' r.stances stage.Idle n (status r.past n) (changed_else r.words.recorded m x n ne)
    (other_stage r.words.recorded r.stances q.stage stage.Idle n (status r.past n) (λ o. ne (sym (subst (λ (y : Stage). IsMoverOwed y n) stage_is o))) (λ o. o) (λ o. subst (λ (y : Stage). IsRecorded y n) stage_is o) (k.each_record n))))
    (λ n _. k.each_mark n (λ u. subst (λ (y : Stage). IsUnmarked y n) stage_is u))
    (record { made = k.planned.made; wide = k.planned.wide; newest = k.planned.newest; stage = tt })

-- ---- record
pub record_law : RecordLaw
record_law openings s r id q g at stage_is may =
    let k = mover_knows openings s r id q at in
    let m = g.place.mapping in
    let few = number_fits g.place may.place in
    let above = above_all openings s r q g k.planned.made may.above in
    let fresh = below_unmade r.past m r.lawful above in
    let x = record_word g.place g.lane 0 in
    let recorded' : ℕ → ℕ = changed r.words.recorded m x in
    mover_writes openings s r id q at (Record m) x few (record q { stage = stage.Recorded g }) refl refl r.past r.lawful refl (λ v. refl) r.each_lane
    (λ n. either_way n m
    (λ e. subst (Records recorded' r.stances (stage.Recorded g) n) (sym (ap (status r.past) e ∙ fresh)) (λ free. absurd (free (sym e))))
    (λ ne. other_record r.words.recorded recorded' r.stances (stage.Recorded g) n (status r.past n) (changed_else r.words.recorded m x n ne)
    (other_stage r.words.recorded r.stances q.stage (stage.Recorded g) n (status r.past n) (λ o. subst (λ (y : Stage). IsMoverOwed y n) stage_is o) (λ o. o) (λ o. subst (λ (y : Stage). IsRecorded y n) stage_is o) (k.each_record n))))
    (λ n _. k.each_mark n (λ u. subst (λ (y : Stage). IsUnmarked y n) stage_is u))
    (record {
      made = k.planned.made;
      wide = k.planned.wide;
      newest = k.planned.newest;
      stage = record { place = may.place; lane = let a = may.lane in let b = k.planned.wide in omega arith; from_line = may.from_line; above = above; word = changed_here r.words.recorded m x m refl };
    })
  where
    above_all : (openings : List Place) (s : St) (r : Kept openings s) (q : Plan) (g : Given) → q.made ≡ refreshes_of r.past → IsAbove openings q.made g.place.mapping → AreBelow r.past g.place.mapping
    above_all openings s r q g made h = are_below r.past g.place.mapping (subst (λ (ps : List Place). IsAbove ps (refreshes_of r.past) g.place.mapping) (sym r.opened) (subst (λ (gs : List Given). IsAbove openings gs g.place.mapping) made h))

-- ---- refresh
module _ (openings : List Place) (s : St) (r : Kept openings s) (g : Given) (may : MayRefresh r.past g.lane g.place g.line) where
  -- what was In the lane, whose status is known
  was_in : (m : ℕ) (o : Option Place) → lane_of r.past g.lane ≡ o → IsNumberOf o m → (q : Place) × (status r.past m ≡ in_lane g.lane q)
  was_in m None lane h = absurd h
  was_in m (Some q) lane h = (q, ap (status r.past) (sym h) ∙ (((sound openings s r).lane g.lane).inside q lane).0)

  -- the record words, where the old one in the lane is owed by the mover
  refresh_record : (m n line : ℕ) (old : Option Place) → old ≡ lane_of r.past g.lane → m ≢ g.place.mapping → (st : Status) → status r.past m ≡ st
      → Records r.words.recorded r.stances (stage.Recorded g) m st → Records r.words.recorded r.stances (stage.Replaced n line old) m (replaced g.lane st)
  refresh_record m n line old is ne unmade e h = λ _. h (λ same. ne (sym same))
  refresh_record m n line old is ne (in_lane v q) e h = by_lane (eqb v g.lane) refl
    where
      by_lane : (b : Bool) → eqb v g.lane ≡ b → Records r.words.recorded r.stances (stage.Replaced n line old) m (cond b (gone v q) (in_lane v q))
      by_lane false test = h
      by_lane true test =
          let was = at_status (sound openings s r) m (in_lane v q) e in
          let old_is : old ≡ Some q = is ∙ (ap (lane_of r.past) (sym (eqb-true v g.lane test)) ∙ was.1) in record {
            one = λ a b. let c = owes_gone r.past v (r.stances v) m (r.each_lane v).owes a in let d : gone v c.0 ≡ in_lane v q = sym c.1 ∙ e in let f : ⊥ = cc in f;
            owed = λ _. h;
            counted = λ _ free. absurd (free (subst (λ (o : Option Place). IsNumberOf o m) (sym old_is) was.0.number));
          }
  refresh_record m n line old is ne (held v q) e h = h
  refresh_record m n line old is ne (gone v q) e h = same_counts (λ o. o) (λ o. o)
      (λ o. let c = was_in m old (sym is) o in let d : gone v q ≡ in_lane g.lane c.0 = sym e ∙ c.1 in let f : ⊥ = cc in f)
      (λ o. absurd o) h

  went_out : (snd : Sound r.past) (o : Option Place) → lane_of r.past g.lane ≡ o → IsGone (refreshed g.lane g.place g.line ∷ r.past) o
  went_out snd None lane = tt
  went_out snd (Some q) lane = (g.lane, refreshed_status r.past g.lane g.place g.line r.lawful may snd q.mapping (in_lane g.lane q) ((snd.lane g.lane).inside q lane).0 (λ d. cc) ∙ ap (λ (b : Bool). cond b (gone g.lane q) (in_lane g.lane q)) (eq-eqb g.lane g.lane refl))

pub refresh_law : RefreshLaw
refresh_law openings s r id q g at stage_is =
    subst (λ (y : Stage). Adds openings s r (moved s id (Lane g.lane) (λ _. packed g.place) (Mover (replacing q (get_or s.words g.lane 0) y))) (refreshed g.lane g.place g.line)) (sym stage_is) (refresh_with openings s r id q g at stage_is)
  where
    refresh_with : (openings : List Place) (s : St) (r : Kept openings s) (id : ℕ) (q : Plan) (g : Given) → get_elem? s.views id ≡ some (Mover q) → q.stage ≡ stage.Recorded g
        → Adds openings s r (moved s id (Lane g.lane) (λ _. packed g.place) (Mover (replacing q (get_or s.words g.lane 0) (stage.Recorded g)))) (refreshed g.lane g.place g.line)
    refresh_with openings s r id q g at stage_is =
        let k = mover_knows openings s r id q at in
        let snd = sound openings s r in
        let ready = subst (StageStands r.words.recorded r.past (length openings)) stage_is k.planned.stage in
        let w = g.lane in
        let p : Place = g.place in
        let line = g.line in
        let may : MayRefresh r.past w p line = record { lane = let a = ready.lane in let b = lanes_are openings s r in omega arith; place = ready.place; above = ready.above; from_line = ready.from_line } in
        let past' : List Event = refreshed w p line ∷ r.past in
        let stays : GoneStays r.past past' = gone_stays (refreshed w p line) r.past r.lawful may in
        let few : w < 64 = let a = ready.lane in let b = r.few in omega arith in
        let o = lane_of r.past w in
        let found = get_or s.words w 0 in
        let word : found ≡ lane_word o = r.reads.1 (Lane w) few ∙ (r.each_lane w).word in
        let old_is : lane_place found ≡ o = ap lane_place word ∙ lane_place-word o (λ x e. (at_status snd x.mapping (in_lane w x) ((snd.lane w).inside x e).0).0.place.place) in
        let last : get_or q.newest w 0 ≡ newest r.past w = k.planned.newest w ready.lane in
        let q' : Plan = replacing q found (stage.Recorded g) in (
          may,
          mover_writes openings s r id q at (Lane w) (packed p) few q' refl refl past' (may, r.lawful) refl (λ v. refl)
              (λ v. let old = r.each_lane v in record {
                word = either_way v w
                    (λ e. changed_here r.words.lane w (packed p) v e ∙ ap lane_word (sym (changed_here (lane_of r.past) w (Some p) v e)))
                    (λ ne. changed_else r.words.lane w (packed p) v ne ∙ (old.word ∙ ap lane_word (sym (changed_else (lane_of r.past) w (Some p) v ne))));
                holds = old.holds;
                owes = owes_stay r.past past' stays v (r.stances v) old.owes;
              })
              (λ m. at_changed (λ n. replaced w (status r.past n)) p.mapping (in_lane w p) m (Records r.words.recorded r.stances q'.stage m)
              (λ e. ap r.words.recorded e ∙ ready.word)
              (λ ne. refresh_record openings s r g may m (get_or q.newest w 0) line (lane_place found) old_is ne (status r.past m) refl (subst (λ (y : Stage). Records r.words.recorded r.stances y m (status r.past m)) stage_is (k.each_record m))))
              (λ m free. k.each_mark m (λ u. subst (λ (y : Stage). IsUnmarked y m) stage_is u) ∙ sym (changed_else (line_of r.past) (newest r.past w) line m (λ e. free (last ∙ sym e))))
              (record {
                made = ap (λ (gs : List Given). gs ++ g ∷ []) k.planned.made;
                wide = length-set q.newest w p.mapping ∙ k.planned.wide;
                newest = λ v l. either_way v w
                    (λ e. ap (λ (j : ℕ). get_or (set q.newest w p.mapping) j 0) e ∙ (get_or-set_same q.newest w p.mapping 0 (let a = k.planned.wide in let b = ready.lane in omega arith) ∙ sym (changed_here (newest r.past) w p.mapping v e)))
                    (λ ne. get_or-set_other q.newest w v p.mapping 0 ne ∙ (k.planned.newest v l ∙ sym (changed_else (newest r.past) w p.mapping v ne)));
                stage = record {
                  replaced = changed_here (line_of r.past) (newest r.past w) line (get_or q.newest w 0) last;
                  number = let a = newest_below r.past p.mapping w ready.above ready.place.place.mapping_from in let b = number_fits p ready.place in omega arith;
                  went = subst (IsGone past') (sym old_is) (went_out openings s r g may snd o refl);
                };
              }),
        )

-- ---- mark
marked_record : (recorded : ℕ → ℕ) (stances : ℕ → Stance) (m line : ℕ) (old : Option Place) (n : ℕ) (st : Status) → Records recorded stances (stage.Replaced m line old) n st → Records recorded stances (owing old) n st
marked_record recorded stances m line None n unmade h = h
marked_record recorded stances m line None n (in_lane v p) h = h
marked_record recorded stances m line None n (held v p) h = h
marked_record recorded stances m line None n (gone v p) h = h
marked_record recorded stances m line (Some q) n unmade h = h
marked_record recorded stances m line (Some q) n (in_lane v p) h = h
marked_record recorded stances m line (Some q) n (held v p) h = h
marked_record recorded stances m line (Some q) n (gone v p) h = h

owing_stands : (recorded : ℕ → ℕ) (past : List Event) (lanes : ℕ) (old : Option Place) → IsGone past old → StageStands recorded past lanes (owing old)
owing_stands recorded past lanes None h = tt
owing_stands recorded past lanes (Some p) h = h

pub mark_law : MarkLaw
mark_law openings s r id q m line old at stage_is =
    subst (λ (y : Stage). Stays openings s r (moved s id (Mark m) (λ _. line) (Mover (record q { stage = marked y })))) (sym stage_is) (mark_with openings s r id q m line old at stage_is)
  where
    mark_with : (openings : List Place) (s : St) (r : Kept openings s) (id : ℕ) (q : Plan) (m line : ℕ) (old : Option Place) → get_elem? s.views id ≡ some (Mover q) → q.stage ≡ stage.Replaced m line old
        → Stays openings s r (moved s id (Mark m) (λ _. line) (Mover (record q { stage = owing old })))
    mark_with openings s r id q m line old at stage_is =
        let k = mover_knows openings s r id q at in
        let is = subst (StageStands r.words.recorded r.past (length openings)) stage_is k.planned.stage in
        mover_writes openings s r id q at (Mark m) line is.number (record q { stage = owing old }) refl refl r.past r.lawful refl (λ v. refl) r.each_lane
        (λ n. marked_record r.words.recorded r.stances m line old n (status r.past n) (subst (λ (y : Stage). Records r.words.recorded r.stances y n (status r.past n)) stage_is (k.each_record n)))
        (λ n free. either_way n m
        (λ e. changed_here r.words.mark m line n e ∙ sym (ap (line_of r.past) e ∙ is.replaced))
        (λ ne. changed_else r.words.mark m line n ne ∙ k.each_mark n (λ u. ne (sym (subst (λ (y : Stage). IsUnmarked y n) stage_is u)))))
        (record { made = k.planned.made; wide = k.planned.wide; newest = k.planned.newest; stage = owing_stands r.words.recorded r.past (length openings) old is.went })

-- ---- split and join
pub split_law : SplitLaw
split_law openings s r id q at inside none =
    let k = mover_knows openings s r id q at in
    let w = q.dealt in
    let q' : Plan = dealing q in
    let n = length (set s.views id (Mover q')) in
    let owner' : ℕ → ℕ = changed r.owner w n in
    let free = k.dealt.undealt w (omega arith) in
    mover_seats openings s r id q at owner' (w + 1) q.back (set s.views id (Mover q') ++ Worker w (hand stance.Rest []) ∷ [])
    (mover_splits r.past r.stances r.owner q r.mover s.views k.each_seat owner' q' id w (hand stance.Rest []) k.mover refl refl refl (let l = ap length none in omega arith)
    (λ v l. changed_else r.owner w n v (λ e. omega arith)) (changed_here r.owner w n w refl) (λ i. hand (sym free.0 i) (sym free.1 i)))
    (split_sits r.past r.stances r.owner q r.mover s.views k.seated owner' q' id w (hand stance.Rest []) k.mover refl refl refl
    (λ v l. changed_else r.owner w n v (λ e. omega arith)) (changed_here r.owner w n w refl) (λ i. hand (sym free.0 i) (sym free.1 i)))
    (record { few = omega arith; undealt = λ v l. k.dealt.undealt v (omega arith); back = k.dealt.back })

pub join_law : JoinLaw
join_law openings s r id q other w taken at apart there next =
    let k = mover_knows openings s r id q at in
    let h = hand stance.Rest taken in
    let theirs = k.each_seat other (Worker w h) there in
    let rest : r.stances w ≡ stance.Rest = ap (λ (x : Hand). x.stance) (sym theirs.3) in
    let takes : takes_of r.past w ≡ taken = ap (λ (x : Hand). x.taken) (sym theirs.3) in
    let q' : Plan = gathering q h in
    let n = length-append q.back (h ∷ []) in
    mover_seats openings s r id q at r.owner q.dealt (q.back ++ h ∷ []) (set (set s.views id (Mover q')) other Spent)
    (mover_joins r.past r.stances r.owner q r.mover s.views k.each_seat q' id other w h k.mover there next refl (omega arith))
    (join_sits r.past r.stances r.owner q r.mover s.views k.seated q' id other w h k.mover apart there next refl (omega arith))
    (record {
      few = k.dealt.few;
      undealt = k.dealt.undealt;
      back = λ v l. either_way v (length q.back)
          (λ e. (ap r.stances (e ∙ sym next) ∙ rest, ap (λ (j : ℕ). get_elem? (q.back ++ h ∷ []) j) e ∙ (at_last q.back h (length q.back) refl ∙ ap (λ (ps : List Place). some (hand stance.Rest ps)) (sym takes ∙ ap (takes_of r.past) (next ∙ sym e)))))
          (λ ne. let u = k.dealt.back v (omega arith) in (u.0, at_longer q.back (h ∷ []) v (hand stance.Rest (takes_of r.past v)) u.1));
    })

-- what a refresh's swap finds: nothing, or the word of a stack
pub refresh_found : (openings : List Place) (s : St) (r : Kept openings s) (id : ℕ) (q : Plan) (g : Given) → get_elem? s.views id ≡ some (Mover q) → q.stage ≡ stage.Recorded g → get_or s.words g.lane 0 ≢ 0 → IsStackWord (get_or s.words g.lane 0)
refresh_found openings s r id q g at stage_is some_one =
    let ready = subst (StageStands r.words.recorded r.past (length openings)) stage_is (mover_knows openings s r id q at).planned.stage in
    let few : g.lane < 64 = let a = ready.lane in let b = r.few in omega arith in
    by_lane (sound openings s r) (lane_of r.past g.lane) refl (r.reads.1 (Lane g.lane) few ∙ (r.each_lane g.lane).word)
  where
    by_lane : Sound r.past → (o : Option Place) → lane_of r.past g.lane ≡ o → get_or s.words g.lane 0 ≡ lane_word (lane_of r.past g.lane) → IsStackWord (get_or s.words g.lane 0)
    by_lane snd None lane word = absurd (some_one (word ∙ ap lane_word lane))
    by_lane snd (Some x) lane word = subst IsStackWord (sym (word ∙ ap lane_word lane)) (stack_word x (at_status snd x.mapping (in_lane g.lane x) ((snd.lane g.lane).inside x lane).0).0.place)

-- the mapping that a lane was given last has a mark
pub lane_number : (openings : List Place) (s : St) (r : Kept openings s) (id : ℕ) (q : Plan) (g : Given) → get_elem? s.views id ≡ some (Mover q) → q.stage ≡ stage.Recorded g → get_or q.newest g.lane 0 < 4096
lane_number openings s r id q g at stage_is =
    let k = mover_knows openings s r id q at in
    let ready = subst (StageStands r.words.recorded r.past (length openings)) stage_is k.planned.stage in
    let last : get_or q.newest g.lane 0 ≡ newest r.past g.lane = k.planned.newest g.lane ready.lane in
    let a = newest_below r.past g.place.mapping g.lane ready.above ready.place.place.mapping_from in
    let b = number_fits g.place ready.place in
    omega arith
