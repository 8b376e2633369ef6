-- The table allows each step to a seat that may make it.
use Rattle.std.proofs.Common.{◌≡◌, ℕ, ◌==◌, ◌+◌, ◌<◌, List, [], ◌∷◌, ◌++◌, length, get_or, Option, sym, refl, ap, ◌∙◌, subst, arith}
use mathlib.Core.Option.{some}
use lib.ListN.{get_elem?}
use prog.Atomic.{either}
use Rattle.atomic_table.specs.Seated.{TableId}
use Rattle.atomic_table.specs.Table.{Step, Allows, Splits, Joins, keeps}
use Rattle.atomic_table.proofs.Lists.{set_else}
use Rattle.ad_base.specs.declared.place.Place.{Place}
use Rattle.ad_base.specs.Place.{packed, place_at}
use Rattle.ad_stacks.specs.declared.view.Given.{Given}
use Rattle.ad_stacks.specs.declared.view.Hand.{Hand}
use Rattle.ad_stacks.specs.declared.view.Plan.{Plan}
use Rattle.ad_stacks.specs.declared.view.Stance.TheVariants as stance
use Rattle.ad_stacks.specs.declared.view.Stage.{Stage}
use Rattle.ad_stacks.specs.declared.view.Stage.TheVariants as stage
use Rattle.ad_stacks.specs.declared.view.Doing.{Doing}
use Rattle.ad_stacks.specs.declared.view.Doing.TheVariants.{Spent, Worker, Mover}
use Rattle.ad_stacks.specs.History.{Event, takes_of, NeverFall}
use Rattle.ad_stacks.specs.Rule.{St, Kept}
use Rattle.ad_stacks.specs.StackPlace.{record_word}
use Rattle.ad_stacks.specs.Steps.{Sat, hand, taken_by, after_take, after_put, after_gone, after_record, after_refresh, after_mark, replacing, to_mark, after_deal, given_off, after_join, Takes, Refreshes}
use Rattle.ad_stacks.specs.Laws.{MayRecord, counted}
use Rattle.ad_stacks.proofs.Changed.{changed_here}
use Rattle.ad_stacks.specs.Private.Handles.{IsWorker, IsMover, IsAt, IsOwing, plan_of, gathered_plan}
use Rattle.ad_stacks.specs.Opening.{mover_dealt}
use Rattle.ad_stacks.proofs.Sound.{sound_of}
use Rattle.ad_stacks.proofs.StepLaws.{take_found, take_law, taken_is, put_law, gone_law, mover_gone_law, record_law, refresh_law, refresh_found, lane_number, mark_law, split_law, join_law}

-- the view after is this function of the view before and of the word found
abbrev Then : (Doing → ℕ → Doing) → Sat → ℕ → Sat → Type 0
Then f me found me' = me' ≡ (f me.0 found, me.1)

module _ (openings : List Place) (slots id : ℕ) where
  pub allows_take : (st : Step (Unit {0})) (me : Sat) (w : ℕ) → IsWorker me w stance.Rest → Allows (Kept openings) slots id me w (λ _. 0) (Takes st me)
  allows_take st me w is = subst (λ (m : Sat). Allows (Kept openings) slots id m w (λ _. 0) (Takes st m)) (sym is.view) (λ s r homes at fits.
      let taken = taken_by me.0 in
      let found = get_or s.words w 0 in
      let q = place_at found in
      let step = take_law openings s r id w taken at in
      let last : takes_of (step.1.0).past w ≡ taken ++ q ∷ [] = ap (λ (es : List Event). takes_of es w) step.1.1 ∙ (changed_here (takes_of r.past) w (takes_of r.past w ++ q ∷ []) w refl ∙ ap (λ (ps : List Place). ps ++ q ∷ []) (taken_is openings s r id w stance.Rest taken at)) in (
        after_take (Worker w (hand stance.Rest taken)) found,
        keeps,
        tt,
        step.1.0,
        record { becomes = refl; word = (take_found openings s r id w taken at).0; rises = subst NeverFall last (((sound_of (step.1.0).past (step.1.0).lawful).lane w).rises) },
      ))

  pub allows_put : (me : Sat) (w : ℕ) (p : Place) (word : ℕ) → word ≡ packed p → IsWorker me w (stance.Holds p) → Allows (Kept openings) slots id me w (λ n. either (n == 0) word n) (Then after_put me)
  allows_put me w p word e is = subst (λ (x : ℕ). Allows (Kept openings) slots id me w (λ n. either (n == 0) x n) (Then after_put me)) (sym e)
      (subst (λ (m : Sat). Allows (Kept openings) slots id m w (λ n. either (n == 0) (packed p) n) (Then after_put m)) (sym is.view) (λ s r homes at fits.
      let step = put_law openings s r id w p (taken_by me.0) at in
      (after_put (Worker w (hand (stance.Holds p) (taken_by me.0))) (get_or s.words w 0), keeps, tt, step.1.0, refl)))

  pub allows_gone : (me : Sat) (p : Place) (index : ℕ) → index ≡ 64 + p.mapping → IsOwing me.0 p → me.1 ≡ [] → Allows (Kept openings) slots id me index counted (Then after_gone me)
  allows_gone me p index e owes none = subst (λ (k : ℕ). Allows (Kept openings) slots id me k counted (Then after_gone me)) (sym e)
      (subst (λ (m : Sat). Allows (Kept openings) slots id m (64 + p.mapping) counted (Then after_gone m)) (λ i. (me.0, sym none i)) (by_view me.0 owes))
    where
      by_view : (view : Doing) → IsOwing view p → Allows (Kept openings) slots id (view, []) (64 + p.mapping) counted (Then after_gone (view, []))
      by_view Spent h = absurd h
      by_view (Worker w h) is = λ s r homes at fits.
          let step = gone_law openings s r id w p h.taken (at ∙ (λ i. some (Worker w (hand (is i) h.taken)))) in
          (after_gone (Worker w h) (get_or s.words (64 + p.mapping) 0), keeps, tt, step.0, refl)
      by_view (Mover q) is = λ s r homes at fits.
          let step = mover_gone_law openings s r id q p at is in
          (after_gone (Mover q) (get_or s.words (64 + p.mapping) 0), keeps, tt, step.0, refl)

  pub allows_record : (me : Sat) (g noted : Given) (index word : ℕ) → index ≡ 64 + g.place.mapping → word ≡ record_word g.place g.lane 0 → g ≡ noted → IsMover me → (plan_of me.0).stage ≡ stage.Idle → MayRecord openings (plan_of me.0) g
      → Allows (Kept openings) slots id me index (λ _. word) (λ _. Then (after_record noted) me word)
  allows_record me g noted index word e f same is idle may =
      subst (λ (x : Given). Allows (Kept openings) slots id me index (λ _. word) (λ _. Then (after_record x) me word)) same
      (subst (λ (k : ℕ). Allows (Kept openings) slots id me k (λ _. word) (λ _. Then (after_record g) me word)) (sym e)
      (subst (λ (x : ℕ). Allows (Kept openings) slots id me (64 + g.place.mapping) (λ _. x) (λ _. Then (after_record g) me x)) (sym f)
      (subst (λ (m : Sat). Allows (Kept openings) slots id m (64 + g.place.mapping) (λ _. record_word g.place g.lane 0) (λ _. Then (after_record g) m (record_word g.place g.lane 0))) (sym is) (λ s r homes at fits.
      let step = record_law openings s r id (plan_of me.0) g at idle may in
      (after_record g (Mover (plan_of me.0)) 0, keeps, tt, step.0, refl)))))

  pub allows_refresh : (st : Step (Unit {0})) (me : Sat) (g : Given) (word : ℕ) → word ≡ packed g.place → IsMover me → (plan_of me.0).stage ≡ stage.Recorded g → Allows (Kept openings) slots id me g.lane (λ _. word) (Refreshes st me)
  allows_refresh st me g word e is stage_is = subst (λ (x : ℕ). Allows (Kept openings) slots id me g.lane (λ _. x) (Refreshes st me)) (sym e)
      (subst (λ (m : Sat). Allows (Kept openings) slots id m g.lane (λ _. packed g.place) (Refreshes st m)) (sym is) (λ s r homes at fits.
      let step = refresh_law openings s r id (plan_of me.0) g at stage_is in
      (after_refresh (Mover (plan_of me.0)) (get_or s.words g.lane 0), keeps, tt, step.1.0, record { becomes = refl; word = refresh_found openings s r id (plan_of me.0) g at stage_is; number = marks openings s r id (plan_of me.0) g at stage_is })))
    where
      marks : (openings : List Place) (s : St) (r : Kept openings s) (id : ℕ) (q : Plan) (g : Given) → get_elem? s.views id ≡ some (Mover q) → q.stage ≡ stage.Recorded g → to_mark (replacing q (get_or s.words g.lane 0) q.stage).stage < 4096
      marks openings s r id q g at stage_is = subst (λ (y : Stage). to_mark (replacing q (get_or s.words g.lane 0) y).stage < 4096) (sym stage_is) (lane_number openings s r id q g at stage_is)

  pub allows_mark : (me : Sat) (m line : ℕ) (old : Option Place) (index : ℕ) → index ≡ 64 + 4096 + m → IsMover me → (plan_of me.0).stage ≡ stage.Replaced m line old → Allows (Kept openings) slots id me index (λ _. line) (λ _. Then after_mark me line)
  allows_mark me m line old index e is stage_is = subst (λ (k : ℕ). Allows (Kept openings) slots id me k (λ _. line) (λ _. Then after_mark me line)) (sym e)
      (subst (λ (x : Sat). Allows (Kept openings) slots id x (4160 + m) (λ _. line) (λ _. Then after_mark x line)) (sym is) (λ s r homes at fits.
      let step = mark_law openings s r id (plan_of me.0) m line old at stage_is in
      (after_mark (Mover (plan_of me.0)) 0, keeps, tt, step.0, refl)))

-- the next worker's seat may be split off
pub allows_split : (openings : List Place) (id : ℕ) (me : Sat) (k : ℕ) → me ≡ (mover_dealt openings k, []) → k < length openings → Splits (Kept openings) id me.0 (after_deal me.0) (given_off me.0)
allows_split openings id me k is few = subst (λ (m : Sat). Splits (Kept openings) id m.0 (after_deal m.0) (given_off m.0)) (sym is)
    (λ s r at. (split_law openings s r id (plan_of (mover_dealt openings k)) at few refl).0)

-- the next worker's seat may be joined to the mover's
module _ (me me' : Sat) (q : Plan) (hands : List Hand) (w : ℕ) (is : me ≡ (Mover (gathered_plan q hands), [])) (is' : me' ≡ (Worker w (hand stance.Rest (taken_by me'.0)), [])) where
  joins_at : (openings : List Place) (id other : ℕ) → w ≡ length hands → Joins (Kept openings) id (Mover (gathered_plan q hands)) other (Worker w (hand stance.Rest (taken_by me'.0))) (Mover (gathered_plan q (hands ++ hand stance.Rest (taken_by me'.0) ∷ []))) Spent
  joins_at openings id other next s r at apart there = (join_law openings s r id (gathered_plan q hands) other w (taken_by me'.0) at apart (sym (set_else s.views id other (Mover (gathered_plan q (hands ++ hand stance.Rest (taken_by me'.0) ∷ []))) apart) ∙ there) next).0

  pub joined_view : ◌≡◌ {A = Sat} (after_join me.0 me'.0, me.1) (Mover (gathered_plan q (hands ++ hand stance.Rest (taken_by me'.0) ∷ [])), [])
  joined_view = λ i. (after_join (is i).0 (is' i).0, (is i).1)

pub allows_join : (openings : List Place) (id other : ℕ) (me me' : Sat) (q : Plan) (hands : List Hand) (w : ℕ) → me ≡ (Mover (gathered_plan q hands), []) → me' ≡ (Worker w (hand stance.Rest (taken_by me'.0)), []) → w ≡ length hands
    → Joins (Kept openings) id me.0 other me'.0 (after_join me.0 me'.0) Spent
allows_join openings id other me me' q hands w is is' next =
    let f : Sat → Sat → Type 0 = λ m n. Joins (Kept openings) id m.0 other n.0 (after_join m.0 n.0) Spent in
    subst (λ (m : Sat). f m me') (sym is) (subst (λ (n : Sat). f (Mover (gathered_plan q hands), []) n) (sym is') (joins_at me me' q hands w is is' openings id other next))

-- the word stands in the table
pub stands : {table seat : TableId} (index : ℕ) → IsAt table seat → index < 8256 → index < table.words
stands index at low = let w = at.words in omega arith
