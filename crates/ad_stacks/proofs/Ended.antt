-- A table that is closed with all its seats at rest: its words say the rows, and its history is told.
use Rattle.std.proofs.Common.{◌≡◌, ◌≢◌, ℕ, zero, suc, Bool, cond, eqb, eq-eqb, ne_eqb, ◌+◌, ◌*◌, ◌/◌, ◌%◌, ◌^◌, ◌<◌, ◌≤◌, List, [], ◌∷◌, ◌++◌, map, length, length-append, get_or, slice_get, Option, None, Some, IfSome, sym, refl, ap, ◌∙◌, subst, arith}
use mathlib.Core.Option.{some, some-injective}
use mathlib.Core.Logic.{dite}
use native.Mathlib.Decide.{dec_lt}
use lib.ListN.{get_elem?}
use Rattle.std.specs.List.{All, Any}
use Rattle.std.proofs.lemmas.List.{get_or_append_left}
use Rattle.std.proofs.Math.Seq.{get_or-append_seam}
use Rattle.atomic_table.specs.Table.{Final, Seen}
use Rattle.ad_base.specs.declared.ledger.Kind.TheVariants.{Stack}
use Rattle.ad_base.specs.declared.ledger.Row.{Row}
use Rattle.ad_base.specs.declared.place.Place.{Place}
use Rattle.ad_base.specs.Ledger.{IsUnmappedOnce}
use Rattle.ad_base.specs.Place.{packed, place_at}
use Rattle.ad_stacks.specs.declared.view.Given.{Given}
use Rattle.ad_stacks.specs.declared.view.Hand.{Hand}
use Rattle.ad_stacks.specs.declared.view.Plan.{Plan}
use Rattle.ad_stacks.specs.declared.view.Stance.{Stance}
use Rattle.ad_stacks.specs.declared.view.Stance.TheVariants as stance
use Rattle.ad_stacks.specs.declared.view.Stage.{Stage}
use Rattle.ad_stacks.specs.declared.view.Stage.TheVariants as stage
use Rattle.ad_stacks.specs.declared.view.Doing.TheVariants.{Mover}
use Rattle.ad_stacks.specs.Names.{Record, Mark}
use Rattle.ad_stacks.specs.StackPlace.{record_word, IsStackPlace, IsStackWord}
use Rattle.ad_stacks.specs.History.{Status, unmade, in_lane, held, gone, status, held_of, takes_of, line_of, openings_of, refreshes_of}
use Rattle.ad_stacks.specs.Rule.{St, Kept, Records, Counts, IsOwed, IsMoverOwed, IsRecorded, IsUnmarked, holding}
use Rattle.ad_stacks.specs.Steps.{Sat, hand}
use Rattle.ad_stacks.specs.Ledger.{all_given, by_number, AreRows, HaveHistory, HaveRows}
use Rattle.ad_stacks.specs.Seen.{SeatSeen}
use Rattle.ad_stacks.specs.Private.Handles.{gathered_plan}
use Rattle.ad_stacks.specs.Private.Rows.{row_at, row_in, rows_in, hand_of, AreRecords}
use Rattle.ad_base.proofs.Packing.{place_at-packed}
use Rattle.ad_stacks.proofs.Numbers.{packed_small, record_some, number_fits}
use Rattle.ad_stacks.proofs.Rows.{given, row_by, row_of, rows_given, are_rows, rows_once, history_rows, IsAtPlace, takes_are}
use Rattle.ad_stacks.proofs.Sound.{at_status}
use Rattle.ad_stacks.proofs.StepLaws.{sound, lanes_are}

-- the parts of a record word
record Parts (p : Place) (w c : ℕ) : Type 0 where
  low : record_word p w c % 2 ^ 48 ≡ packed p
  lane : record_word p w c / 2 ^ 48 % 2 ^ 8 ≡ w
  count : record_word p w c / 2 ^ 56 ≡ c

parts : (p : Place) (w c : ℕ) → IsStackPlace p → w < 64 → c < 256 → Parts p w c
parts p w c h few low_count =
    let n : ℕ = packed p in
    let small : n < 2 ^ 48 = packed_small p h in
    let t = of_numbers n w c small few low_count in
    record { low = t.0; lane = t.1; count = t.2 }
  where
    of_numbers : (n w c : ℕ) → n < 2 ^ 48 → w < 64 → c < 256 → ((n + w * 2 ^ 48 + c * 2 ^ 56) % 2 ^ 48 ≡ n) × ((n + w * 2 ^ 48 + c * 2 ^ 56) / 2 ^ 48 % 2 ^ 8 ≡ w) × ((n + w * 2 ^ 48 + c * 2 ^ 56) / 2 ^ 56 ≡ c)
    of_numbers n w c a b d = (omega arith, omega arith, omega arith)

row_at_record : (p : Place) (w c mark : ℕ) → IsStackPlace p → w < 64 → c < 256 → row_at (record_word p w c) mark ≡ record { mapping = p.mapping; kind = Stack; who = w; place = p; line = mark; unmaps = c }
row_at_record p w c mark h few low_count =
    let t = parts p w c h few low_count in
    let place : place_at (record_word p w c % 2 ^ 48) ≡ p = ap place_at t.low ∙ place_at-packed p h.place in
    let lane = t.lane in
    let count = t.count in
    λ i. record { mapping = (place i).mapping; kind = Stack; who = lane i; place = place i; line = mark; unmaps = count i }

stack_low : (p : Place) (w c : ℕ) → IsStackPlace p → w < 64 → c < 256 → IsStackWord (record_word p w c % 2 ^ 48)
stack_low p w c h few low_count =
    let t = parts p w c h few low_count in
    let place : place_at (record_word p w c % 2 ^ 48) ≡ p = ap place_at t.low ∙ place_at-packed p h.place in
    record { place = subst IsStackPlace (sym place) h; packs = t.low ∙ ap packed (sym place) }

-- an element of a list, in a longer one
any_left : {A : Type 0} (P : A → Type 0) (xs ys : List A) → Any P xs → Any P (xs ++ ys)
any_left P xs ys a = (a.0, a.1, let l = a.2 in omega (arith, length-append xs ys), get_or_append_left xs ys a.1 a.0 a.2 ∙ a.3, a.4)

any_seam : {A : Type 0} (P : A → Type 0) (xs : List A) (x : A) → P x → Any P (xs ++ x ∷ [])
any_seam P xs x h = (length xs, x, omega (arith, length-append xs (x ∷ [])), get_or-append_seam xs x [] x, h)

-- ---- the words, where each worker is at rest and no refresh is under way
module _ (openings : List Place) (s : St) (r : Kept openings s) (quiet : (w : ℕ) → r.stances w ≡ stance.Rest) (idle : r.plan.stage ≡ stage.Idle) where
  pub none_held : (w : ℕ) → held_of r.past w ≡ None
  none_held w = (r.each_lane w).holds ∙ ap holding (quiet w)

  not_owed : (w m : ℕ) → IsOwed (r.stances w) m → ⊥
  not_owed w m = subst (λ (d : Stance). IsOwed d m → ⊥) (sym (quiet w)) (λ o. o)

  not_mover_owed : (m : ℕ) → IsMoverOwed r.plan.stage m → ⊥
  not_mover_owed m = subst (λ (d : Stage). IsMoverOwed d m → ⊥) (sym idle) (λ o. o)

  few : (w : ℕ) → w < length (openings_of r.past) → w < 64
  few w l = let a = lanes_are openings s r in let b = r.few in omega arith

  -- the record word of a mapping, by its status
  pub record_is : (m : ℕ) → Records r.words.recorded r.stances r.plan.stage m (status r.past m)
  record_is = r.each_record

  pub mark_is : (m : ℕ) → m < 4096 → get_or s.words (4160 + m) 0 ≡ line_of r.past m
  mark_is m low = r.reads.1 (Mark m) low ∙ r.each_mark m (subst (λ (d : Stage). IsUnmarked d m → ⊥) (sym idle) (λ u. u))

  word_is : (m : ℕ) → m < 4096 → get_or s.words (64 + m) 0 ≡ r.words.recorded m
  word_is m low = r.reads.1 (Record m) low

  -- a replaced stack counts one unmap step, and no other counts any
  pub counted_in : (m w : ℕ) (p : Place) → status r.past m ≡ in_lane w p → r.words.recorded m ≡ record_word p w 0
  counted_in m w p e = subst (Records r.words.recorded r.stances r.plan.stage m) e (r.each_record m)

  pub counted_gone : (m w : ℕ) (p : Place) → status r.past m ≡ gone w p → r.words.recorded m ≡ record_word p w 1
  counted_gone m w p e = let c : Counts (r.words.recorded m) p w (IsOwed (r.stances w) m) (IsMoverOwed r.plan.stage m) = subst (Records r.words.recorded r.stances r.plan.stage m) e (r.each_record m) in c.counted (not_owed w m) (not_mover_owed m)

  no_row_in : (m : ℕ) → get_or s.words (64 + m) 0 ≡ 0 → row_in s.words m ≡ []
  no_row_in m e = ap (λ (b : Bool). cond {A = List Row} b [] (row_at (get_or s.words (64 + m) 0) (get_or s.words (4160 + m) 0) ∷ [])) (eq-eqb (get_or s.words (64 + m) 0) 0 e)

  one_row_in : (m w c line : ℕ) (p : Place) → IsStackPlace p → w < 64 → c < 256 → get_or s.words (64 + m) 0 ≡ record_word p w c → get_or s.words (4160 + m) 0 ≡ line → cond (eqb line 0) 0 1 ≡ c → row_in s.words m ≡ row_of (given w p 0) line ∷ []
  one_row_in m w c line p h low_lane low_count word mark count =
      ap (λ (b : Bool). cond {A = List Row} b [] (row_at (get_or s.words (64 + m) 0) (get_or s.words (4160 + m) 0) ∷ [])) (ne_eqb (get_or s.words (64 + m) 0) 0 (λ z. record_some p w c h.place (sym word ∙ z)))
      ∙ ((λ i. row_at (word i) (mark i) ∷ [])
      ∙ (ap (λ (x : Row). x ∷ []) (row_at_record p w c line h low_lane low_count)
      ∙ ap (λ (u : ℕ). record { mapping = p.mapping; kind = Stack; who = w; place = p; line = line; unmaps = u } ∷ []) (sym count)))

  row_is : (m : ℕ) → m < 4096 → (st : Status) → status r.past m ≡ st → row_in s.words m ≡ row_by (λ _. line_of r.past m) st
  row_is m low unmade e = no_row_in m (word_is m low ∙ (subst (Records r.words.recorded r.stances r.plan.stage m) e (r.each_record m)) (subst (λ (d : Stage). IsRecorded d m → ⊥) (sym idle) (λ o. o)))
  row_is m low (in_lane w p) e =
      let h = at_status (sound openings s r) m (in_lane w p) e in
      one_row_in m w 0 (line_of r.past m) p h.0.place (few w h.0.lane) (omega arith) (word_is m low ∙ counted_in m w p e) (mark_is m low) (ap (λ (b : Bool). cond b 0 1) (eq-eqb (line_of r.past m) 0 h.2))
  row_is m low (held w p) e = let h = at_status (sound openings s r) m (held w p) e in absurd (let f : Some p ≡ None = sym h.holds ∙ none_held w in let g : ⊥ = cc in g)
  row_is m low (gone w p) e =
      let h = at_status (sound openings s r) m (gone w p) e in
      one_row_in m w 1 (line_of r.past m) p h.0.place (few w h.0.lane) (omega arith) (word_is m low ∙ counted_gone m w p e) (mark_is m low) (ap (λ (b : Bool). cond b 0 1) (ne_eqb (line_of r.past m) 0 (λ z. let l = h.1 in omega arith)))

  -- each record word is 0, or has a stack's place
  record_has_place : (m : ℕ) → m < 4096 → (st : Status) → status r.past m ≡ st → get_or s.words (64 + m) 0 ≢ 0 → IsStackWord (get_or s.words (64 + m) 0 % 2 ^ 48)
  record_has_place m low unmade e made = absurd (made (word_is m low ∙ (subst (Records r.words.recorded r.stances r.plan.stage m) e (r.each_record m)) (subst (λ (d : Stage). IsRecorded d m → ⊥) (sym idle) (λ o. o))))
  record_has_place m low (in_lane w p) e made =
      let h = at_status (sound openings s r) m (in_lane w p) e in
      subst (λ (x : ℕ). IsStackWord (x % 2 ^ 48)) (sym (word_is m low ∙ counted_in m w p e)) (stack_low p w 0 h.0.place (few w h.0.lane) (omega arith))
  record_has_place m low (held w p) e made = let h = at_status (sound openings s r) m (held w p) e in absurd (let f : Some p ≡ None = sym h.holds ∙ none_held w in let g : ⊥ = cc in g)
  record_has_place m low (gone w p) e made =
      let h = at_status (sound openings s r) m (gone w p) e in
      subst (λ (x : ℕ). IsStackWord (x % 2 ^ 48)) (sym (word_is m low ∙ counted_gone m w p e)) (stack_low p w 1 h.0.place (few w h.0.lane) (omega arith))

  all_records : AreRecords s.words
  all_records m low made = record_has_place m low (status r.past m) refl made

  -- the rows that the words say are those of all stacks given, in order of number
  all_rows : (n : ℕ) → n ≤ 4096 → rows_in s.words n ≡ by_number (rows_given (all_given (openings_of r.past) (refreshes_of r.past))) n
  unfolding rows_in by_number
  all_rows zero low = refl
  all_rows (suc n) low = λ i. all_rows n (omega arith) i ++ (row_is n (omega arith) (status r.past n) refl ∙ sym (history_rows r.past r.lawful n)) i

  -- each place that a worker took is that of a row
  row_by_place : (w m : ℕ) (p : Place) (st : Status) → IsAtPlace w p st → (x : Row) × (row_by (λ _. line_of r.past m) st ≡ x ∷ []) × (x.who ≡ w) × (x.place ≡ p)
  row_by_place w m p unmade h = absurd h
  row_by_place w m p (in_lane v q) h = (row_of (given v q 0) (line_of r.past m), refl, h.0, h.1)
  row_by_place w m p (held v q) h = (row_of (given v q 0) (line_of r.past m), refl, h.0, h.1)
  row_by_place w m p (gone v q) h = (row_of (given v q 0) (line_of r.past m), refl, h.0, h.1)

  place_fits : (w : ℕ) (p : Place) → IsAtPlace w p (status r.past p.mapping) → p.mapping < 4096
  place_fits w p h = by_status (status r.past p.mapping) refl h
    where
      by_status : (st : Status) → status r.past p.mapping ≡ st → IsAtPlace w p st → p.mapping < 4096
      by_status unmade e h = absurd h
      by_status (in_lane v q) e h = let t = at_status (sound openings s r) p.mapping (in_lane v q) e in let n = number_fits q t.0.place in let m = t.0.number in omega arith
      by_status (held v q) e h = let t = at_status (sound openings s r) p.mapping (held v q) e in let n = number_fits q t.made.place in let m = t.made.number in omega arith
      by_status (gone v q) e h = let t = at_status (sound openings s r) p.mapping (gone v q) e in let n = number_fits q t.0.place in let m = t.0.number in omega arith

  has_row : (w : ℕ) (p : Place) → IsAtPlace w p (status r.past p.mapping) → (n : ℕ) → p.mapping < n → n ≤ 4096 → Any (λ (x : Row). (x.who ≡ w) × (x.place ≡ p)) (rows_in s.words n)
  unfolding rows_in
  has_row w p h zero low fits = absurd (omega arith)
  has_row w p h (suc n) low fits = dite (dec_lt p.mapping n)
      (λ less. any_left (λ (x : Row). (x.who ≡ w) × (x.place ≡ p)) (rows_in s.words n) (row_in s.words n) (has_row w p h n less (omega arith)))
      (λ not_less. let same : p.mapping ≡ n = omega arith in
      let one = row_by_place w n p (status r.past n) (subst (λ (k : ℕ). IsAtPlace w p (status r.past k)) same h) in
      subst (λ (xs : List Row). Any (λ (x : Row). (x.who ≡ w) × (x.place ≡ p)) (rows_in s.words n ++ xs)) (sym (row_is n (omega arith) (status r.past n) refl ∙ one.1)) (any_seam (λ (x : Row). (x.who ≡ w) × (x.place ≡ p)) (rows_in s.words n) one.0 (one.2, one.3)))

  taken_rows : (w : ℕ) → All (λ (p : Place). Any (λ (x : Row). (x.who ≡ w) × (x.place ≡ p)) (rows_in s.words 4096)) (takes_of r.past w)
  taken_rows w = λ k d l. let at = takes_are r.past r.lawful w k d l in has_row w (get_or (takes_of r.past w) k d) at 4096 (place_fits w (get_or (takes_of r.past w) k d) at) (omega arith)

-- ---- all seats are joined
-- what is known of a closed table
pub record IsEnded (openings : List Place) (refreshes : List Given) (seats : List SeatSeen) (words : List ℕ) : Type 0 where
  pub records : AreRecords words
  pub rows : AreRows openings refreshes (rows_in words 4096)
  pub once : All IsUnmappedOnce (rows_in words 4096)
  pub taken : HaveRows (rows_in words 4096) seats
  pub history : HaveHistory openings refreshes seats

module _ (openings : List Place) (s : St) (r : Kept openings s) (id : ℕ) (q : Plan) (seats : List SeatSeen) (at : get_elem? s.views id ≡ some (Mover q)) (stage_is : q.stage ≡ stage.Idle) (back : q.back ≡ map hand_of seats) (count : length seats ≡ length openings) where
  know : (plan_is : q ≡ r.plan) → r.plan.stage ≡ stage.Idle
  know plan_is = ap (λ (x : Plan). x.stage) (sym plan_is) ∙ stage_is

  plan_is : q ≡ r.plan
  plan_is = (r.each_seat id (Mover q) at).0

  came_back : (w : ℕ) (x : SeatSeen) → slice_get seats w ≡ Some x → (r.stances w ≡ stance.Rest) × (x.taken ≡ takes_of r.past w)
  came_back w x e =
      let low = within seats w x e in
      let b = r.dealt.back w (let p = ap (λ (y : Plan). length y.back) (sym plan_is) ∙ ap length back in let l = mapped seats in omega arith) in
      let was : get_elem? r.plan.back w ≡ some (hand_of x) = ap (λ (y : Plan). get_elem? y.back w) (sym plan_is) ∙ (ap (λ (hs : List Hand). get_elem? hs w) back ∙ at_seat seats w x e) in
      let same : hand_of x ≡ hand stance.Rest (takes_of r.past w) = some-injective (hand_of x) (hand stance.Rest (takes_of r.past w)) (sym was ∙ b.1) in
      (b.0, ap (λ (h : Hand). h.taken) same)
    where
      mapped : (xs : List SeatSeen) → length (map hand_of xs) ≡ length xs
      mapped [] = refl
      mapped (y ∷ ys) = ap suc (mapped ys)

      within : (xs : List SeatSeen) (k : ℕ) (y : SeatSeen) → slice_get xs k ≡ Some y → k < length xs
      within [] k y f = absurd (let g : ⊥ = cc in g)
      within (z ∷ zs) zero y f = omega arith
      within (z ∷ zs) (suc k) y f = let l = within zs k y f in omega arith

      at_seat : (xs : List SeatSeen) (k : ℕ) (y : SeatSeen) → slice_get xs k ≡ Some y → get_elem? (map hand_of xs) k ≡ some (hand_of y)
      at_seat [] k y f = absurd (let g : ⊥ = cc in g)
      at_seat (z ∷ zs) zero y f = ap (λ (x : SeatSeen). some (hand_of x)) (let g : z ≡ y = cc in g)
      at_seat (z ∷ zs) (suc k) y f = at_seat zs k y f

  at_rest : (w : ℕ) → r.stances w ≡ stance.Rest
  at_rest w = by_seat (slice_get seats w) refl
    where
      past_end : (xs : List SeatSeen) (k : ℕ) → slice_get xs k ≡ None → length xs ≤ k
      past_end [] k f = omega arith
      past_end (z ∷ zs) zero f = absurd (let g : ⊥ = cc in g)
      past_end (z ∷ zs) (suc k) f = let l = past_end zs k f in omega arith

      by_seat : (o : Option SeatSeen) → slice_get seats w ≡ o → r.stances w ≡ stance.Rest
      by_seat None e = (r.dealt.undealt w (let l = past_end seats w e in let d = r.dealt.few in omega arith)).0
      by_seat (Some x) e = (came_back w x e).0

  if_seat : (P : SeatSeen → Type 0) (w : ℕ) → ((x : SeatSeen) → slice_get seats w ≡ Some x → P x) → IfSome (slice_get seats w) P
  if_seat P w h = by_seat (slice_get seats w) refl
    where
      by_seat : (o : Option SeatSeen) → slice_get seats w ≡ o → IfSome o P
      by_seat None e = tt
      by_seat (Some x) e = h x e

  ends : IsEnded openings q.made seats s.words
  ends =
      let idle = know plan_is in
      let made : q.made ≡ refreshes_of r.past = ap (λ (x : Plan). x.made) plan_is ∙ r.planned.made in
      let are : rows_in s.words 4096 ≡ by_number (rows_given (all_given openings q.made)) 4096 = all_rows openings s r at_rest idle 4096 (omega arith) ∙ (λ i. by_number (rows_given (all_given (r.opened i) (sym made i))) 4096) in record {
        records = all_records openings s r at_rest idle;
        rows = are_rows openings q.made (rows_in s.words 4096) are;
        once = rows_once (all_given openings q.made) (rows_in s.words 4096) 4096 are;
        taken = λ w. if_seat (λ x. All (λ (p : Place). Any (λ (y : Row). (y.who ≡ w) × (y.place ≡ p)) (rows_in s.words 4096)) x.taken) w
            (λ x e. subst (All (λ (p : Place). Any (λ (y : Row). (y.who ≡ w) × (y.place ≡ p)) (rows_in s.words 4096))) (sym (came_back w x e).1) (taken_rows openings s r at_rest idle w));
        history = record {
          history = r.past;
          lawful = r.lawful;
          opened = r.opened;
          refreshed = sym made;
          taken = λ w. if_seat (λ x. x.taken ≡ takes_of r.past w) w (λ x e. (came_back w x e).1);
          quiet = none_held openings s r at_rest idle;
        };
      }

pub ended_of : (key openings : List Place) (refreshes : List Given) (seats : List SeatSeen) (id : ℕ) (me : Sat) (plan : Plan) (words : List ℕ) (homes : List (Unit {0})) → Final (Seen (Kept key) id me.0) words homes
    → me ≡ (Mover (gathered_plan plan (map hand_of seats)), []) → plan.stage ≡ stage.Idle → key ≡ openings → plan.made ≡ refreshes → length seats ≡ length openings → IsEnded openings refreshes seats words
ended_of key openings refreshes seats id me plan words homes final is idle open_is made_is count =
    let at = final.1.1 ∙ ap (λ (m : Sat). some m.0) is in
    let at_key : IsEnded key plan.made seats words = subst (IsEnded key plan.made seats) final.2 (ends key final.0 final.1.0 id (gathered_plan plan (map hand_of seats)) seats at idle refl (count ∙ ap (λ (ps : List Place). length ps) (sym open_is))) in
    subst (λ (ps : List Place). IsEnded ps refreshes seats words) open_is (subst (λ (gs : List Given). IsEnded key gs seats words) made_is at_key)
