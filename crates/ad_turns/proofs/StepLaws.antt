-- Each step of a worker keeps the rule.
use Rattle.std.proofs.Common.{◌≡◌, ◌≢◌, ⊎_elim, inl, inr, ℕ, ◌+◌, ◌-◌, ◌<◌, ◌≤◌, List, [], ◌∷◌, ◌++◌, length, get_or, set, Option, sym, refl, ap, ◌∙◌, subst, arith}
use mathlib.Core.Logic.{dite}
use native.Mathlib.Decide.{dec_le}
use Rattle.std.specs.List.{Contains}
use Rattle.std.specs.Option.{IsSomeAnd}
use Rattle.std.proofs.Math.ListN.{length-set}
use Rattle.std.proofs.lemmas.List.{get_or-set_same, get_or-set_other}
use Rattle.std.proofs.lemmas.Option.{slice_get-get_or}
use mathlib.Core.Option.{some, none}
use lib.ListN.{get_elem?}
use Rattle.atomic_table.proofs.Lists.{set_else, set_again}
use Rattle.ad_base.specs.declared.book.Book.{Book}
use Rattle.ad_turns.specs.declared.view.Drawn.{Drawn}
use Rattle.ad_turns.specs.declared.view.Turn.{Turn}
use Rattle.ad_turns.specs.declared.view.Stage.{Stage}
use Rattle.ad_turns.specs.declared.view.Stage.TheVariants.{Rests, Waits, Holds}
use Rattle.ad_turns.specs.declared.view.Hand.{Hand}
use Rattle.ad_turns.specs.declared.view.Doing.TheVariants.{Worker}
use Rattle.ad_turns.specs.Names.{Ticket, Serving, changed, wrote}
use Rattle.ad_turns.specs.Rule.{Kept, Knows, HandStands, HasSlot, IsAtHome, IsTicket, SlotStands, St, left_to, total}
use Rattle.ad_turns.specs.Steps.{draw_at, drawing, hand, no_book, IsServed}
use Rattle.ad_turns.specs.Turns.{draws_of, HaveLengths, Made}
use Rattle.ad_turns.specs.Laws.{one_more, DrawLaw, LookLaw, MissLaw}
use Rattle.ad_turns.proofs.Changed.{changed_here, changed_else, at_changed, either_way}
use Rattle.ad_turns.proofs.Frames.{drawing_by, who_here, who_else, ticket_grows, stage_draws, drawn_stays, drawn_more, slot_stays, holder_is}
use Rattle.ad_turns.proofs.Lists.{nonzero_inside, contains_earlier, contains_last}
use Rattle.ad_turns.proofs.Seats.{worker_steps, AllKnow}
use Rattle.ad_turns.proofs.Totals.{total_changed, total_has}
use Rattle.ad_turns.proofs.Writes.{writes, reads}

-- ---- what a worker's seat knows of the table
module _ (openings : List Book) (calls : List (List ℕ)) (s : St) (r : Kept openings calls s) (id w : ℕ) (stage : Stage) (left : List ℕ) (drawn : List Drawn) (turns : List Turn) (at : get_elem? s.views id ≡ some (Worker w (hand stage left drawn turns))) where
  pub mine : Knows calls r.hands r.owner r.joined r.dealt r.dealer id (Worker w (hand stage left drawn turns))
  mine = r.each_seat id (Worker w (hand stage left drawn turns)) at

  pub hand_is : r.hands w ≡ hand stage left drawn turns
  hand_is = sym mine.3

  pub known : w < length calls
  known = let a = mine.0 in let b = r.all_dealt in omega arith

  pub stands : HandStands r.words.ticket r.words.serving r.who r.made r.last (length openings) w (hand stage left drawn turns)
  stands = subst (HandStands r.words.ticket r.words.serving r.who r.made r.last (length openings) w) hand_is (r.each_hand w known)

  -- no seat of it was split off yet: it is another worker
  pub undealt_other : (v : ℕ) → r.dealt ≤ v → v ≢ w
  undealt_other v l e = let d = mine.0 in omega arith

  -- a module at which the worker has a draw left
  pub drawable : (m : ℕ) → 0 < get_or left m 0 → m < length openings
  drawable m more = let a = nonzero_inside left m more in let b = stands.wide in omega arith

  -- each worker's part, where this worker's is new, and the others' stay
  pub each_hand_by : (ticket serving : ℕ → ℕ) (who : ℕ → ℕ → ℕ) (made : ℕ → List Made) (last : ℕ → Book) (h' : Hand) → HandStands ticket serving who made last (length openings) w h'
      → ((v : ℕ) → v ≢ w → HandStands r.words.ticket r.words.serving r.who r.made r.last (length openings) v (r.hands v) → HandStands ticket serving who made last (length openings) v (r.hands v))
      → (v : ℕ) → v < length calls → HandStands ticket serving who made last (length openings) v (changed r.hands w h' v)
  each_hand_by ticket serving who made last h' new others v l = at_changed r.hands w h' v (HandStands ticket serving who made last (length openings) v)
      (λ e. subst (λ (u : ℕ). HandStands ticket serving who made last (length openings) u h') (sym e) new)
      (λ ne. others v ne (r.each_hand v l))

  -- the draws left, where the worker's stay
  pub same_left : (h' : Hand) → h'.left ≡ left → (m v : ℕ) → left_to (changed r.hands w h') m v ≡ left_to r.hands m v
  same_left h' e m v = at_changed r.hands w h' v (λ (h : Hand). get_or h.left m 0 ≡ left_to r.hands m v)
      (λ f. ap (λ (xs : List ℕ). get_or xs m 0) (e ∙ (ap (λ (h : Hand). h.left) (sym hand_is) ∙ ap (λ (u : ℕ). (r.hands u).left) (sym f))))
      (λ _. refl)

  pub each_draw_stays : (h' : Hand) → h'.left ≡ left → (m : ℕ) → m < length openings → r.words.ticket m + total (left_to (changed r.hands w h') m) (length calls) ≤ draws_of calls m
  each_draw_stays h' e m l =
      let a = total_changed (left_to r.hands m) (left_to (changed r.hands w h') m) (length calls) w known (λ v _. same_left h' e m v) in
      let b = same_left h' e m w in
      let c = r.each_draw m l in omega arith

  -- the tickets drawn, where the worker's stay
  pub each_ticket_stays : (h' : Hand) → h'.drawn ≡ drawn → (m t : ℕ) → m < length openings → t < r.words.ticket m → Contains (changed r.hands w h' (r.who m t)).drawn (draw_at m t)
  each_ticket_stays h' e m t l low = at_changed r.hands w h' (r.who m t) (λ (h : Hand). Contains h.drawn (draw_at m t))
      (λ f. subst (λ (ds : List Drawn). Contains ds (draw_at m t)) (ap (λ (u : ℕ). (r.hands u).drawn) f ∙ (ap (λ (h : Hand). h.drawn) hand_is ∙ sym e)) (r.each_ticket m t l low))
      (λ _. r.each_ticket m t l low)

  -- and where it drew one more
  pub each_ticket_more : (h' : Hand) (d : Drawn) → h'.drawn ≡ drawn ++ d ∷ [] → (m t : ℕ) → m < length openings → t < r.words.ticket m → Contains (changed r.hands w h' (r.who m t)).drawn (draw_at m t)
  each_ticket_more h' d e m t l low = at_changed r.hands w h' (r.who m t) (λ (h : Hand). Contains h.drawn (draw_at m t))
      (λ f. subst (λ (ds : List Drawn). Contains ds (draw_at m t)) (sym e) (contains_earlier drawn d (draw_at m t)
      (subst (λ (ds : List Drawn). Contains ds (draw_at m t)) (ap (λ (u : ℕ). (r.hands u).drawn) f ∙ ap (λ (h : Hand). h.drawn) hand_is) (r.each_ticket m t l low))))
      (λ _. r.each_ticket m t l low)

  -- the draws left, where the worker has one less of the module
  pub each_draw_less : (h' : Hand) (n x : ℕ) → h'.left ≡ set left n (get_or left n 0 - 1) → 0 < get_or left n 0 → x ≡ r.words.ticket n + 1 → (m : ℕ) → m < length openings
      → changed r.words.ticket n x m + total (left_to (changed r.hands w h') m) (length calls) ≤ draws_of calls m
  each_draw_less h' n x e more grown m l =
      let hands' : ℕ → Hand = changed r.hands w h' in
      let a = total_changed (left_to r.hands m) (left_to hands' m) (length calls) w known (λ v ne. ap (λ (h : Hand). get_or h.left m 0) (changed_else r.hands w h' v ne)) in
      let b : left_to r.hands m w ≡ get_or left m 0 = ap (λ (h : Hand). get_or h.left m 0) hand_is in
      let c : left_to hands' m w ≡ get_or (set left n (get_or left n 0 - 1)) m 0 = ap (λ (h : Hand). get_or h.left m 0) (changed_here r.hands w h' w refl) ∙ ap (λ (xs : List ℕ). get_or xs m 0) e in
      let old = r.each_draw m l in
      either_way m n
      (λ f.
      let d : get_or (set left n (get_or left n 0 - 1)) m 0 ≡ get_or left n 0 - 1 = ap (λ (k : ℕ). get_or (set left n (get_or left n 0 - 1)) k 0) f ∙ get_or-set_same left n (get_or left n 0 - 1) 0 (nonzero_inside left n more) in
      let g = changed_here r.words.ticket n x m f in
      let j : r.words.ticket m ≡ r.words.ticket n = ap r.words.ticket f in
      let k : get_or left m 0 ≡ get_or left n 0 = ap (λ (i : ℕ). get_or left i 0) f in
      omega arith)
      (λ ne.
      let d = get_or-set_other left n m (get_or left n 0 - 1) 0 ne in
      let g = changed_else r.words.ticket n x m ne in
      omega arith)

  -- what a worker at this stage has of a slot, any worker has that is this one
  pub has_slot : (m : ℕ) → HasSlot (r.hands w).stage m → HasSlot stage m
  has_slot m = subst (λ (h : Hand). HasSlot h.stage m) hand_is

-- ---- draw
pub draw_law : DrawLaw
draw_law openings calls s r id w m left drawn turns at more =
    let h : Hand = hand Rests left drawn turns in
    let found : ℕ = get_or s.words (1 + m) 0 in
    let t : ℕ = r.words.ticket m in
    let x : ℕ = one_more found in
    let h' : Hand = drawing m found h in
    let inside = drawable openings calls s r id w Rests left drawn turns at m more in
    let lt = known openings calls s r id w Rests left drawn turns at in
    let is = hand_is openings calls s r id w Rests left drawn turns at in
    let old = stands openings calls s r id w Rests left drawn turns at in
    let few : m < 8 = let a = r.few in omega arith in
    let here : found ≡ t = r.reads.1 (Ticket m) few in
    let mine_left : left_to r.hands m w ≡ get_or left m 0 = ap (λ (g : Hand). get_or g.left m 0) is in
    let next : x ≡ found + 1 = let a = r.each_draw m inside in let b = r.small m inside in let c = total_has (left_to r.hands m) (length calls) w lt in omega arith in
    let grown : x ≡ t + 1 = next ∙ ap (λ (n : ℕ). n + 1) here in
    let ticket' : ℕ → ℕ = changed r.words.ticket m x in
    let who' : ℕ → ℕ → ℕ = drawing_by r.who m found w in (
      record {
        words = wrote r.words (Ticket m) x;
        hands = changed r.hands w h';
        who = who';
        made = r.made;
        last = r.last;
        owner = r.owner;
        joined = r.joined;
        dealt = r.dealt;
        dealer = r.dealer;
        few = r.few;
        small = r.small;
        reads = writes s.words r.words (Ticket m) x few r.reads;
        deep = r.deep;
        each_module = λ k l. let o = r.each_module k l in record { few = let a = o.few in let b = ticket_grows r.words.ticket r.words.serving r.who r.made r.last (length openings) m found w x (sym here) next k in omega arith; passed = o.passed; book = o.book; numbered = o.numbered; reaches = o.reaches; whose = o.whose };
        each_slot = λ k l. slot_stays s.homes r.words.serving r.hands r.made r.last w h' k (λ has. absurd (has_slot openings calls s r id w Rests left drawn turns at k has)) (r.each_slot k l);
        each_draw = each_draw_less openings calls s r id w Rests left drawn turns at h' m x refl more grown;
        each_ticket = λ k u l low. either_way k m
            (λ e. either_way u found
            (λ f. subst (λ (v : ℕ). Contains (changed r.hands w h' v).drawn (draw_at k u)) (sym (who_here r.who m found w k u e f))
            (subst (λ (g : Hand). Contains g.drawn (draw_at k u)) (sym (changed_here r.hands w h' w refl)) (subst (Contains (drawn ++ draw_at m found ∷ [])) (λ i. draw_at (sym e i) (sym f i)) (contains_last drawn (draw_at m found)))))
            (λ nf. subst (λ (v : ℕ). Contains (changed r.hands w h' v).drawn (draw_at k u)) (sym (who_else r.who m found w k u (λ _. nf)))
            (each_ticket_more openings calls s r id w Rests left drawn turns at h' (draw_at m found) refl k u l (let a = changed_here r.words.ticket m x k e in let b : r.words.ticket k ≡ t = ap r.words.ticket e in omega arith))))
            (λ ne. subst (λ (v : ℕ). Contains (changed r.hands w h' v).drawn (draw_at k u)) (sym (who_else r.who m found w k u (λ e. absurd (ne e))))
            (each_ticket_more openings calls s r id w Rests left drawn turns at h' (draw_at m found) refl k u l (let a = changed_else r.words.ticket m x k ne in omega arith)));
        each_hand = each_hand_by openings calls s r id w Rests left drawn turns at ticket' r.words.serving who' r.made r.last h'
            (record { wide = length-set left m (get_or left m 0 - 1) ∙ old.wide; stage = record { inside = inside; ahead = let o = r.each_module m inside in let a = o.few in let b = o.passed in omega arith; drawn = let a = changed_here r.words.ticket m x m refl in omega arith; own = who_here r.who m found w m found refl refl }; turns = old.turns; drawn = drawn_more r.words.ticket r.words.serving r.who r.made r.last (length openings) m found w x (sym here) next drawn old.drawn })
            (λ v ne o. record {
              wide = o.wide;
              stage = stage_draws r.words.ticket r.words.serving r.who r.made r.last (length openings) m found w x (sym here) next v (r.hands v).stage o.stage;
              turns = o.turns;
              drawn = drawn_stays r.words.ticket r.words.serving r.who r.made r.last (length openings) m found w x (sym here) next v (r.hands v).drawn o.drawn;
            });
        each_seat = worker_steps calls r.hands r.owner r.joined r.dealt r.dealer s.views r.each_seat id w h h' at;
        all_dealt = r.all_dealt;
        undealt = λ v l. let o = r.undealt v l in (changed_else r.hands w h' v (undealt_other openings calls s r id w Rests left drawn turns at v l) ∙ o.0, o.1);
      },
      λ k. refl,
    )

-- ---- look

-- a worker that has a slot has its seat
module _ (openings : List Book) (calls : List (List ℕ)) (s : St) (r : Kept openings calls s) where
  pub holder_served : (v m : ℕ) → HasSlot (r.hands v).stage m → r.who m (r.words.serving m) ≡ v
  holder_served v m has = dite (dec_le r.dealt v)
      (λ l. absurd (subst (λ (h : Hand). HasSlot h.stage m) (r.undealt v l).0 has))
      (λ n. holder_is r.words.ticket r.words.serving r.who r.made r.last (length openings) v (r.hands v).stage m (r.each_hand v (let a = r.all_dealt in omega arith)).stage has)

module _ (openings : List Book) (calls : List (List ℕ)) (s : St) (r : Kept openings calls s) (id w m t : ℕ) (left : List ℕ) (drawn : List Drawn) (turns : List Turn) (at : get_elem? s.views id ≡ some (Worker w (hand (Waits m t) left drawn turns))) (here : get_or s.words (9 + m) 0 ≡ t) where
  ticket_is : IsTicket r.words.ticket r.words.serving r.who (length openings) w m t
  ticket_is = (stands openings calls s r id w (Waits m t) left drawn turns at).stage

  served_is : r.words.serving m ≡ t
  served_is = sym (r.reads.1 (Serving m) (let a = r.few in let b = ticket_is.inside in omega arith)) ∙ here

  -- the slot is at home, since no other worker has the ticket that is served
  slot_home : SlotStands s.homes r.words.serving r.hands r.made r.last m → IsAtHome s.homes (r.words.serving m) m (r.made m) (r.last m)
  slot_home (inr home) = home
  slot_home (inl has) =
      let same : has.0 ≡ w = sym (holder_served openings calls s r has.0 m has.1) ∙ (ap (r.who m) served_is ∙ ticket_is.own) in
      absurd (has_slot openings calls s r id w (Waits m t) left drawn turns at m (subst (λ (v : ℕ). HasSlot (r.hands v).stage m) same has.1))

  home : IsAtHome s.homes (r.words.serving m) m (r.made m) (r.last m)
  home = slot_home (r.each_slot m ticket_is.inside)

  book_served : IsServed openings m t (r.last m)
  book_served =
      let o = r.each_module m ticket_is.inside in record {
        entries = o.book.entries ∙ (home.quiet ∙ served_is);
        room = let a = o.book.room in let b = home.quiet in let c = served_is in let d = ticket_is.drawn in let e = r.each_draw m ticket_is.inside in omega arith;
        lengths = subst (λ (x : Option Book). IsSomeAnd x (λ opening. HaveLengths opening (r.last m))) (sym (slice_get-get_or openings m no_book ticket_is.inside)) o.book.lengths;
      }

pub look_law : LookLaw
look_law openings calls s r id w m t left drawn turns at here =
    let b : Book = r.last m in
    let h' : Hand = hand (Holds m t b) left drawn turns in
    let old = stands openings calls s r id w (Waits m t) left drawn turns at in
    let at_home = home openings calls s r id w m t left drawn turns at here in (
      b,
      at_home.here,
      book_served openings calls s r id w m t left drawn turns at here,
      (
        record {
          words = r.words;
          hands = changed r.hands w h';
          who = r.who;
          made = r.made;
          last = r.last;
          owner = r.owner;
          joined = r.joined;
          dealt = r.dealt;
          dealer = r.dealer;
          few = r.few;
          small = r.small;
          reads = reads s.words r.words (Serving m) r.reads;
          deep = length-set s.homes m none ∙ r.deep;
          each_module = r.each_module;
          each_slot = λ k l. either_way k m
              (λ e. inl (w, subst (λ (h : Hand). HasSlot h.stage k) (sym (changed_here r.hands w h' w refl)) (sym e)))
              (λ ne. slot_stays (set s.homes m none) r.words.serving r.hands r.made r.last w h' k (λ has. absurd (has_slot openings calls s r id w (Waits m t) left drawn turns at k has))
              (⊎_elim inl (λ (o : IsAtHome s.homes (r.words.serving k) k (r.made k) (r.last k)). inr (record { here = set_else s.homes m k none ne ∙ o.here; quiet = o.quiet })) (r.each_slot k l)));
          each_draw = each_draw_stays openings calls s r id w (Waits m t) left drawn turns at h' refl;
          each_ticket = each_ticket_stays openings calls s r id w (Waits m t) left drawn turns at h' refl;
          each_hand = each_hand_by openings calls s r id w (Waits m t) left drawn turns at r.words.ticket r.words.serving r.who r.made r.last h'
              (record {
                wide = old.wide;
                stage = record { is_ticket = old.stage; served = sym (served_is openings calls s r id w m t left drawn turns at here); leaves = refl; noted = at_home.quiet ∙ served_is openings calls s r id w m t left drawn turns at here };
                turns = old.turns;
                drawn = old.drawn;
              })
              (λ v ne o. o);
          each_seat = worker_steps calls r.hands r.owner r.joined r.dealt r.dealer s.views r.each_seat id w (hand (Waits m t) left drawn turns) h' at;
          all_dealt = r.all_dealt;
          undealt = λ v l. let o = r.undealt v l in (changed_else r.hands w h' v (undealt_other openings calls s r id w (Waits m t) left drawn turns at v l) ∙ o.0, o.1);
        },
        λ k. refl,
      ),
    )

pub miss_law : MissLaw
miss_law openings calls s r id w m t left drawn turns at = (
  record {
    words = r.words;
    hands = r.hands;
    who = r.who;
    made = r.made;
    last = r.last;
    owner = r.owner;
    joined = r.joined;
    dealt = r.dealt;
    dealer = r.dealer;
    few = r.few;
    small = r.small;
    reads = reads s.words r.words (Serving m) r.reads;
    deep = r.deep;
    each_module = r.each_module;
    each_slot = r.each_slot;
    each_draw = r.each_draw;
    each_ticket = r.each_ticket;
    each_hand = r.each_hand;
    each_seat = subst (AllKnow calls r.hands r.owner r.joined r.dealt r.dealer) (sym (set_again s.views id (Worker w (hand (Waits m t) left drawn turns)) at)) r.each_seat;
    all_dealt = r.all_dealt;
    undealt = r.undealt;
  },
  λ k. refl,
)
