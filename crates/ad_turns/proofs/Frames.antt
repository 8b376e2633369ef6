-- What stays of the rule's parts at a step.
use Rattle.std.proofs.Common.{◌≡◌, ◌≢◌, ⊎_elim, inl, inr, ℕ, ◌+◌, ◌<◌, ◌≤◌, List, [], ◌∷◌, ◌++◌, length, length-append, sym, ap, ◌∙◌, subst, arith}
use Rattle.std.proofs.lemmas.List.Elements.{All-push, All-weaker}
use Rattle.ad_base.specs.declared.book.Book.{Book}
use Rattle.ad_turns.specs.declared.view.Drawn.{Drawn}
use Rattle.ad_turns.specs.declared.view.Turn.{Turn}
use Rattle.ad_turns.specs.declared.view.Stage.{Stage}
use Rattle.ad_turns.specs.declared.view.Stage.TheVariants.{Rests, Waits, Holds, Gives}
use Rattle.ad_turns.specs.declared.view.Hand.{Hand}
use Rattle.ad_turns.specs.Names.{changed}
use Rattle.ad_turns.specs.Rule.{HasSlot, Homes, IsHolder, IsTicket, SlotStands, StageStands, DrawnStands, TurnsStand}
use Rattle.ad_turns.specs.Steps.{draw_at}
use Rattle.ad_turns.specs.Turns.{turns_at, turns_by, AddsOwnEntry, Made}
use Rattle.ad_turns.proofs.Changed.{changed_here, changed_else, at_changed, either_way}
use Rattle.ad_turns.proofs.Lists.{turns_by_own, turns_by_other, turns_at_here, turns_at_else, pairs_more, contains_either}

-- ---- the one who drew a ticket, once another is drawn
abbrev pub drawing_by : (ℕ → ℕ → ℕ) → ℕ → ℕ → ℕ → ℕ → ℕ → ℕ
drawing_by who m t w = changed who m (changed (who m) t w)

module _ (who : ℕ → ℕ → ℕ) (m t w : ℕ) where
  pub who_here : (k u : ℕ) → k ≡ m → u ≡ t → drawing_by who m t w k u ≡ w
  who_here k u e f = ap (λ (g : ℕ → ℕ). g u) (changed_here who m (changed (who m) t w) k e) ∙ changed_here (who m) t w u f

  pub who_else : (k u : ℕ) → (k ≡ m → u ≢ t) → drawing_by who m t w k u ≡ who k u
  who_else k u other = either_way k m
      (λ e. ap (λ (g : ℕ → ℕ). g u) (changed_here who m (changed (who m) t w) k e) ∙ (changed_else (who m) t w u (other e) ∙ ap (λ (j : ℕ). who j u) (sym e)))
      (λ ne. ap (λ (g : ℕ → ℕ). g u) (changed_else who m (changed (who m) t w) k ne))

-- a ticket that was drawn isn't the next one
pub is_earlier : (ticket : ℕ → ℕ) (m t k u : ℕ) → ticket m ≡ t → u < ticket k → k ≡ m → u ≢ t
is_earlier ticket m t k u now low e f = let a : ticket k ≡ t = ap ticket e ∙ now in omega arith

-- ---- a ticket is drawn
module _ (ticket serving : ℕ → ℕ) (who : ℕ → ℕ → ℕ) (made : ℕ → List Made) (last : ℕ → Book) (modules m t w x : ℕ) (now : ticket m ≡ t) (more : x ≡ t + 1) where
  pub ticket_grows : (k : ℕ) → ticket k ≤ changed ticket m x k
  ticket_grows k = at_changed ticket m x k (λ (n : ℕ). ticket k ≤ n) (λ e. let a : ticket k ≡ t = ap ticket e ∙ now in omega arith) (λ _. omega arith)

  ticket_stays : (v k u : ℕ) → IsTicket ticket serving who modules v k u → IsTicket (changed ticket m x) serving (drawing_by who m t w) modules v k u
  ticket_stays v k u old = record {
    inside = old.inside;
    ahead = old.ahead;
    drawn = let a = ticket_grows k in let b = old.drawn in omega arith;
    own = who_else who m t w k u (is_earlier ticket m t k u now old.drawn) ∙ old.own;
  }

  holder_stays : (v k u : ℕ) (book : Book) (n : ℕ) → IsHolder ticket serving who made last modules v k u book n → IsHolder (changed ticket m x) serving (drawing_by who m t w) made last modules v k u book n
  holder_stays v k u book n old = record { is_ticket = ticket_stays v k u old.is_ticket; served = old.served; leaves = old.leaves; noted = old.noted }

  pub stage_draws : (v : ℕ) (stage : Stage) → StageStands ticket serving who made last modules v stage → StageStands (changed ticket m x) serving (drawing_by who m t w) made last modules v stage
  stage_draws v Rests old = tt
  stage_draws v (Waits k u) old = ticket_stays v k u old
  stage_draws v (Holds k u b) old = holder_stays v k u b u old
  stage_draws v (Gives k u b) old = holder_stays v k u b (u + 1) old

  -- what another worker drew
  pub drawn_stays : (v : ℕ) (drawn : List Drawn) → DrawnStands ticket who v drawn → DrawnStands (changed ticket m x) (drawing_by who m t w) v drawn
  drawn_stays v drawn old = record {
    own = λ k u has.
        let mine = old.own k u has in
        ((let a = ticket_grows k in let b = mine.0 in omega arith), who_else who m t w k u (is_earlier ticket m t k u now mine.0) ∙ mine.1);
  }

  -- and what the one drew who draws
  pub drawn_more : (drawn : List Drawn) → DrawnStands ticket who w drawn → DrawnStands (changed ticket m x) (drawing_by who m t w) w (drawn ++ draw_at m t ∷ [])
  drawn_more drawn old = record {
    own = λ k u has. ⊎_elim
        (λ h. (drawn_stays w drawn old).own k u h)
        (λ e.
        let same : k ≡ m = ap (λ (d : Drawn). d.«module») (sym e) in
        let this : u ≡ t = ap (λ (d : Drawn). d.ticket) (sym e) in
        ((let a = changed_here ticket m x k same in omega arith), who_here who m t w k u same this))
        (contains_either drawn (draw_at m t) (draw_at k u) has);
  }

-- ---- a turn is noted: by the worker w, at the module m, with the ticket that is served
module _ (ticket serving : ℕ → ℕ) (who : ℕ → ℕ → ℕ) (modules m t w : ℕ) (served : t ≡ serving m) (own : who m t ≡ w) where
  -- no other worker has the ticket that is served
  pub no_other : (v k u : ℕ) → v ≢ w → IsTicket ticket serving who modules v k u → k ≡ m → u ≢ t
  no_other v k u ne old e f = ne (sym old.own ∙ ((λ i. who (e i) (f i)) ∙ own))

  pub not_served : (v k u : ℕ) → v ≢ w → IsTicket ticket serving who modules v k u → u ≡ serving k → k ≢ m
  not_served v k u ne old here e = no_other v k u ne old e (here ∙ (ap serving e ∙ sym served))

  module _ (made : ℕ → List Made) (last : ℕ → Book) (made' : List Made) (after : Book) where
    holder_notes : (v k u : ℕ) (book : Book) (n : ℕ) → v ≢ w → IsHolder ticket serving who made last modules v k u book n → IsHolder ticket serving who (changed made m made') (changed last m after) modules v k u book n
    holder_notes v k u book n ne old =
        let other = not_served v k u ne old.is_ticket old.served in
        record { is_ticket = old.is_ticket; served = old.served; leaves = old.leaves ∙ sym (changed_else last m after k other); noted = ap length (changed_else made m made' k other) ∙ old.noted }

    pub stage_notes : (v : ℕ) (stage : Stage) → v ≢ w → StageStands ticket serving who made last modules v stage → StageStands ticket serving who (changed made m made') (changed last m after) modules v stage
    stage_notes v Rests ne old = tt
    stage_notes v (Waits k u) ne old = old
    stage_notes v (Holds k u b) ne old = holder_notes v k u b u ne old
    stage_notes v (Gives k u b) ne old = holder_notes v k u b (u + 1) ne old

  -- ---- the module is passed on
  module _ (made : ℕ → List Made) (last : ℕ → Book) (x : ℕ) (more : x ≡ t + 1) where
    ticket_passes : (v k u : ℕ) → v ≢ w → IsTicket ticket serving who modules v k u → IsTicket ticket (changed serving m x) who modules v k u
    ticket_passes v k u ne old = record {
      inside = old.inside;
      ahead = at_changed serving m x k (λ (n : ℕ). n ≤ u)
          (λ e. let a : serving k ≡ t = ap serving e ∙ sym served in let b = old.ahead in let c = no_other v k u ne old e in omega arith)
          (λ _. old.ahead);
      drawn = old.drawn;
      own = old.own;
    }

    holder_passes : (v k u : ℕ) (book : Book) (n : ℕ) → v ≢ w → IsHolder ticket serving who made last modules v k u book n → IsHolder ticket (changed serving m x) who made last modules v k u book n
    holder_passes v k u book n ne old = record {
      is_ticket = ticket_passes v k u ne old.is_ticket;
      served = old.served ∙ sym (changed_else serving m x k (not_served v k u ne old.is_ticket old.served));
      leaves = old.leaves;
      noted = old.noted;
    }

    pub stage_passes : (v : ℕ) (stage : Stage) → v ≢ w → StageStands ticket serving who made last modules v stage → StageStands ticket (changed serving m x) who made last modules v stage
    stage_passes v Rests ne old = tt
    stage_passes v (Waits k u) ne old = ticket_passes v k u ne old
    stage_passes v (Holds k u b) ne old = holder_passes v k u b u ne old
    stage_passes v (Gives k u b) ne old = holder_passes v k u b (u + 1) ne old

-- ---- the lists of turns, once one is noted
module _ (made : ℕ → List Made) (modules m w : ℕ) (turn : Turn) (at : turn.«module» ≡ m) where
  noted : List Made
  noted = made m ++ record { worker = w; turn = turn } ∷ []

  longer : (k : ℕ) → length (made k) ≤ length (changed made m (made m ++ record { worker = w; turn = turn } ∷ []) k)
  longer k = at_changed made m (made m ++ record { worker = w; turn = turn } ∷ []) k (λ (es : List Made). length (made k) ≤ length es)
      (λ e. let a = length-append (made m) (record { worker = w; turn = turn } ∷ []) in let b : length (made k) ≡ length (made m) = ap (λ (j : ℕ). length (made j)) e in omega arith)
      (λ _. omega arith)

  -- another worker's
  pub turns_stay : (v : ℕ) (turns : List Turn) → v ≢ w → TurnsStand made modules v turns → TurnsStand (changed made m (made m ++ record { worker = w; turn = turn } ∷ [])) modules v turns
  turns_stay v turns ne old = record {
    inside = old.inside;
    listed = λ k. at_changed made m (made m ++ record { worker = w; turn = turn } ∷ []) k (λ (es : List Made). turns_at k turns ≡ turns_by v es)
        (λ e. old.listed k ∙ (ap (λ (j : ℕ). turns_by v (made j)) e ∙ sym (turns_by_other (made m) v w turn ne)))
        (λ _. old.listed k);
    behind = All-weaker (λ (t : Turn). t.position < length (made t.«module»)) (λ (t : Turn). t.position < length (changed made m (made m ++ record { worker = w; turn = turn } ∷ []) t.«module»)) (λ t l. let a = longer t.«module» in omega arith) turns old.behind;
    rising = old.rising;
    own = old.own;
  }

  -- and those of the worker that noted it
  pub turns_more : (turns : List Turn) → m < modules → turn.position ≡ length (made m) → AddsOwnEntry w turn → TurnsStand made modules w turns → TurnsStand (changed made m (made m ++ record { worker = w; turn = turn } ∷ [])) modules w (turns ++ turn ∷ [])
  turns_more turns lies next mine old = record {
    inside = All-push (λ (t : Turn). t.«module» < modules) turns turn old.inside (subst (λ (k : ℕ). k < modules) (sym at) lies);
    listed = λ k. at_changed made m (made m ++ record { worker = w; turn = turn } ∷ []) k (λ (es : List Made). turns_at k (turns ++ turn ∷ []) ≡ turns_by w es)
        (λ e. turns_at_here turns k turn (at ∙ sym e) ∙ (ap (λ (ts : List Turn). ts ++ turn ∷ []) (old.listed k ∙ ap (λ (j : ℕ). turns_by w (made j)) e) ∙ sym (turns_by_own (made m) w turn)))
        (λ ne. turns_at_else turns k turn (λ e. ne (sym e ∙ at)) ∙ old.listed k);
    behind = All-push (λ (t : Turn). t.position < length (changed made m (made m ++ record { worker = w; turn = turn } ∷ []) t.«module»)) turns turn
        (All-weaker (λ (t : Turn). t.position < length (made t.«module»)) (λ (t : Turn). t.position < length (changed made m (made m ++ record { worker = w; turn = turn } ∷ []) t.«module»)) (λ t l. let a = longer t.«module» in omega arith) turns old.behind)
        (let a = changed_here made m (made m ++ record { worker = w; turn = turn } ∷ []) turn.«module» at in let b = ap length a in let c = length-append (made m) (record { worker = w; turn = turn } ∷ []) in omega arith);
    rising = pairs_more (λ (t u : Turn). t.«module» ≡ u.«module» → t.position < u.position) turns turn old.rising
        (All-weaker (λ (t : Turn). t.position < length (made t.«module»)) (λ (t : Turn). t.«module» ≡ turn.«module» → t.position < turn.position)
        (λ t l e. let a : length (made t.«module») ≡ length (made m) = ap (λ (j : ℕ). length (made j)) (e ∙ at) in omega arith) turns old.behind);
    own = All-push (AddsOwnEntry w) turns turn old.own mine;
  }

-- ---- the slots
-- a worker keeps its slot, or has none, and the homes stay
pub slot_stays : (homes : Homes) (serving : ℕ → ℕ) (hands : ℕ → Hand) (made : ℕ → List Made) (last : ℕ → Book) (w : ℕ) (h' : Hand) (k : ℕ) → (HasSlot (hands w).stage k → HasSlot h'.stage k)
    → SlotStands homes serving hands made last k → SlotStands homes serving (changed hands w h') made last k
slot_stays homes serving hands made last w h' k keeps (inl has) = inl (has.0, at_changed hands w h' has.0 (λ (h : Hand). HasSlot h.stage k) (λ e. keeps (subst (λ (v : ℕ). HasSlot (hands v).stage k) e has.1)) (λ _. has.1))
slot_stays homes serving hands made last w h' k keeps (inr home) = inr home

-- who has the slot of a module has the ticket that is served
pub holder_is : (ticket serving : ℕ → ℕ) (who : ℕ → ℕ → ℕ) (made : ℕ → List Made) (last : ℕ → Book) (modules v : ℕ) (stage : Stage) (m : ℕ) → StageStands ticket serving who made last modules v stage → HasSlot stage m → who m (serving m) ≡ v
holder_is ticket serving who made last modules v Rests m old has = absurd has
holder_is ticket serving who made last modules v (Waits k u) m old has = absurd has
holder_is ticket serving who made last modules v (Holds k u b) m old has = (λ i. who (sym has i) (serving (sym has i))) ∙ (ap (who k) (sym old.served) ∙ old.is_ticket.own)
holder_is ticket serving who made last modules v (Gives k u b) m old has = (λ i. who (sym has i) (serving (sym has i))) ∙ (ap (who k) (sym old.served) ∙ old.is_ticket.own)
