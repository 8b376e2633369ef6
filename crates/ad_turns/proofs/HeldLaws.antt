-- What the rule says of the seat that has a slot.
use Rattle.std.proofs.Common.{◌≡◌, ℕ, ◌<◌, List, length, sym, ap, ◌∙◌, subst, arith}
use mathlib.Core.Option.{some}
use lib.ListN.{get_elem?}
use Rattle.ad_base.specs.declared.book.Book.{Book}
use Rattle.ad_turns.specs.declared.view.Stage.{Stage}
use Rattle.ad_turns.specs.declared.view.Stage.TheVariants.{Rests, Waits, Holds, Gives}
use Rattle.ad_turns.specs.declared.view.Hand.{Hand}
use Rattle.ad_turns.specs.declared.view.Doing.TheVariants.{Worker}
use Rattle.ad_turns.specs.Names.{Serving}
use Rattle.ad_turns.specs.Rule.{HasSlot, Kept, St, StageStands}
use Rattle.ad_turns.specs.Steps.{ticket_of}
use Rattle.ad_turns.specs.Turns.{Made}
use Rattle.ad_turns.specs.Laws.{HeldLaw}
use Rattle.ad_turns.proofs.StepLaws.{holder_served}

-- who has the slot of a module has the ticket that is served
slot_served : (ticket serving : ℕ → ℕ) (who : ℕ → ℕ → ℕ) (made : ℕ → List Made) (last : ℕ → Book) (modules w : ℕ) (stage : Stage) (m : ℕ)
    → StageStands ticket serving who made last modules w stage → HasSlot stage m → (m < modules) × (ticket_of stage ≡ serving m)
slot_served ticket serving who made last modules w Rests m old has = absurd has
slot_served ticket serving who made last modules w (Waits k t) m old has = absurd has
slot_served ticket serving who made last modules w (Holds k t book) m old has = (subst (λ (j : ℕ). j < modules) has old.is_ticket.inside, old.served ∙ ap serving has)
slot_served ticket serving who made last modules w (Gives k t book) m old has = (subst (λ (j : ℕ). j < modules) has old.is_ticket.inside, old.served ∙ ap serving has)

module _ (openings : List Book) (calls : List (List ℕ)) (s : St) (r : Kept openings calls s) (m id w : ℕ) (h : Hand) (at : get_elem? s.views id ≡ some (Worker w h)) (has : HasSlot h.stage m) where
  -- it is the worker who drew the ticket that is served
  served_by : r.who m (r.words.serving m) ≡ w
  served_by = holder_served openings calls s r w m (subst (λ (g : Hand). HasSlot g.stage m) (r.each_seat id (Worker w h) at).3 has)

  served : (m < length openings) × (ticket_of h.stage ≡ r.words.serving m)
  served =
      let mine = r.each_seat id (Worker w h) at in
      slot_served r.words.ticket r.words.serving r.who r.made r.last (length openings) w h.stage m
      (subst (λ (g : Hand). StageStands r.words.ticket r.words.serving r.who r.made r.last (length openings) w g.stage) (sym mine.3) (r.each_hand w (let a = mine.0 in let b = r.all_dealt in omega arith)).stage) has

pub held_law : HeldLaw
held_law openings calls s r id w m h at has =
    let mine = served openings calls s r m id w h at has in (
      mine.0,
      mine.1 ∙ sym (r.reads.1 (Serving m) (let a = r.few in let b = mine.0 in omega arith)),
      λ other v g there theirs.
          let same : v ≡ w = sym (served_by openings calls s r m other v g there theirs) ∙ served_by openings calls s r m id w h at has in
          sym (r.each_seat other (Worker v g) there).2 ∙ (ap r.owner same ∙ (r.each_seat id (Worker w h) at).2),
    )
