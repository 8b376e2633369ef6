-- The table allows each step to a seat that may make it.
use Rattle.std.proofs.Common.{◌≡◌, ℕ, ◌+◌, ◌-◌, ◌<◌, List, [], ◌∷◌, ◌++◌, length, get_or, Option, Some, sym, refl, ◌∙◌, subst, arith}
use mathlib.Core.Logic.{dite}
use native.Mathlib.Decide.{ℕ_discrete}
use Rattle.atomic_table.specs.Seated.{TableId}
use Rattle.atomic_table.specs.Table.{Allows, Enters, Joins, Splits, keeps, takes, gives}
use Rattle.atomic_table.proofs.Lists.{set_here, set_else}
use Rattle.ad_base.proofs.ListItems.{inside_of}
use Rattle.ad_base.specs.declared.book.Book.{Book}
use Rattle.ad_turns.specs.declared.view.Turn.{Turn}
use Rattle.ad_turns.specs.declared.view.Stage.TheVariants.{Rests, Waits, Holds, Gives}
use Rattle.ad_turns.specs.declared.view.Hand.{Hand}
use Rattle.ad_turns.specs.declared.view.Doing.TheVariants.{Spent, Worker, Dealer, Gatherer}
use Rattle.ad_turns.specs.Rule.{Kept}
use Rattle.ad_turns.specs.Steps.{At, Sat, hand, drawing, after_draw, after_deal, given_off, after_join, turns_of_view, Draws, Looks, Notes, Passes}
use Rattle.ad_turns.specs.Steps as steps
use Rattle.ad_turns.specs.Laws.{one_more, MayGive}
use Rattle.ad_turns.specs.Private.Handles.{IsAt, IsDoing, worker_of, left_of, drawn_by}
use Rattle.ad_turns.proofs.SeatLaws.{split_law, enter_law, join_law}
use Rattle.ad_turns.proofs.StepLaws.{draw_law, look_law, miss_law, stands}
use Rattle.ad_turns.proofs.TurnLaws.{one_turn, note_law, pass_law}

module _ (openings : List Book) (calls : List (List ℕ)) (slots id : ℕ) (st : At) (me : Sat) where
  pub allows_draw : (m : ℕ) → st.word ≡ 1 + m → IsDoing me Rests [] → 0 < get_or (left_of me.0) m 0 → Allows (Kept openings calls) slots id me (1 + m) one_more (Draws st me)
  allows_draw m word is more = subst (λ (x : Sat). Allows (Kept openings calls) slots id x (1 + m) one_more (Draws st x)) (sym is) (λ s r homes at fits.
      let h : Hand = hand Rests (left_of me.0) (drawn_by me.0) (turns_of_view me.0) in
      let found : ℕ = get_or s.words (1 + m) 0 in
      let e : m ≡ st.word - 1 = omega arith in
      let step = draw_law openings calls s r id (worker_of me.0) m (left_of me.0) (drawn_by me.0) (turns_of_view me.0) at more in
      (Worker (worker_of me.0) (drawing m found h), keeps, tt, step.0, (λ i. (after_draw (e i) (Worker (worker_of me.0) h) found, []))))

  pub allows_look : (noted : List Book) (m t : ℕ) → noted ≡ openings → IsDoing me (Waits m t) [] → Allows (Kept openings calls) slots id me (9 + m) (λ n. n) (Looks noted st me)
  allows_look noted m t same is = subst (λ (os : List Book). Allows (Kept openings calls) slots id me (9 + m) (λ n. n) (Looks os st me)) (sym same)
      (subst (λ (x : Sat). Allows (Kept openings calls) slots id x (9 + m) (λ n. n) (Looks openings st x)) (sym is) (λ s r homes at fits.
      dite (ℕ_discrete (get_or s.words (9 + m) 0) t)
      (λ e.
      let step = look_law openings calls s r id (worker_of me.0) m t (left_of me.0) (drawn_by me.0) (turns_of_view me.0) at e in
      (Worker (worker_of me.0) (hand (Holds m t step.0) (left_of me.0) (drawn_by me.0) (turns_of_view me.0)), takes m (Some step.0), step.1, step.3.0, record { hit = λ _. record { book = step.0; view = refl; served = step.2 }; miss = λ ne. absurd (ne e) }))
      (λ ne.
      let step = miss_law openings calls s r id (worker_of me.0) m t (left_of me.0) (drawn_by me.0) (turns_of_view me.0) at in
      (Worker (worker_of me.0) (hand (Waits m t) (left_of me.0) (drawn_by me.0) (turns_of_view me.0)), keeps, tt, step.0, record { hit = λ e. absurd (ne e); miss = λ _. refl }))))

  pub allows_note : (m t : ℕ) (before after noted : Book) (held : List (ℕ × Option Book)) → after ≡ noted → IsDoing me (Holds m t before) held → MayGive (worker_of me.0) before after → Allows (Kept openings calls) slots id me (9 + m) (λ n. n) (Notes noted st me)
  allows_note m t before after noted held same is may = subst (λ (b : Book). Allows (Kept openings calls) slots id me (9 + m) (λ n. n) (Notes b st me)) same
      (subst (λ (x : Sat). Allows (Kept openings calls) slots id x (9 + m) (λ n. n) (Notes after st x)) (sym is) (λ s r homes at fits.
      let step = note_law openings calls s r id (worker_of me.0) m t before after (left_of me.0) (drawn_by me.0) (turns_of_view me.0) held at may in
      let now : List Turn = turns_of_view me.0 ++ one_turn m t before after ∷ [] in
      let there = set_here s.views id (Worker (worker_of me.0) (hand (Gives m t after) (left_of me.0) (drawn_by me.0) now)) (inside_of s.views id (Worker (worker_of me.0) (hand (Holds m t before) (left_of me.0) (drawn_by me.0) (turns_of_view me.0))) at) in
      (Worker (worker_of me.0) (hand (Gives m t after) (left_of me.0) (drawn_by me.0) now), keeps, tt, step.0, record { view = refl; rising = (stands openings calls _ step.0 id (worker_of me.0) (Gives m t after) (left_of me.0) (drawn_by me.0) now there).turns.rising })))

  pub allows_pass : (m t : ℕ) (after : Book) → IsDoing me (Gives m t after) ((m, Some after) ∷ []) → Allows (Kept openings calls) slots id me (9 + m) one_more (Passes st me)
  allows_pass m t after is = subst (λ (x : Sat). Allows (Kept openings calls) slots id x (9 + m) one_more (Passes st x)) (sym is) (λ s r homes at fits.
      let step = pass_law openings calls s r id (worker_of me.0) m t after (left_of me.0) (drawn_by me.0) (turns_of_view me.0) at in
      (Worker (worker_of me.0) (hand Rests (left_of me.0) (drawn_by me.0) (turns_of_view me.0)), gives, tt, step.0, refl))

-- the next worker's seat may be split off
pub allows_split : (openings : List Book) (calls : List (List ℕ)) (id : ℕ) (me : Sat) (k : ℕ) (cs : List (List ℕ)) → me ≡ (Dealer k cs, []) → k < length calls → Splits (Kept openings calls) id me.0 (after_deal me.0) (given_off me.0)
allows_split openings calls id me k cs is few = subst (λ (x : Sat). Splits (Kept openings calls) id x.0 (after_deal x.0) (given_off x.0)) (sym is)
    (λ s r at. (split_law openings calls s r id k cs at few).0)

-- a seat that joins the others may be made
pub allows_enter : (openings : List Book) (calls : List (List ℕ)) (slots : ℕ) (st : At) (first : Sat) → Enters (Kept openings calls) slots 0 (λ n view. steps.Enters st first n (view, []))
allows_enter openings calls slots st first s r homes fits = (Gatherer [], (enter_law openings calls s r).0, refl)

-- the next worker's seat may be joined to the gatherer's
module _ (me me' : Sat) (back : List Hand) (is : me ≡ (Gatherer back, [])) (is' : IsDoing me' Rests []) where
  pub allows_join : (openings : List Book) (calls : List (List ℕ)) (id other : ℕ) → worker_of me'.0 ≡ length back → Joins (Kept openings calls) id me.0 other me'.0 (after_join me.0 me'.0) Spent
  allows_join openings calls id other next =
      let f : Sat → Sat → Type 0 = λ x y. Joins (Kept openings calls) id x.0 other y.0 (after_join x.0 y.0) Spent in
      subst (λ (x : Sat). f x me') (sym is) (subst (λ (y : Sat). f (Gatherer back, []) y) (sym is') (λ s r at apart there.
      (join_law openings calls s r id other (worker_of me'.0) back (left_of me'.0) (drawn_by me'.0) (turns_of_view me'.0) at apart
      (sym (set_else s.views id other (Gatherer (back ++ hand Rests (left_of me'.0) (drawn_by me'.0) (turns_of_view me'.0) ∷ [])) apart) ∙ there) next).0))

  pub joined_view : ◌≡◌ {A = Sat} (after_join me.0 me'.0, me.1) (Gatherer (back ++ hand Rests (left_of me'.0) (drawn_by me'.0) (turns_of_view me'.0) ∷ []), [])
  joined_view = λ i. (after_join (is i).0 (is' i).0, (is i).1)

-- the word stands in the table
pub inside : {table seat : TableId} (index : ℕ) → IsAt table seat → index < 17 → index < table.words
inside index at low = let w = at.words in omega arith
