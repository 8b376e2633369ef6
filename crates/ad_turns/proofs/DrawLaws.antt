-- What the rule says of the draws and of the tickets.
use Rattle.std.proofs.Common.{◌≡◌, ℕ, ◌+◌, ◌<◌, List, [], length, get_or, sym, ap, ◌∙◌, subst, arith}
use mathlib.Core.Logic.{dite}
use native.Mathlib.Decide.{dec_le}
use Rattle.std.specs.List.{Contains}
use Rattle.ad_base.specs.declared.book.Book.{Book}
use Rattle.ad_turns.specs.declared.view.Drawn.{Drawn}
use Rattle.ad_turns.specs.declared.view.Hand.{Hand}
use Rattle.ad_turns.specs.declared.view.Doing.TheVariants.{Worker}
use Rattle.ad_turns.specs.Names.{Ticket}
use Rattle.ad_turns.specs.Rule.{Kept, St}
use Rattle.ad_turns.specs.Steps.{draw_at}
use Rattle.ad_turns.specs.Laws.{DrawsLaw, TicketsLaw}

-- the word says how many tickets were drawn
drawn_word : (openings : List Book) (calls : List (List ℕ)) (s : St) (r : Kept openings calls s) (m : ℕ) → m < length openings → get_or s.words (1 + m) 0 ≡ r.words.ticket m
drawn_word openings calls s r m l = r.reads.1 (Ticket m) (let a = r.few in omega arith)

pub draws_law : DrawsLaw
draws_law openings calls s r = (
  λ id w h at. sym (r.each_seat id (Worker w h) at).3,
  λ m l. let a = drawn_word openings calls s r m l in let b = r.each_draw m l in omega arith,
)

-- a hand that was not dealt has drawn nothing, so who drew is a worker
who_drew : (openings : List Book) (calls : List (List ℕ)) (s : St) (r : Kept openings calls s) (w m t : ℕ) → Contains (r.hands w).drawn (draw_at m t) → w < length calls
who_drew openings calls s r w m t has = dite (dec_le (length calls) w)
    (λ l.
    let none = (r.undealt w (let a = r.all_dealt in omega arith)).0 in
    let nothing : Contains [] (draw_at m t) = subst (λ (ds : List Drawn). Contains ds (draw_at m t)) (ap (λ (h : Hand). h.drawn) none) has in
    absurd (let low = nothing.1 in omega arith))
    (λ n. omega arith)

pub tickets_law : TicketsLaw
tickets_law openings calls s r m t l =
    let word = drawn_word openings calls s r m l in (
      λ low.
          let has = r.each_ticket m t l (omega arith) in
          (r.who m t, who_drew openings calls s r (r.who m t) m t has, has),
      λ v w lv lw dv dw. sym ((r.each_hand v lv).drawn.own m t dv).1 ∙ ((r.each_hand w lw).drawn.own m t dw).1,
      λ w lw dw. let a = ((r.each_hand w lw).drawn.own m t dw).0 in omega arith,
    )
