-- The seats of a run's workers, as the tables are closed with them.
use Rattle.std.proofs.Common.{◌≡◌, List, [], ◌∷◌, ◌++◌, length, map, Option, Some, refl, sym, ap, ◌∙◌}
use Rattle.std.specs.Prelude.{option_to_list}
use Rattle.std.specs.List.{All}
use Rattle.std.proofs.lemmas.List.{length-map}
use Rattle.std.proofs.lemmas.List.Elements.{All-cons, All-nil}
use Rattle.ad_lines.proofs.ListReads.{map-read}
use Rattle.ad_maps.specs.Rows as maps
use Rattle.ad_maps.specs.Seen as seen
use Rattle.ad_run.specs.declared.threads.Job.{Job}
use Rattle.ad_run.specs.Ended.{hands_in, AreAllWorkers, HasHands, HaveHands}
use Rattle.ad_run.proofs.OnRows.{if-read}
use Rattle.ad_stacks.specs.Ledger as stacks
use Rattle.ad_stacks.specs.Seen as stack
use Rattle.ad_turns.specs.Seen as turns
use Rattle.ad_wrapper.specs.declared.hands.Hands.{Hands}
use Rattle.ad_wrapper.specs.declared.shared.Shared.{Shared}

-- what workers have in hand is these, if each has one of them
pub hands-are : (jobs : List Job) (hands : List Hands) → HaveHands jobs hands → hands_in jobs ≡ hands
hands-are [] [] e = refl
hands-are [] (h ∷ hs) e = absurd cc
hands-are (j ∷ js) [] e = absurd cc
hands-are (j ∷ js) (h ∷ hs) e =
    let first : j.hands ≡ Some h = cc in
    let rest : HaveHands js hs = cc in
    ap (λ (o : Option Hands). option_to_list o ++ hands_in js) first ∙ ap (λ xs. h ∷ xs) (hands-are js hs rest)

pub all-have : (jobs : List Job) (hands : List Hands) → HaveHands jobs hands → All HasHands jobs
all-have [] hands e = All-nil HasHands
all-have (j ∷ js) [] e = absurd cc
all-have (j ∷ js) (h ∷ hs) e =
    let first : j.hands ≡ Some h = cc in
    let rest : HaveHands js hs = cc in
    let has : HasHands j = cc in
    All-cons HasHands j js has (all-have js hs rest)

-- their seats in each table are all of it, in order of worker
module _ (s : Shared) (jobs : List Job) (w : AreAllWorkers s jobs) where
  pub map-seats : maps.AreAllSeats s.maps.table s.maps.shape.workers (map (λ (h : Hands). h.seat) w.hands)
  map-seats = record {
    count = length-map w.hands (λ (h : Hands). h.seat) ∙ w.in_maps;
    each = λ k. if-read (map (λ (h : Hands). h.seat) w.hands) k (λ (x : seen.SeatSeen). (x.table ≡ s.maps.table) × (x.worker ≡ k))
        (λ x e.
        let h = map-read (λ (h : Hands). h.seat) w.hands k x e in
        let of = w.each k h.0 h.1 in
        (ap (λ (y : seen.SeatSeen). y.table) (sym h.2) ∙ of.0.in_maps, ap (λ (y : seen.SeatSeen). y.worker) (sym h.2) ∙ of.0.of_seat ∙ of.1));
  }

  pub stack-seats : stacks.AreAll s.stacks.table (length s.stacks.openings) (map (λ (h : Hands). h.stack_seat) w.hands)
  stack-seats = record {
    count = length-map w.hands (λ (h : Hands). h.stack_seat) ∙ w.in_stacks;
    each = λ k. if-read (map (λ (h : Hands). h.stack_seat) w.hands) k (λ (x : stack.SeatSeen). (x.table ≡ s.stacks.table) × (x.worker ≡ k))
        (λ x e.
        let h = map-read (λ (h : Hands). h.stack_seat) w.hands k x e in
        let of = w.each k h.0 h.1 in
        (ap (λ (y : stack.SeatSeen). y.table) (sym h.2) ∙ of.0.in_stacks, ap (λ (y : stack.SeatSeen). y.worker) (sym h.2) ∙ of.0.of_stack_seat ∙ of.1));
  }

  pub turn-seats : turns.AreAll s.turns.table (length s.turns.calls) (map (λ (h : Hands). h.turn_seat) w.hands)
  turn-seats = record {
    count = length-map w.hands (λ (h : Hands). h.turn_seat) ∙ w.in_turns;
    each = λ k. if-read (map (λ (h : Hands). h.turn_seat) w.hands) k (λ (x : turns.SeatSeen). (x.table ≡ s.turns.table) × (x.worker ≡ k))
        (λ x e.
        let h = map-read (λ (h : Hands). h.turn_seat) w.hands k x e in
        let of = w.each k h.0 h.1 in
        (ap (λ (y : turns.SeatSeen). y.table) (sym h.2) ∙ of.0.in_turns, ap (λ (y : turns.SeatSeen). y.worker) (sym h.2) ∙ of.0.of_turn_seat ∙ of.1));
  }
