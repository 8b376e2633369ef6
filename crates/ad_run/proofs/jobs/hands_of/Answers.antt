use Rattle.std.proofs.Common.{◌≡◌, ℕ, ◌+◌, List, ◌∷◌, [], ◌++◌, ◌∙◌, option_to_list, ap, append_assoc, length, map, refl, sym, arith}
use Rattle.std.specs.List.{range_with_len}
use Rattle.std.proofs.lemmas.List.{length_push, map_push}
use Rattle.std.proofs.lemmas.List.FromFn.{map-range_with_len_more}
use Rattle.ad_lines.proofs.Opens.{next-item}
use Rattle.ad_wrapper.specs.declared.hands.Hands.{Hands}
use Rattle.ad_run.proofs.jobs.hands_of.Goals as goal

-- one pair of hands more
more : {A : Type 0} (f : Hands → A) (hands new : List Hands) (h : Hands) (left rest all : List A) → new ≡ hands ++ h ∷ [] → left ≡ f h ∷ rest → map f hands ++ left ≡ all → map f new ++ rest ≡ all
more f hands new h left rest all pushed next so_far =
    ap (λ xs. xs ++ rest) (ap (map f) pushed ∙ map_push f hands h)
    ∙ append_assoc (map f hands) (f h ∷ []) rest
    ∙ ap (λ xs. map f hands ++ xs) (sym next)
    ∙ so_far

same-items : (ns : List ℕ) → map (λ (n : ℕ). n) ns ≡ ns
same-items [] = refl
same-items (n ∷ ns) = ap (λ xs. n ∷ xs) (same-items ns)

counted-more : (n : ℕ) → range_with_len 0 (n + 1) ≡ range_with_len 0 n ++ n ∷ []
counted-more n =
    sym (same-items (range_with_len 0 (n + 1))) ∙ map-range_with_len_more (λ (k : ℕ). k) 0 n n (omega arith) ∙ ap (λ xs. xs ++ n ∷ []) (same-items (range_with_len 0 n))

pub loop-seat-preserved : goal.loop-seat-preserved
loop-seat-preserved c =
    let l = c.loop-seat in
    let hands = l.hands.items in
    let h : Hands = record { worker = c.len.result; seat = c.in-Some.seat; stack_seat = c.unwrap.result; turn_seat = c.unwrap-in-loop-seat.result; bytes = c.in_ok-new.field-0 } in
    let new = c.push.new.self.items in
    let pushed : new ≡ hands ++ h ∷ [] = c.in_ok-push.ensures.items in
    let seats = c.next.new.self.rest in
    let stack_seats = c.next-in-loop-seat.new.self.rest.items in
    let turn_seats = c.next-in-loop-seat-2.new.self.rest.items in
    let number : c.len.result ≡ length hands = omega (arith, c.len.ensures, l.hands.ok.0) in
    let longer : length hands + 1 ≡ length new = sym (ap length pushed ∙ length_push hands h) in
    record {
      workers_are =
          ap (map (λ (x : Hands). x.worker)) pushed
          ∙ map_push (λ (x : Hands). x.worker) hands h
          ∙ (λ j. l.invariant.workers_are j ++ number j ∷ [])
          ∙ sym (counted-more (length hands))
          ∙ ap (range_with_len 0) longer;
      seats_are = more (λ (x : Hands). x.seat) hands new h l.seat-iterator.rest.items seats.items c.args.seats.items pushed
          (next-item c.next.result c.in-Some.seat l.seat-iterator.rest.items seats.items l.seat-iterator.rest.len seats.len c.in-Some.is c.next.ensures.steps) l.invariant.seats_are;
      stack_seats_are = more (λ (x : Hands). x.stack_seat) hands new h l.stack_seats.rest.items stack_seats c.args.stack_seats.items pushed
          (c.next-in-loop-seat.ensures.items ∙ ap (λ o. option_to_list o ++ stack_seats) c.unwrap.ensures) l.invariant.stack_seats_are;
      turn_seats_are = more (λ (x : Hands). x.turn_seat) hands new h l.turn_seats.rest.items turn_seats c.args.turn_seats.items pushed
          (c.next-in-loop-seat-2.ensures.items ∙ ap (λ o. option_to_list o ++ turn_seats) c.unwrap-in-loop-seat.ensures) l.invariant.turn_seats_are;
    }
