-- The workers before their calls: new hands, from the seats of the three tables, with what they need for their calls.
use Rattle.std.proofs.Common.{◌≡◌, ℕ, ◌+◌, ◌<◌, List, [], length, map, slice_get, Option, Some, sym, ap, subst, ◌∙◌, arith}
use Rattle.std.specs.List.{All, range_with_len}
use Rattle.std.specs.Option.{IsSomeAnd}
use Rattle.std.proofs.lemmas.List.{length-map}
use Rattle.std.proofs.lemmas.List.FromFn.{get_or-range_with_len, length-range_with_len}
use Rattle.std.proofs.lemmas.Option.{get_or_from_slice_get, slice_get-get_or, slice_get_within}
use Rattle.ad_base.specs.declared.image.Image.{Image}
use Rattle.ad_lines.specs.LineLaws.{AreSteps}
use Rattle.ad_lines.specs.Sound.{Lines}
use Rattle.ad_lines.proofs.Elements.{all-reads}
use Rattle.ad_lines.proofs.ListReads.{map-read, read-map}
use Rattle.ad_maps.specs.Seen as maps
use Rattle.ad_run.specs.declared.threads.Job.{Job}
use Rattle.ad_run.specs.Calls.{calls_of_worker, AreThere, HaveDraws}
use Rattle.ad_run.specs.Jobs.{AreNewJobs, IsReady}
use Rattle.ad_run.specs.Opened.{draws_for, AreAllNewHands, AreNewHands}
use Rattle.ad_run.proofs.OpeningDraws.{calls-there, has-draws}
use Rattle.ad_stacks.specs.Seen as stacks
use Rattle.ad_turns.specs.Seen as turns
use Rattle.ad_wrapper.specs.declared.hands.Hands.{Hands}
use Rattle.ad_wrapper.specs.declared.hands.Ready.{Ready}
use Rattle.ad_wrapper.specs.declared.shared.Shared.{Shared}

pub read-counted : (n k : ℕ) → k < n → slice_get (range_with_len 0 n) k ≡ Some k
read-counted n k within =
    let at : 0 + k ≡ k = omega arith in
    slice_get-get_or (range_with_len 0 n) k 0 (omega (arith, within, length-range_with_len 0 n)) ∙ ap Some (get_or-range_with_len 0 n k 0 within ∙ at)

-- the seats of these hands, in order, are these
pub record AreOfSeats (seats : List maps.SeatSeen) (stack_seats : List stacks.SeatSeen) (turn_seats : List turns.SeatSeen) (hands : List Hands) : Type 0 where
  pub workers_are : map (λ (h : Hands). h.worker) hands ≡ range_with_len 0 (length seats)
  pub seats_are : map (λ (h : Hands). h.seat) hands ≡ seats
  pub stack_seats_are : map (λ (h : Hands). h.stack_seat) hands ≡ stack_seats
  pub turn_seats_are : map (λ (h : Hands). h.turn_seat) hands ≡ turn_seats

module _ (s : Shared) (l : Lines) where
  pub new-hands : (seats : List maps.SeatSeen) (stack_seats : List stacks.SeatSeen) (turn_seats : List turns.SeatSeen) (hands : List Hands)
      → maps.AreNew s.maps.table l.workers seats → stacks.AreNew s.stacks.table l.workers stack_seats → turns.AreNew s.turns.table s.turns.calls turn_seats
      → s.turns.calls ≡ map (draws_for l) (range_with_len 0 l.workers) → AreOfSeats seats stack_seats turn_seats hands → AreAllNewHands s l hands
  new-hands seats stack_seats turn_seats hands a b d drawn of = record {
    count = sym (length-map hands (λ (h : Hands). h.seat)) ∙ ap length of.seats_are ∙ a.count;
    each = λ w within.
        let h = map-read (λ (h : Hands). h.seat) hands w (maps.new_seat s.maps.table w) (ap (λ (xs : List maps.SeatSeen). slice_get xs w) of.seats_are ∙ a.each w within) in
        let number : Some h.0.worker ≡ Some w =
        sym (read-map (λ (h : Hands). h.worker) hands w h.0 h.1) ∙ ap (λ (xs : List ℕ). slice_get xs w) of.workers_are ∙ read-counted (length seats) w (omega (arith, within, a.count)) in
        let stack : Some h.0.stack_seat ≡ Some (stacks.new_seat s.stacks.table w) =
        sym (read-map (λ (h : Hands). h.stack_seat) hands w h.0 h.1) ∙ ap (λ (xs : List stacks.SeatSeen). slice_get xs w) of.stack_seats_are ∙ b.each w within in
        let draws : slice_get s.turns.calls w ≡ Some (draws_for l w) = ap (λ (xs : List (List ℕ)). slice_get xs w) drawn ∙ read-map (draws_for l) (range_with_len 0 l.workers) w w (read-counted l.workers w within) in
        let turn : Some h.0.turn_seat ≡ Some (turns.new_seat s.turns.table w (draws_for l w)) =
        sym (read-map (λ (h : Hands). h.turn_seat) hands w h.0 h.1)
        ∙ ap (λ (xs : List turns.SeatSeen). slice_get xs w) of.turn_seats_are
        ∙ d.each w (slice_get_within s.turns.calls w (draws_for l w) draws)
        ∙ ap (λ left. Some (turns.new_seat s.turns.table w left)) (get_or_from_slice_get s.turns.calls w (draws_for l w) [] draws) in
        let worker_is : h.0.worker ≡ w = cc in
        let stack_is : h.0.stack_seat ≡ stacks.new_seat s.stacks.table w = cc in
        let turn_is : h.0.turn_seat ≡ turns.new_seat s.turns.table w (draws_for l w) = cc in
        let new : AreNewHands s l w h.0 = record { worker = worker_is; seat = h.2; stack_seat = stack_is; turn_seat = turn_is } in
        subst (λ (o : Option Hands). IsSomeAnd o (AreNewHands s l w)) (sym h.1) new;
  }

  some-is : {A : Type 0} (o : Option A) (x : A) (P : A → Type 0) → o ≡ Some x → IsSomeAnd o P → P x
  some-is o x P e h = subst (λ p. IsSomeAnd p P) e h

  -- and each worker is ready
  pub new-ready : (jobs : List Job) → s.images ≡ l.images → AreSteps l.images l.workers l.steps → AreNewJobs s l jobs → All (IsReady s) jobs
  new-ready jobs images steps new =
      all-reads (IsReady s) jobs
      (λ k job e.
      let h = map-read (λ (h : Hands). Some h) new.hands k job.hands (ap (λ (xs : List (Option Hands)). slice_get xs k) (sym new.have) ∙ read-map (λ (j : Job). j.hands) jobs k job e) in
      let within : k < l.workers = omega (arith, new.new.count, slice_get_within new.hands k h.0 h.1) in
      let is = some-is (slice_get new.hands k) h.0 (AreNewHands s l k) h.1 (new.new.each k within) in
      let asked : Some job.calls.items ≡ Some (calls_of_worker k l.steps) =
      sym (read-map (λ (j : Job). j.calls.items) jobs k job e) ∙ ap (λ (xs : List (List Ready)). slice_get xs k) new.calls
      ∙ read-map (λ w. calls_of_worker w l.steps) (range_with_len 0 l.workers) k k (read-counted l.workers k within) in
      let calls : job.calls.items ≡ calls_of_worker k l.steps = cc in
      let there = calls-there l.images l.workers k l.steps steps.runnable in
      record {
        hands = h.0;
        has = sym h.2;
        of_worker = record {
          in_maps = ap (λ (x : maps.SeatSeen). x.table) is.seat;
          of_seat = ap (λ (x : maps.SeatSeen). x.worker) is.seat ∙ sym is.worker;
          in_stacks = ap (λ (x : stacks.SeatSeen). x.table) is.stack_seat;
          of_stack_seat = ap (λ (x : stacks.SeatSeen). x.worker) is.stack_seat ∙ sym is.worker;
          in_turns = ap (λ (x : turns.SeatSeen). x.table) is.turn_seat;
          of_turn_seat = ap (λ (x : turns.SeatSeen). x.worker) is.turn_seat ∙ sym is.worker;
        };
        there = subst (λ (is : List Image). AreThere is job.calls.items) (sym images) (subst (AreThere l.images) (sym calls) there);
        draws = subst (λ left. HaveDraws left job.calls.items) (sym (ap (λ (x : turns.SeatSeen). x.left) is.turn_seat)) (subst (HaveDraws (draws_for l k)) (sym calls) (has-draws l k there));
      })
