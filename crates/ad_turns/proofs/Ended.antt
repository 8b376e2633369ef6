-- The end of a table: each book is reached by the turns of all seats.
use Rattle.std.proofs.Common.{◌≡◌, inl, inr, ℕ, zero, suc, ◌<◌, true, List, [], ◌∷◌, map, length, Option, None, Some, is_some, IfSome, IsSomeAnd, slice_get, sym, refl, ap, ◌∙◌, subst, arith}
use mathlib.Core.Logic.{dite}
use native.Mathlib.Decide.{dec_le}
use mathlib.Core.Option.{some, some-injective, some-ne-none}
use lib.ListN.{get_elem?}
use Rattle.std.specs.List.{All}
use Rattle.std.proofs.lemmas.Option.{slice_get-get_or, slice_get_within}
use Rattle.atomic_table.specs.Table.{Final, Seen}
use Rattle.ad_base.specs.declared.book.Book.{Book}
use Rattle.ad_turns.specs.declared.view.Stage.TheVariants.{Rests}
use Rattle.ad_turns.specs.declared.view.Turn.{Turn}
use Rattle.ad_turns.specs.declared.view.Hand.{Hand}
use Rattle.ad_turns.specs.declared.view.Doing.TheVariants.{Gatherer}
use Rattle.ad_turns.specs.Merged.{AreOwnTurns, AreReached, AreTurnsOf, HaveAllLengths, IsReached}
use Rattle.ad_turns.specs.Rule.{HasSlot, IsAtHome, Kept, Knows, SlotStands, St, opening_of}
use Rattle.ad_turns.specs.Seen.{SeatSeen}
use Rattle.ad_turns.specs.Steps.{no_book, Sat}
use Rattle.ad_turns.specs.Turns.{turns_at, turns_by, HaveLengths, Made}
use Rattle.ad_turns.specs.Private.Handles.{back_of, book_in, turns_in, turns_shown, IsGatherer}
use Rattle.ad_turns.proofs.Closing.{got, length_map, same_count}

-- what holds of a table with these slots once all seats were joined
pub record IsEnded (openings : List Book) (slots : List (Option Book)) (seats : List SeatSeen) : Type 0 where
  pub count : length (map book_in slots) ≡ length openings
  pub each : All (λ (slot : Option Book). is_some slot ≡ true) slots
  pub reached : AreReached openings (map book_in slots) seats
  pub lengths : HaveAllLengths openings (map book_in slots)
  pub turns : AreOwnTurns openings seats

-- ---- lists
pub some_is : {A : Type 0} {a b : A} → Some a ≡ Some b → a ≡ b
some_is e = cc

pub if_got : {A : Type 0} (P : A → Type 0) (xs : List A) (k : ℕ) → ((x : A) → slice_get xs k ≡ Some x → P x) → IfSome (slice_get xs k) P
if_got {A} P xs k h = by_item (slice_get xs k) refl
  where
    by_item : (o : Option A) → slice_get xs k ≡ o → IfSome o P
    by_item None e = tt
    by_item (Some x) e = h x e

at_map : {A B : Type 0} (f : A → B) (xs : List A) (k : ℕ) (x : A) → get_elem? xs k ≡ some x → get_elem? (map f xs) k ≡ some (f x)
at_map f [] k x e = absurd (some-ne-none x (sym e))
at_map f (y ∷ ys) zero x e = ap (λ z. some (f z)) (some-injective y x e)
at_map f (y ∷ ys) (suc k) x e = at_map f ys k x e

at_got : {A : Type 0} (xs : List A) (k : ℕ) (x : A) → slice_get xs k ≡ Some x → get_elem? xs k ≡ some x
at_got [] k x e = absurd (let f : ⊥ = cc in f)
at_got (y ∷ ys) zero x e = ap some (some_is e)
at_got (y ∷ ys) (suc k) x e = at_got ys k x e

got_at : {A : Type 0} (xs : List A) (k : ℕ) (x : A) → get_elem? xs k ≡ some x → slice_get xs k ≡ Some x
got_at [] k x e = absurd (some-ne-none x (sym e))
got_at (y ∷ ys) zero x e = ap Some (some-injective y x e)
got_at (y ∷ ys) (suc k) x e = got_at ys k x e

module _ (openings : List Book) (calls : List (List ℕ)) (s : St) (r : Kept openings calls s) (id : ℕ) (back : List Hand) (seats : List SeatSeen) (at : get_elem? s.views id ≡ some (Gatherer back)) (are : map turns_in back ≡ map turns_shown seats) (all : length seats ≡ length calls) where
  know : Knows calls r.hands r.owner r.joined r.dealt r.dealer id (Gatherer back)
  know = r.each_seat id (Gatherer back) at

  all_back : length back ≡ length calls
  all_back = sym (same_count back seats are) ∙ all

  at_rest : (w : ℕ) → (r.hands w).stage ≡ Rests
  at_rest w = dite (dec_le (length calls) w)
      (λ l. ap (λ (h : Hand). h.stage) (r.undealt w (let d = r.all_dealt in omega arith)).0)
      (λ n. (know w (let b = all_back in omega arith)).1)

  home : (m : ℕ) → m < length openings → IsAtHome s.homes (r.words.serving m) m (r.made m) (r.last m)
  home m l = by_slot (r.each_slot m l)
    where
      by_slot : SlotStands s.homes r.words.serving r.hands r.made r.last m → IsAtHome s.homes (r.words.serving m) m (r.made m) (r.last m)
      by_slot (inl has) = absurd (subst (λ d. HasSlot d m) (at_rest has.0) has.1)
      by_slot (inr h) = h

  -- the turns of a seat are those of its worker
  seat_known : (w : ℕ) (x : SeatSeen) → slice_get seats w ≡ Some x → (w < length calls) × ((r.hands w).turns ≡ x.turns)
  seat_known w x e =
      let low : w < length calls = let l = slice_get_within seats w x e in omega arith in
      let theirs = at_map turns_in back w (r.hands w) (know w (let b = all_back in omega arith)).2 in
      let shown = at_map turns_shown seats w x (at_got seats w x e) in
      (low, some-injective (r.hands w).turns x.turns (sym theirs ∙ (ap (λ (ts : List (List Turn)). get_elem? ts w) are ∙ shown)))

  own_turns : AreOwnTurns openings seats
  own_turns w = if_got (λ x. AreTurnsOf (length openings) w x.turns) seats w (λ x e.
      let k = seat_known w x e in
      let o = (r.each_hand w k.0).turns in
      subst (AreTurnsOf (length openings) w) k.1 (record { inside = o.inside; own = o.own; rising = o.rising }))

  reached : (m : ℕ) → m < length openings → IsReached m (opening_of openings m) (r.last m) seats
  reached m l =
      let o = r.each_module m l in record {
        made = r.made m;
        numbered = o.numbered;
        reaches = o.reaches;
        lists = λ w. if_got (λ x. turns_at m x.turns ≡ turns_by w (r.made m)) seats w (λ x e.
            let k = seat_known w x e in
            ap (turns_at m) (sym k.1) ∙ (r.each_hand w k.0).turns.listed m);
        workers = subst (λ (n : ℕ). All (λ (e : Made). e.worker < n) (r.made m)) (sym all) o.whose;
      }

  module _ (slots : List (Option Book)) (wide : length s.homes ≡ length slots) (same : (k : ℕ) (y : Option Book) → get_elem? s.homes k ≡ some (some y) → get_elem? slots k ≡ some y) where
    as_many : length slots ≡ length openings
    as_many = sym wide ∙ r.deep

    in_slot : (m : ℕ) → m < length openings → get_elem? slots m ≡ some (Some (r.last m))
    in_slot m l = same m (Some (r.last m)) (home m l).here

    for_each : (P : ℕ → Book → Book → Type 0) → ((m : ℕ) → m < length openings → P m (opening_of openings m) (r.last m)) → (m : ℕ) → IfSome (slice_get openings m) (λ opening. IsSomeAnd (slice_get (map book_in slots) m) (P m opening))
    for_each P h m = if_got (λ opening. IsSomeAnd (slice_get (map book_in slots) m) (P m opening)) openings m (λ x e.
        let l = slice_get_within openings m x e in
        let is : opening_of openings m ≡ x = some_is (sym (slice_get-get_or openings m no_book l) ∙ e) in
        subst (λ (o : Option Book). IsSomeAnd o (P m x)) (sym (got_at (map book_in slots) m (r.last m) (at_map book_in slots m (Some (r.last m)) (in_slot m l))))
        (subst (λ (b : Book). P m b (r.last m)) is (h m l)))

    pub ends : IsEnded openings slots seats
    ends = record {
      count = length_map book_in slots ∙ as_many;
      each = λ k d l. let a = in_slot k (let n = as_many in omega arith) in ap is_some (got slots k (Some (r.last k)) d a);
      reached = for_each (λ m opening book. IsReached m opening book seats) reached;
      lengths = for_each (λ m opening book. HaveLengths opening book) (λ m l. (r.each_module m l).book.lengths);
      turns = own_turns;
    }

pub ended_of : (key openings : List Book) (key_calls calls : List (List ℕ)) (seats : List SeatSeen) (id : ℕ) (me : Sat) (words : List ℕ) (slots : List (Option Book)) → Final (Seen (Kept key key_calls) id me.0) words slots
    → IsGatherer me → map turns_in (back_of me.0) ≡ map turns_shown seats → key ≡ openings → key_calls ≡ calls → length seats ≡ length calls → IsEnded openings slots seats
ended_of key openings key_calls calls seats id me words slots final is are open_is calls_is count =
    let at = final.1.1 ∙ ap (λ (m : Sat). some m.0) is in
    subst (λ (bs : List Book). IsEnded bs slots seats) open_is
    (ends key key_calls final.0 final.1.0 id (back_of me.0) seats at are (count ∙ ap (λ (cs : List (List ℕ)). length cs) (sym calls_is)) slots final.3 final.4)
