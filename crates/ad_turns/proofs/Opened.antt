-- What a table is opened with, where each worker may draw as often.
use Rattle.std.proofs.Common.{Result, Ok, Err, IfOk, ◌≡◌, ℕ, zero, suc, ◌*◌, ◌<◌, ◌≤◌, List, [], ◌∷◌, length, get_or, Some, IfSome, slice_get, sym, ap, ◌∙◌, subst, arith}
use Rattle.std.specs.List.{All}
use Rattle.std.proofs.lemmas.List.Sums.{sum_by-le}
use Rattle.std.proofs.lemmas.Option.{slice_get-get_or, slice_get_within}
use Rattle.atomic_table.specs.Seated.{TableId}
use Rattle.ad_base.specs.declared.book.Book.{Book}
use Rattle.ad_turns.specs.Seen.{SeatSeen, new_seat, AreAll, AreNew}
use Rattle.ad_turns.specs.Steps.{no_book}
use Rattle.ad_turns.specs.Turns.{draws_of}
use Rattle.ad_turns.proofs.Ended.{if_got, some_is}

-- a number of the list, or 0 past its end
bounded : (numbers : List ℕ) (most m : ℕ) → All (λ (n : ℕ). n ≤ most) numbers → get_or numbers m 0 ≤ most
bounded [] most m h = omega arith
bounded (n ∷ numbers) most zero h = h 0 0 (omega arith)
bounded (n ∷ numbers) most (suc m) h = bounded numbers most m (λ k d l. h (suc k) d (omega arith))

-- books with room for all that workers draw who may draw at most so often
pub rooms_for : (calls : List (List ℕ)) (numbers : List ℕ) (books : List Book) (most workers : ℕ) → length calls ≡ workers → All (λ (left : List ℕ). left ≡ numbers) calls → All (λ (n : ℕ). n ≤ most) numbers
    → All (λ (b : Book). b.history.room ≡ workers * most) books → (m : ℕ) → IfSome (slice_get books m) (λ b. draws_of calls m ≤ b.history.room)
rooms_for calls numbers books most workers count same few room m = if_got (λ b. draws_of calls m ≤ b.history.room) books m (λ x e.
    let l = slice_get_within books m x e in
    let is : get_or books m no_book ≡ x = some_is (sym (slice_get-get_or books m no_book l) ∙ e) in
    let bound = sum_by-le (λ (c : List ℕ). get_or c m 0) most calls (λ k d low. subst (λ (c : List ℕ). get_or c m 0 ≤ most) (sym (same k d low)) (bounded numbers most m few)) in
    let have : x.history.room ≡ workers * most = ap (λ (b : Book). b.history.room) (sym is) ∙ room m no_book l in
    let count_is : length calls * most ≡ workers * most = ap (λ (n : ℕ). n * most) count in
    omega arith)

module _ (table : TableId) (calls : List (List ℕ)) (seats : List SeatSeen) (new : AreNew table calls seats) where
  is_new : (w : ℕ) (x : SeatSeen) → slice_get seats w ≡ Some x → (w < length calls) × (x ≡ new_seat table w (get_or calls w []))
  is_new w x e =
      let low : w < length calls = let l = slice_get_within seats w x e in let c = new.count in omega arith in
      (low, some_is (sym e ∙ new.each w low))

  -- new seats are all seats of their table
  pub all_of_new : (n : ℕ) → length calls ≡ n → AreAll table n seats
  all_of_new n count = record {
    count = new.count ∙ count;
    each = λ w. if_got (λ s. (s.table ≡ table) × (s.worker ≡ w)) seats w (λ x e. let is = (is_new w x e).1 in (ap (λ (s : SeatSeen). s.table) is, ap (λ (s : SeatSeen). s.worker) is));
  }

  -- and have the draws of the opening
  pub all_left : (numbers : List ℕ) → All (λ (left : List ℕ). left ≡ numbers) calls → All (λ (s : SeatSeen). s.left ≡ numbers) seats
  all_left numbers same k d l =
      let is = is_new k (get_or seats k d) (slice_get-get_or seats k d l) in
      ap (λ (s : SeatSeen). s.left) is.1 ∙ same k [] is.0

pub if_ok : {A E : Type 0} (P Q : A → Type 0) → ((x : A) → P x → Q x) → (r : Result A E) → IfOk r P → IfOk r Q
if_ok P Q f (Ok x) h = f x h
if_ok P Q f (Err e) h = h
