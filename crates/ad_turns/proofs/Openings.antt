-- The table that is opened meets the rule.
use Rattle.std.proofs.Common.{◌≡◌, ℕ, zero, suc, ◌+◌, ◌<◌, ◌≤◌, false, List, [], ◌∷◌, ◌++◌, map, replicate, length, length-append, get_or, Option, Some, IfSome, inr, sym, refl, ap, ◌∙◌, subst, add-one, arith}
use Rattle.std.specs.List.{All, slice_get}
use Rattle.std.proofs.lemmas.List.{length-map, length-replicate, get_or-replicate, get_or_append_left}
use Rattle.std.proofs.lemmas.List.FromFn.{map-range_with_len_more}
use Rattle.std.proofs.lemmas.Option.{slice_get-get_or}
use Rattle.std.proofs.Math.Seq.{get_or-append_seam}
use mathlib.Core.Option.{some, some-injective, some-ne-none}
use lib.ListN.{get_elem?}
use Rattle.atomic_table.specs.Seated.{TableId}
use Rattle.ad_base.specs.declared.book.Book.{Book}
use Rattle.ad_turns.specs.declared.view.Doing.{Doing}
use Rattle.ad_turns.specs.declared.view.Doing.TheVariants.{Dealer}
use Rattle.ad_turns.specs.Names.{Name, Ticket, Serving, index, read, IsName}
use Rattle.ad_turns.specs.Opening.{dealt, new_worker, none_drawn, opened, opening_words, DealtLaw, OpenedLaw, WordsLaw}
use Rattle.ad_turns.specs.Rule.{Kept, Knows, new_hand, opening_of}
use Rattle.ad_turns.specs.Seen.{SeatSeen, new_seat, AreNew}
use Rattle.ad_turns.specs.Steps.{no_book}
use Rattle.ad_turns.specs.Turns.{draws_of}
use Rattle.ad_turns.specs.Private.Handles.{some_book}
use Rattle.ad_turns.proofs.Changed.{either_way}
use Rattle.ad_turns.proofs.SeatLaws.{split_law}
use Rattle.ad_turns.proofs.Totals.{total_draws}

all_zero : (n : ℕ) (words : List ℕ) → length words ≡ n → All (λ (x : ℕ). x ≡ 0) words → words ≡ replicate n 0
all_zero zero [] l zeros = refl
all_zero zero (x ∷ words) l zeros = absurd (omega arith)
all_zero (suc n) [] l zeros = absurd (omega arith)
all_zero (suc n) (x ∷ words) l zeros = λ i. zeros 0 0 (omega arith) i ∷ all_zero n words (omega arith) (λ k d low. zeros (suc k) d (omega arith)) i

-- words that are all zero are those that a table begins with
pub zeros_are : (words : List ℕ) → length words ≡ 17 → All (λ (x : ℕ). x ≡ 0) words → words ≡ opening_words
zeros_are words l zeros = all_zero 17 words l zeros

pub words_law : WordsLaw
words_law = (length-replicate {A = ℕ} 17 0, by_name, get_or-replicate {A = ℕ} 17 0 0 0 (omega arith))
  where
    by_name : (n : Name) → IsName n → get_or opening_words (index n) 0 ≡ read none_drawn n
    by_name (Ticket m) h = let l : m < 8 = h in get_or-replicate {A = ℕ} 17 (1 + m) 0 0 (omega arith)
    by_name (Serving m) h = let l : m < 8 = h in get_or-replicate {A = ℕ} 17 (9 + m) 0 0 (omega arith)

-- each book is in its slot
at_home : (openings : List Book) (m : ℕ) → m < length openings → get_elem? (map some (map some_book openings)) m ≡ some (some (Some (opening_of openings m)))
at_home [] m l = absurd (omega arith)
at_home (b ∷ openings) zero l = refl
at_home (b ∷ openings) (suc m) l = at_home openings m (omega arith)

none_of : {A : Type 0} (P : A → Type 0) → All P []
none_of P k d l = absurd (omega arith)

-- the rule holds of the table as it is opened
pub opened_law : OpenedLaw
opened_law openings calls may = record {
  words = none_drawn;
  hands = new_hand calls;
  who = λ _ _. 0;
  made = λ _. [];
  last = opening_of openings;
  owner = λ _. 0;
  joined = λ _. false;
  dealt = 0;
  dealer = 0;
  few = may.modules;
  small = may.small;
  reads = words_law;
  deep = length-map (map some_book openings) some ∙ length-map openings some_book;
  each_module = λ m l. record {
    few = omega arith;
    passed = omega arith;
    book = record {
      entries = ap length (may.empty m no_book l);
      room = let a : draws_of calls m ≤ (opening_of openings m).history.room = subst (λ (x : Option Book). IfSome x (λ b. draws_of calls m ≤ b.history.room)) (slice_get-get_or openings m no_book l) (may.room m) in omega arith;
      lengths = record { writable = refl; fixed = refl };
    };
    numbered = tt;
    reaches = refl;
    whose = none_of _;
  };
  each_slot = λ m l. inr (record { here = at_home openings m l; quiet = refl });
  each_draw = λ m l. let a = total_draws calls m in omega arith;
  each_ticket = λ m t l low. absurd (omega arith);
  each_hand = λ w l. record {
    wide = may.wide w [] l;
    stage = tt;
    turns = record { inside = none_of _; listed = λ m. refl; behind = none_of _; rising = λ i j d a b. absurd (omega arith); own = none_of _ };
    drawn = record { own = λ m t has. absurd (let a = has.1 in omega arith) };
  };
  each_seat = one_seat;
  all_dealt = omega arith;
  undealt = λ w l. (refl, refl);
}
  where
    one_seat : (j : ℕ) (view : Doing) → get_elem? (Dealer 0 calls ∷ []) j ≡ some view → Knows calls (new_hand calls) (λ _. 0) (λ _. false) 0 0 j view
    one_seat zero view e = subst (Knows calls (new_hand calls) (λ _. 0) (λ _. false) 0 0 0) (some-injective (Dealer 0 calls) view e) (refl, refl, refl)
    one_seat (suc j) view e = absurd (some-ne-none view (sym e))

-- and behind each seat that is dealt
pub dealt_law : DealtLaw
dealt_law openings calls zero may few = opened_law openings calls may
dealt_law openings calls (suc k) may few =
    let before = dealt_law openings calls k may (omega arith) in
    let after = (split_law openings calls (dealt openings calls k) before 0 k calls refl (omega arith)).0 in
    subst (λ (n : ℕ). Kept openings calls (dealt openings calls n)) (add-one k)
    (subst (λ (ws : List Doing). Kept openings calls (record { words = opening_words; homes = (opened openings calls).homes; views = Dealer (k + 1) calls ∷ ws })) (sym (map-range_with_len_more (new_worker calls) 0 k k (omega arith))) after)

-- one seat more
pub one_new : (table : TableId) (calls : List (List ℕ)) (left : List ℕ) (seats : List SeatSeen) (seat : SeatSeen) → AreNew table calls seats → seat ≡ new_seat table (length calls) left → AreNew table (calls ++ left ∷ []) (seats ++ seat ∷ [])
one_new table calls left seats seat are is = subst (λ (x : SeatSeen). AreNew table (calls ++ left ∷ []) (seats ++ x ∷ [])) (sym is) (record {
  count = length-append seats (new_seat table (length calls) left ∷ []) ∙ (ap (λ (n : ℕ). n + 1) are.count ∙ sym (length-append calls (left ∷ [])));
  each = λ w l. either_way w (length calls)
      (λ e. here w (e ∙ sym are.count) ∙ (λ i. Some (new_seat table (sym e i) (sym (ap (λ (j : ℕ). get_or (calls ++ left ∷ []) j []) e ∙ get_or-append_seam calls left [] []) i))))
      (λ ne.
      let low : w < length calls = let n = length-append calls (left ∷ []) in omega arith in
      slice_get-get_or (seats ++ new_seat table (length calls) left ∷ []) w (new_seat table w []) (let n = are.count in omega (arith, length-append seats (new_seat table (length calls) left ∷ [])))
      ∙ (ap Some (get_or_append_left seats (new_seat table (length calls) left ∷ []) (new_seat table w []) w (let n = are.count in omega arith))
      ∙ (sym (slice_get-get_or seats w (new_seat table w []) (let n = are.count in omega arith))
      ∙ (are.each w low ∙ ap (λ (xs : List ℕ). Some (new_seat table w xs)) (sym (get_or_append_left calls (left ∷ []) [] w low))))));
})
  where
    here : (w : ℕ) → w ≡ length seats → slice_get (seats ++ new_seat table (length calls) left ∷ []) w ≡ Some (new_seat table (length calls) left)
    here w e = slice_get-get_or (seats ++ new_seat table (length calls) left ∷ []) w (new_seat table (length calls) left) (omega (arith, length-append seats (new_seat table (length calls) left ∷ [])))
        ∙ ap Some (ap (λ (j : ℕ). get_or (seats ++ new_seat table (length calls) left ∷ []) j (new_seat table (length calls) left)) e ∙ get_or-append_seam seats (new_seat table (length calls) left) [] (new_seat table (length calls) left))
