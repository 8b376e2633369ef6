-- The end: the seats come back, and the books.
use Rattle.std.proofs.Common.{◌≡◌, ℕ, zero, suc, ◌+◌, ◌<◌, List, [], ◌∷◌, ◌++◌, map, length, length-append, Some, Option, get_or, take, true, is_some, add-one, slice_get, IfSome, sym, refl, ap, ◌∙◌, subst, arith}
use mathlib.Core.Option.{some, some-injective, some-ne-none}
use lib.ListN.{get_elem?}
use Rattle.std.specs.List.{All}
use Rattle.ad_base.specs.declared.book.Book.{Book}
use Rattle.atomic_table.specs.Seated.{TableId}
use Rattle.ad_turns.specs.declared.view.Hand.{Hand}
use Rattle.ad_turns.specs.Seen.{SeatSeen}
use Rattle.ad_turns.specs.declared.view.Doing.TheVariants.{Gatherer}
use Rattle.ad_turns.specs.Steps.{Sat}
use Rattle.ad_turns.specs.Private.Handles.{back_of, book_in, turns_in, turns_shown, IsGatherer}

pub at_seam : {A : Type 0} (xs : List A) (y : A) (ys : List A) → slice_get (xs ++ y ∷ ys) (length xs) ≡ Some y
at_seam [] y ys = refl
at_seam (x ∷ xs) y ys = at_seam xs y ys

pub length_map : {A B : Type 0} (f : A → B) (xs : List A) → length (map f xs) ≡ length xs
length_map f [] = refl
length_map f (x ∷ xs) = ap suc (length_map f xs)

pub map_more : {A B : Type 0} (f : A → B) (xs : List A) (x : A) → map f (xs ++ x ∷ []) ≡ map f xs ++ f x ∷ []
map_more f [] x = refl
map_more f (y ∷ ys) x = ap (λ zs. f y ∷ zs) (map_more f ys x)

-- the item that comes next stands in the list
pub next_inside : {A : Type 0} (xs done rest : List A) (x : A) → xs ≡ done ++ x ∷ rest → length done < length xs
next_inside xs done rest x e = let a = ap length e in let b = length-append done (x ∷ rest) in omega arith

-- the seat that comes next is the next worker's
pub next_one : (table : TableId) (seats done rest : List SeatSeen) (one : SeatSeen) → ((w : ℕ) → IfSome (slice_get seats w) (λ s. (s.table ≡ table) × (s.worker ≡ w))) → seats ≡ done ++ one ∷ rest → (one.table ≡ table) × (one.worker ≡ length done)
next_one table seats done rest one each e = subst (λ (o : Option SeatSeen). IfSome o (λ s. (s.table ≡ table) × (s.worker ≡ length done))) (ap (λ (xs : List SeatSeen). slice_get xs (length done)) e ∙ at_seam done one rest) (each (length done))

-- as many hands came back as seats were joined
pub same_count : (back : List Hand) (done : List SeatSeen) → map turns_in back ≡ map turns_shown done → length done ≡ length back
same_count back done e = sym (length_map turns_shown done) ∙ (ap length (sym e) ∙ length_map turns_in back)

-- one more came back
pub turns_more_back : (back : List Hand) (done : List SeatSeen) (h : Hand) (one : SeatSeen) → map turns_in back ≡ map turns_shown done → h.turns ≡ one.turns → map turns_in (back ++ h ∷ []) ≡ map turns_shown (done ++ one ∷ [])
turns_more_back back done h one e same = map_more turns_in back h ∙ ((λ i. e i ++ same i ∷ []) ∙ sym (map_more turns_shown done one))

-- a seat that has joined these
pub gathers : (me : Sat) (back : List Hand) → me ≡ (Gatherer back, []) → IsGatherer me
gathers me back e = e ∙ (λ i. (Gatherer (back_of (sym e i).0), []))

-- ---- the books in the slots
pub got : {A : Type 0} (xs : List A) (i : ℕ) (x d : A) → get_elem? xs i ≡ some x → get_or xs i d ≡ x
got [] i x d e = absurd (some-ne-none x (sym e))
got (y ∷ ys) zero x d e = some-injective y x e
got (y ∷ ys) (suc i) x d e = got ys i x d e

-- one book more is taken out
pub books_more : (slots : List (Option Book)) (i : ℕ) (slot : Option Book) (books : List Book) → books ≡ map book_in (take i slots) → get_elem? slots i ≡ some slot → books ++ book_in slot ∷ [] ≡ map book_in (take (i + 1) slots)
books_more slots i slot books e at = ap (λ (bs : List Book). bs ++ book_in slot ∷ []) e ∙ (more slots i at ∙ ap (λ (n : ℕ). map book_in (take n slots)) (sym (add-one i)))
  where
    more : (xs : List (Option Book)) (k : ℕ) → get_elem? xs k ≡ some slot → map book_in (take k xs) ++ book_in slot ∷ [] ≡ map book_in (take (suc k) xs)
    more [] k f = absurd (some-ne-none slot (sym f))
    more (x ∷ xs) zero f = ap (λ (o : Option Book). book_in o ∷ []) (sym (some-injective x slot f))
    more (x ∷ xs) (suc k) f = ap (λ (bs : List Book). book_in x ∷ bs) (more xs k f)

-- the slot has a book in it
pub slot_full : (slots : List (Option Book)) (i : ℕ) (slot : Option Book) → All (λ (o : Option Book). is_some o ≡ true) slots → get_elem? slots i ≡ some slot → i < length slots → is_some slot ≡ true
slot_full slots i slot each at l = subst (λ (o : Option Book). is_some o ≡ true) (got slots i slot slot at) (each i slot l)
