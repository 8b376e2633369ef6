-- The calls of a history in order of their lines: how they are found, and what is printed of them.
use Rattle.std.proofs.Common.{◌≡◌, ℕ, zero, suc, ◌+◌, ◌<◌, ◌≤◌, Bool, true, false, cond, not, ◌&&◌, ◌==◌, List, [], ◌∷◌, ◌++◌, length, map, filter, take, get_or, slice_get, Option, Some, append-nil, subst, refl, sym, ap, ap₂, ◌∙◌, arith, nat_cmp, is_lt}
use Rattle.std.specs.List.{enumerate_from, flat_map, All, AllZip}
use Rattle.std.specs.List.Sorted.{IsSortedByKey, IsStableByKey}
use Rattle.std.specs.Option.{option_map_or}
use Rattle.std.proofs.lemmas.Bool.Decides.{nat_tests}
use Rattle.std.proofs.lemmas.Grind.{flat_map-append}
use Rattle.std.proofs.lemmas.List.{map-append, take_more, take_all}
use Rattle.std.proofs.lemmas.Option.{slice_get-get_or}
use Rattle.std.proofs.lemmas.List.Elements.{All-nil, All-cons, All-filter}
use Rattle.std.proofs.lemmas.List.Sorted.{IsNonDecreasingBy-from_sort, IsNonDecreasingBy-short}
use Rattle.ad_base.specs.declared.book.Entry.{Entry}
use Rattle.ad_base.specs.Book.{Contents}
use Rattle.ad_report.specs.declared.index.CallAt.{CallAt}
use Rattle.ad_report.specs.Report.{calls_at, history_of}
use Rattle.ad_report.specs.Private.Index.{lines_of, AreIndices, IsIndex}

-- the lines of calls that stand in a history from here on
abbrev lines_from : ℕ → List Entry → List CallAt
lines_from k history = map (λ p. record { line = p.1.line; position = p.0 }) (enumerate_from k history)

-- ---- the sort
tie_is : (a b : ℕ) → not (is_lt (nat_cmp a b)) && not (is_lt (nat_cmp b a)) ≡ (b == a)
tie_is a b = grind (arith, nat_tests)

pub is_index : (history : List Entry) (calls : List CallAt) → IsSortedByKey (λ (c : CallAt). c.line) nat_cmp calls → IsStableByKey (λ (c : CallAt). c.line) nat_cmp (lines_of history) calls → IsIndex history calls
is_index history calls sorted stable = record {
  rise = IsNonDecreasingBy-from_sort (λ (c : CallAt). c.line) calls sorted;
  same = λ line.
      let test : (λ (c : CallAt). c.line == line) ≡ (λ (c : CallAt). not (is_lt (nat_cmp line c.line)) && not (is_lt (nat_cmp c.line line))) = λ i c. sym (tie_is line c.line) i in
      ap (λ (t : CallAt → Bool). filter t calls) test ∙ stable (record { line = line; position = 0 }) ∙ ap (λ (t : CallAt → Bool). filter t (lines_of history)) (sym test);
}

-- ---- one for each book
one_more : {A B : Type 0} (R : A → B → Type 0) (xs : List A) (ys : List B) (x : A) (y : B) → AllZip R xs ys → R x y → AllZip R (xs ++ x ∷ []) (ys ++ y ∷ [])
one_more R [] [] x y h r = (r, tt)
one_more R [] (z ∷ ys) x y h r = absurd h
one_more R (z ∷ xs) [] x y h r = absurd h
one_more R (z ∷ xs) (w ∷ ys) x y h r = (h.0, one_more R xs ys x y h.1 r)

pub indexed_more : {B V : Type 0} (contents : B → Contents) (items : V → List CallAt) (books : List B) (indices : List V) (i : ℕ) (book : B) (index : V) → i < length books → book ≡ get_or books i book
    → AreIndices (map contents (take i books)) (map items indices) → IsIndex (contents book).entries (items index) → AreIndices (map contents (take (i + 1) books)) (map items (indices ++ index ∷ []))
indexed_more contents items books indices i book index lt is so_far here =
    let one = ap (map contents) (take_more books i book lt ∙ ap (λ b. take i books ++ b ∷ []) (sym is)) ∙ map-append contents (take i books) (book ∷ []) in
    let two = map-append items indices (index ∷ []) in
    subst (λ bs. AreIndices bs (map items (indices ++ index ∷ []))) (sym one) (subst (AreIndices (map contents (take i books) ++ contents book ∷ [])) (sym two)
    (one_more (λ (b : Contents) (calls : List CallAt). IsIndex b.entries calls) (map contents (take i books)) (map items indices) (contents book) (items index) so_far here))

no_call : IsIndex [] []
no_call = record { rise = IsNonDecreasingBy-short (λ (c : CallAt). c.line) [] (omega arith); same = λ line. refl }

pub index_at : {V : Type 0} (items : V → List CallAt) (books : List Contents) (indices : List V) (number : ℕ) → AreIndices books (map items indices) → IsIndex (history_of books number) (option_map_or items (slice_get indices number) [])
index_at items [] [] number h = no_call
index_at items [] (v ∷ vs) number h = absurd h
index_at items (b ∷ bs) [] number h = absurd h
index_at items (b ∷ bs) (v ∷ vs) zero h = h.0
index_at items (b ∷ bs) (v ∷ vs) (suc number) h = index_at items bs vs number h.1

-- ---- the positions
below : (most : ℕ) (history : List Entry) (k : ℕ) → k + length history ≤ most → All (λ (c : CallAt). c.position < most) (lines_from k history)
below most [] k le = All-nil (λ (c : CallAt). c.position < most)
below most (e ∷ es) k le = All-cons (λ (c : CallAt). c.position < most) (record { line = e.line; position = k }) (lines_from (k + 1) es) (omega arith) (below most es (k + 1) (omega arith))

within : (history : List Entry) (test : CallAt → Bool) → All (λ (c : CallAt). c.position < length history) (filter test (lines_of history))
within history test = All-filter test (λ (c : CallAt). c.position < length history) (lines_of history) (below (length history) history 0 (omega arith))

-- what is found for a line stands in the history
pub found_within : (history : List Entry) (calls : List CallAt) (line : ℕ) (found : List CallAt) → IsIndex history calls → found ≡ filter (λ (c : CallAt). c.line == line) calls → All (λ (c : CallAt). c.position < length history) found
found_within history calls line found index is = subst (All (λ (c : CallAt). c.position < length history)) (sym (is ∙ index.same line)) (within history (λ (c : CallAt). c.line == line))

-- one call more
listed : (history : List Entry) (k i : ℕ) (e : Entry) → i < length history → e ≡ get_or history i e
    → lines_from k (take (i + 1) history) ≡ lines_from k (take i history) ++ record { line = e.line; position = k + i } ∷ []
listed [] k i e lt is = absurd (omega arith)
listed (x ∷ xs) k zero e lt is =
    let same : x ≡ e = sym is in
    let at : k ≡ k + zero = omega arith in
    λ j. record { line = (same j).line; position = at j } ∷ []
listed (x ∷ xs) k (suc i) e lt is =
    let next : suc i + 1 ≡ suc (i + 1) = omega arith in
    let at : k + 1 + i ≡ k + suc i = omega arith in
    ap (λ m. lines_from k (take m (x ∷ xs))) next
    ∙ ap (λ t. record { line = x.line; position = k } ∷ t) (listed xs (k + 1) i e (omega arith) is
    ∙ ap (λ m. lines_from (k + 1) (take i xs) ++ record { line = e.line; position = m } ∷ []) at)

pub lines_more : (history : List Entry) (i : ℕ) (e : Entry) → i < length history → e ≡ get_or history i e → lines_of (take (i + 1) history) ≡ lines_of (take i history) ++ record { line = e.line; position = i } ∷ []
lines_more history i e lt is = let at : 0 + i ≡ i = omega arith in listed history 0 i e lt is ∙ ap (λ m. lines_of (take i history) ++ record { line = e.line; position = m } ∷ []) at

-- ---- the text
module _ (f : ℕ → Entry → List ℕ) (line : ℕ) where
  -- what is printed of the call that stands here
  abbrev pub read_text : (ℕ → Option Entry) → CallAt → List ℕ
  read_text read c = option_map_or (f c.position) (read c.position) []

  texts : (read : ℕ → Option Entry) (history : List Entry) (k : ℕ) → ((i : ℕ) → read (k + i) ≡ slice_get history i)
      → flat_map (read_text read) (filter (λ (c : CallAt). c.line == line) (lines_from k history))
      ≡ flat_map (λ p. f p.0 p.1) (filter (λ p. p.1.line == line) (enumerate_from k history))
  texts read [] k reads = refl
  texts read (e ∷ es) k reads =
      let here : read k ≡ Some e = ap read (omega arith) ∙ reads 0 in
      let later = texts read es (k + 1) (λ i. ap read (omega arith) ∙ reads (suc i)) in
      by_line (e.line == line) here later
    where
      by_line : (b : Bool) → read k ≡ Some e
          → flat_map (read_text read) (filter (λ (c : CallAt). c.line == line) (lines_from (k + 1) es)) ≡ flat_map (λ p. f p.0 p.1) (filter (λ p. p.1.line == line) (enumerate_from (k + 1) es))
          → flat_map (read_text read) (cond b (record { line = e.line; position = k } ∷ filter (λ (c : CallAt). c.line == line) (lines_from (k + 1) es)) (filter (λ (c : CallAt). c.line == line) (lines_from (k + 1) es)))
          ≡ flat_map (λ p. f p.0 p.1) (cond b ((k, e) ∷ filter (λ p. p.1.line == line) (enumerate_from (k + 1) es)) (filter (λ p. p.1.line == line) (enumerate_from (k + 1) es)))
      by_line true here later = ap₂ (λ (xs ys : List ℕ). xs ++ ys) (ap (λ (o : Option Entry). option_map_or (f k) o []) here) later
      by_line false here later = later

  line_texts : (history : List Entry) → flat_map (read_text (slice_get history)) (filter (λ (c : CallAt). c.line == line) (lines_of history)) ≡ flat_map (λ p. f p.0 p.1) (calls_at history line)
  line_texts history = texts (slice_get history) history 0 (λ i. ap (slice_get history) (omega arith))

  -- all that is found is printed
  pub found_texts : (history : List Entry) (calls found : List CallAt) (i : ℕ) → IsIndex history calls → found ≡ filter (λ (c : CallAt). c.line == line) calls → length found ≤ i
      → flat_map (read_text (slice_get history)) (take i found) ≡ flat_map (λ p. f p.0 p.1) (calls_at history line)
  found_texts history calls found i index is past = ap (flat_map (read_text (slice_get history))) (take_all i found past ∙ (is ∙ index.same line)) ∙ line_texts history

  -- and with one more call, its text
  pub texts_more : (history : List Entry) (calls : List CallAt) (i : ℕ) (d : CallAt) (e : Entry) → i < length calls → (get_or calls i d).position < length history → e ≡ get_or history (get_or calls i d).position e
      → flat_map (read_text (slice_get history)) (take (i + 1) calls) ≡ flat_map (read_text (slice_get history)) (take i calls) ++ f (get_or calls i d).position e
  texts_more history calls i d e lt within is =
      let c = get_or calls i d in
      let here : slice_get history c.position ≡ Some e = slice_get-get_or history c.position e within ∙ ap Some (sym is) in
      ap (flat_map (read_text (slice_get history))) (take_more calls i d lt) ∙ flat_map-append (read_text (slice_get history)) (take i calls) (c ∷ [])
      ∙ ap (λ (t : List ℕ). flat_map (read_text (slice_get history)) (take i calls) ++ t) (append-nil (read_text (slice_get history) c) ∙ ap (λ (o : Option Entry). option_map_or (f c.position) o []) here)
