-- The worked end: which lists of turns lead to its books.
use Rattle.std.proofs.Common.{◌≡◌, ◌≢◌, ℕ, zero, suc, ◌+◌, ◌<◌, ◌≤◌, ◌==◌, Bool, cond, eq-eqb, ne_eqb, List, [], ◌∷◌, filter, get_or, IfSome, slice_get, sym, refl, ap, ◌∙◌, subst, arith}
use Rattle.std.specs.List.{All}
use Rattle.atomic_table.specs.Seated.{TableId}
use Rattle.ad_base.specs.Book.{Contents, contents_of}
use Rattle.ad_turns.specs.declared.view.Turn.{Turn}
use Rattle.ad_turns.specs.Turns.{turns_at, turns_by, turns_of, AreNumbered, Made, Reaches}
use Rattle.ad_turns.specs.Merged.{AreReached, IsReached}
use Rattle.ad_turns.specs.Worked.{worked_books, worked_earlier, worked_last, worked_later, worked_made, worked_middle, worked_opening, worked_openings, worked_other, worked_seats}
use Rattle.ad_turns.proofs.Changed.{either_way}

-- ---- the turns of a worker among those that were made
first_of : {t u : Turn} {ts us : List Turn} → t ∷ ts ≡ u ∷ us → t ≡ u
first_of e = cc

rest_of : {t u : Turn} {ts us : List Turn} → t ∷ ts ≡ u ∷ us → ts ≡ us
rest_of e = cc

not_empty : {t : Turn} {ts : List Turn} → t ∷ ts ≢ []
not_empty e = let f : ⊥ = cc in f

by_own : (w : ℕ) (e : Made) (made : List Made) → e.worker ≡ w → turns_by w (e ∷ made) ≡ e.turn ∷ turns_by w made
by_own w e made same = ap (λ (b : Bool). turns_of (cond b (e ∷ filter (λ (f : Made). f.worker == w) made) (filter (λ (f : Made). f.worker == w) made))) (eq-eqb e.worker w same)

by_other : (w : ℕ) (e : Made) (made : List Made) → e.worker ≢ w → turns_by w (e ∷ made) ≡ turns_by w made
by_other w e made ne = ap (λ (b : Bool). turns_of (cond b (e ∷ filter (λ (f : Made). f.worker == w) made) (filter (λ (f : Made). f.worker == w) made))) (ne_eqb e.worker w ne)

-- a worker's first turn has no lower position than the first that was made
by_above : (n w : ℕ) (made : List Made) (t : Turn) (ts : List Turn) → AreNumbered n made → turns_by w made ≡ t ∷ ts → n ≤ t.position
by_above n w [] t ts are is = absurd (not_empty (sym is))
by_above n w (e ∷ made) t ts are is = either_way e.worker w
    (λ same. let p : e.turn.position ≡ t.position = ap (λ (u : Turn). u.position) (first_of (sym (by_own w e made same) ∙ is)) in let q = are.0 in omega arith)
    (λ ne. let l = by_above (n + 1) w made t ts are.1 (sym (by_other w e made ne) ∙ is) in omega arith)

-- a worker's second turn has a higher position than its first
by_rising : (n w : ℕ) (made : List Made) (t u : Turn) (ts : List Turn) → AreNumbered n made → turns_by w made ≡ t ∷ u ∷ ts → t.position < u.position
by_rising n w [] t u ts are is = absurd (not_empty (sym is))
by_rising n w (e ∷ made) t u ts are is = either_way e.worker w
    (λ same.
    let all = sym (by_own w e made same) ∙ is in
    let p : e.turn.position ≡ t.position = ap (λ (v : Turn). v.position) (first_of all) in
    let l = by_above (n + 1) w made u ts are.1 (rest_of all) in
    let q = are.0 in omega arith)
    (λ ne. by_rising (n + 1) w made t u ts are.1 (sym (by_other w e made ne) ∙ is))

-- of two workers neither of whom made a turn, no turn was made
two_none : (made : List Made) → All (λ (e : Made). e.worker < 2) made → turns_by 0 made ≡ [] → turns_by 1 made ≡ [] → made ≡ []
two_none [] below none none' = refl
two_none (e ∷ made) below none none' = either_way e.worker 0
    (λ same. absurd (not_empty (sym (by_own 0 e made same) ∙ none)))
    (λ ne. absurd (not_empty (sym (by_own 1 e made (let l = below 0 e (omega arith) in omega arith)) ∙ none')))

-- ---- what is reached
pub worked_reached : (table : TableId) → AreReached worked_openings worked_books (worked_seats table (worked_other ∷ worked_later ∷ []) (worked_earlier ∷ []))
worked_reached table zero = record {
  made = worked_made;
  numbered = (refl, (refl, tt));
  reaches = (refl, (refl, refl));
  lists = lists;
  workers = workers;
}
  where
    lists : (w : ℕ) → IfSome (slice_get (worked_seats table (worked_other ∷ worked_later ∷ []) (worked_earlier ∷ [])) w) (λ s. turns_at 0 s.turns ≡ turns_by w worked_made)
    lists zero = refl
    lists (suc zero) = refl
    lists (suc (suc w)) = tt

    workers : All (λ (e : Made). e.worker < 2) worked_made
    workers zero d l = omega arith
    workers (suc zero) d l = omega arith
    workers (suc (suc k)) d l = absurd (omega arith)
worked_reached table (suc zero) = record {
  made = other;
  numbered = (refl, tt);
  reaches = (refl, refl);
  lists = lists;
  workers = workers;
}
  where
    other : List Made
    other = record { worker = 0; turn = worked_other } ∷ []

    lists : (w : ℕ) → IfSome (slice_get (worked_seats table (worked_other ∷ worked_later ∷ []) (worked_earlier ∷ [])) w) (λ s. turns_at 1 s.turns ≡ turns_by w other)
    lists zero = refl
    lists (suc zero) = refl
    lists (suc (suc w)) = tt

    workers : All (λ (e : Made). e.worker < 2) other
    workers zero d l = omega arith
    workers (suc k) d l = absurd (omega arith)
worked_reached table (suc (suc m)) = tt

-- ---- what isn't
differ : (m n : ℕ) → m ≡ n → m < n → ⊥
differ m n e l = absurd (omega arith)

pub first_left_out : (table : TableId) → ¬ IsReached 0 worked_opening worked_last (worked_seats table (worked_other ∷ worked_later ∷ []) [])
first_left_out table is = by_made is.made is.numbered (sym (is.lists 0)) (sym (is.lists 1)) is.workers
  where
    by_made : (made : List Made) → AreNumbered 0 made → turns_by 0 made ≡ worked_later ∷ [] → turns_by 1 made ≡ [] → All (λ (e : Made). e.worker < 2) made → ⊥
    by_made [] are first second below = not_empty (sym first)
    by_made (e ∷ made) are first second below = either_way e.worker 0
        (λ same. let p : e.turn.position ≡ 1 = ap (λ (t : Turn). t.position) (first_of (sym (by_own 0 e made same) ∙ first)) in let q = are.0 in absurd (omega arith))
        (λ ne. not_empty (sym (by_own 1 e made (let l = below 0 e (omega arith) in omega arith)) ∙ second))

pub last_left_out : (table : TableId) → ¬ IsReached 0 worked_opening worked_last (worked_seats table (worked_other ∷ []) (worked_earlier ∷ []))
last_left_out table is = by_made is.made is.reaches (sym (is.lists 0)) (sym (is.lists 1)) is.workers
  where
    later_below : (e : Made) (made : List Made) → All (λ (f : Made). f.worker < 2) (e ∷ made) → All (λ (f : Made). f.worker < 2) made
    later_below e made below k d l = below (suc k) d (omega arith)

    -- the book is the last one, but its byte is that of the one before
    not_last : contents_of worked_middle ≡ contents_of worked_last → ⊥
    not_last e = differ 8 9 (ap (λ (c : Contents). get_or c.writable 0 0) e) (omega arith)

    by_made : (made : List Made) → Reaches (contents_of worked_opening) (turns_of made) (contents_of worked_last) → turns_by 0 made ≡ [] → turns_by 1 made ≡ worked_earlier ∷ [] → All (λ (e : Made). e.worker < 2) made → ⊥
    by_made [] reaches first second below = not_empty (sym second)
    by_made (e ∷ made) reaches first second below = either_way e.worker 1
        (λ same.
        let all = sym (by_own 1 e made same) ∙ second in
        let none = two_none made (later_below e made below) (sym (by_other 0 e made (λ z. omega arith)) ∙ first) (rest_of all) in
        let end : contents_of e.turn.after ≡ contents_of worked_last = subst (λ (ms : List Made). Reaches (contents_of e.turn.after) (turns_of ms) (contents_of worked_last)) none reaches.1 in
        not_last (ap (λ (t : Turn). contents_of t.after) (sym (first_of all)) ∙ end))
        (λ ne. not_empty (sym (by_own 0 e made (let l = below 0 e (omega arith) in omega arith)) ∙ first))

pub first_twice : (table : TableId) → ¬ IsReached 0 worked_opening worked_last (worked_seats table (worked_other ∷ worked_later ∷ []) (worked_earlier ∷ worked_earlier ∷ []))
first_twice table is = let l : 0 < 0 = by_rising 0 1 is.made worked_earlier worked_earlier [] is.numbered (sym (is.lists 1)) in absurd (omega arith)

pub last_twice : (table : TableId) → ¬ IsReached 0 worked_opening worked_last (worked_seats table (worked_other ∷ worked_later ∷ worked_later ∷ []) (worked_earlier ∷ []))
last_twice table is = let l : 1 < 1 = by_rising 0 0 is.made worked_later worked_later [] is.numbered (sym (is.lists 0)) in absurd (omega arith)
