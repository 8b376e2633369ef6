-- Lists of worker's seats: those that are dealt as the table is opened, and all of a table.
use Rattle.std.proofs.Common.{◌≡◌, ℕ, zero, suc, ◌+◌, ◌<◌, List, [], ◌∷◌, ◌++◌, length, length-append, get_or, IfSome, Option, None, Some, refl, sym, ap, ◌∙◌, inl, inr, arith}
use Rattle.std.specs.List.{slice_get}
use mathlib.Core.Option.{some}
use lib.ListN.{get_elem?}
use Rattle.std.proofs.Math.Seq.{get_or-append_seam}
use Rattle.std.proofs.lemmas.Bool.{cases_eq}
use Rattle.std.proofs.lemmas.List.{get_or_append_left}
use Rattle.std.proofs.lemmas.Option.{slice_get-get_or}
use Rattle.atomic_table.specs.Seated.{TableId}
use Rattle.ad_maps.specs.Rows.{AreAllSeats}
use Rattle.ad_maps.specs.Seen.{SeatSeen, new_seat, AreNew}

pub none_new : (table : TableId) → AreNew table 0 []
none_new table = record { count = refl; each = λ w l. absurd (omega arith) }

-- one seat more
pub one_new : (table : TableId) (k : ℕ) (seats : List SeatSeen) → AreNew table k seats → AreNew table (k + 1) (seats ++ new_seat table k ∷ [])
one_new table k seats are = record {
  count = length-append seats (new_seat table k ∷ []) ∙ ap (λ (n : ℕ). n + 1) are.count;
  each = λ w l.
      elim (cases_eq w k) [
        | inl e ↦ here w (e ∙ sym are.count) ∙ ap (λ (j : ℕ). Some (new_seat table j)) (sym e)
        | inr ne ↦
            slice_get-get_or (seats ++ new_seat table k ∷ []) w (new_seat table w) (let n = are.count in omega (arith, length-append seats (new_seat table k ∷ [])))
            ∙ (ap (λ (s : SeatSeen). Some s) (get_or_append_left seats (new_seat table k ∷ []) (new_seat table w) w (let n = are.count in omega arith)) ∙ (sym (slice_get-get_or seats w (new_seat table w) (let n = are.count in omega arith)) ∙ are.each w (omega arith)))
      ];
}
  where
    here : (w : ℕ) → w ≡ length seats → slice_get (seats ++ new_seat table k ∷ []) w ≡ Some (new_seat table k)
    here w e = slice_get-get_or (seats ++ new_seat table k ∷ []) w (new_seat table k) (omega (arith, length-append seats (new_seat table k ∷ [])))
        ∙ ap (λ (s : SeatSeen). Some s) (ap (λ (j : ℕ). get_or (seats ++ new_seat table k ∷ []) j (new_seat table k)) e ∙ get_or-append_seam seats (new_seat table k) [] (new_seat table k))

-- a seat of a list
pub at_seat : (xs : List SeatSeen) (k : ℕ) (y : SeatSeen) → slice_get xs k ≡ Some y → (k < length xs) × (get_elem? xs k ≡ some y)
at_seat [] k y e = absurd (let f : ⊥ = cc in f)
at_seat (x ∷ xs) zero y e = (omega arith, ap some (let same : x ≡ y = cc in same))
at_seat (x ∷ xs) (suc k) y e = let t = at_seat xs k y e in ((let l = t.0 in omega arith), t.1)

-- new seats are all seats of their table
pub all_of_new : (table : TableId) (n : ℕ) (seats : List SeatSeen) → AreNew table n seats → AreAllSeats table n seats
all_of_new table n seats are = record {
  count = are.count;
  each = λ w. by_seat w (slice_get seats w) refl;
}
  where
    by_seat : (w : ℕ) (o : Option SeatSeen) → slice_get seats w ≡ o → IfSome o (λ s. (s.table ≡ table) × (s.worker ≡ w))
    by_seat w None e = tt
    by_seat w (Some s) e =
        let is : s ≡ new_seat table w = (let t : Some s ≡ Some (new_seat table w) = sym e ∙ are.each w (let l = at_seat seats w s e in let c = are.count in omega arith) in cc) in
        (ap (λ (x : SeatSeen). x.table) is, ap (λ (x : SeatSeen). x.worker) is)
