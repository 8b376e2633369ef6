-- A clear call leaves numbers alone; so an answer that is the same whatever numbers are kept is given behind every clear
-- history.
use Rattle.std.proofs.Common.{◌≡◌, ℕ, ◌&&◌, Bool, true, false, List, [], ◌∷◌, ◌++◌, map, Some, None, Ok, Err, refl, sym, ap, subst}
use Rattle.std.specs.List.{AllPass, list_all}
use Rattle.std.specs.Prelude.{if◌then◌else◌}
use Rattle.std.proofs.lemmas.Bool.{and_parts}
use Rattle.std.proofs.lemmas.List.Elements.{All-head, All-tail}
use Rattle.ad_base.specs.declared.image.Image.{Image}
use Rattle.ad_base.specs.Book.{Contents}
use Rattle.ad_symbolic.specs.declared.byte.Byte.{Byte}
use Rattle.ad_symbolic.specs.declared.byte.Byte.TheVariants.{Number, OfAddress}
use Rattle.ad_symbolic.specs.declared.value.Value.{Value}
use Rattle.ad_symbolic.specs.declared.value.Value.TheVariants.{At, Num}
use Rattle.ad_symbolic.specs.AddressSpace.{numbers_of}
use Rattle.ad_symbolic.specs.Machine.{Run, SymbolicOutcome}
use Rattle.ad_symbolic.specs.Replay.{Answer, Asked, Clear, Keeps, Kept, answer_of, answers_from, end_of, fixed_data_of, is_clear, is_number, is_number_byte, is_number_end, keeps_none, kept_of, left_by, number_or_zero, replay, run_of, writable_of}

-- numbers keep no address
pub all-numbers : (ns : List ℕ) → list_all is_number_byte (numbers_of ns) ≡ true
all-numbers [] = refl
all-numbers (n ∷ ns) = all-numbers ns

pub all-words : (ns : List ℕ) → list_all is_number (map Num ns) ≡ true
all-words [] = refl
all-words (n ∷ ns) = all-words ns

-- what keeps no address is numbers
bytes-are : (bs : List Byte) → list_all is_number_byte bs ≡ true → (ns : List ℕ) × (bs ≡ numbers_of ns)
bytes-are [] h = ([], refl)
bytes-are (Number n ∷ bs) h = let more = bytes-are bs h in (n ∷ more.0, ap (λ xs. Number n ∷ xs) more.1)
bytes-are (OfAddress i p o ∷ bs) h = absurd cc

words-are : (vs : List Value) → list_all is_number vs ≡ true → (ns : List ℕ) × (vs ≡ map Num ns)
words-are [] h = ([], refl)
words-are (Num n ∷ vs) h = let more = words-are vs h in (n ∷ more.0, ap (λ xs. Num n ∷ xs) more.1)
words-are (At p o ∷ vs) h = absurd cc

-- what a run leaves that keeps no address
abbrev left_of : SymbolicOutcome → Kept
left_of o = record { writable = writable_of o; fixed = fixed_data_of o; queue = o.memory.queue }

leaves-numbers : (o : SymbolicOutcome) → keeps_none o ≡ true → (next : Contents) × (left_of o ≡ kept_of next)
leaves-numbers o none =
    let writable = list_all is_number_byte (writable_of o) in
    let fixed = list_all is_number_byte (fixed_data_of o) in
    let notes = list_all is_number o.memory.notes in
    let queue = list_all is_number o.memory.queue in
    let ends = and_parts (writable && fixed && notes && queue) (is_number_end o.finish) none in
    let queued = and_parts (writable && fixed && notes) queue ends.0 in
    let noted = and_parts (writable && fixed) notes queued.0 in
    let both = and_parts writable fixed noted.0 in
    let w = bytes-are (writable_of o) both.0 in
    let f = bytes-are (fixed_data_of o) both.1 in
    let q = words-are o.memory.queue queued.1 in
    (record { writable = w.0; fixed = f.0; device = q.0; entries = [] }, (λ j. record { writable = w.1 j; fixed = f.1 j; queue = q.1 j }))

outcome-leaves : (o : SymbolicOutcome) (none : Bool) → keeps_none o ≡ none → is_clear (if none then Clear (end_of o.finish) (map number_or_zero o.memory.notes) else Keeps) ≡ true
    → (next : Contents) × ((if none then Some (left_of o) else None) ≡ Some (kept_of next))
outcome-leaves o true is clear = let n = leaves-numbers o is in (n.0, ap Some n.1)
outcome-leaves o false is clear = absurd cc

clear-leaves : (r : Run) → is_clear (answer_of r) ≡ true → (next : Contents) × (left_by r ≡ Some (kept_of next))
clear-leaves (Ok o) clear = outcome-leaves o (keeps_none o) refl clear
clear-leaves (Err u) clear = absurd cc

module _ (i : Image) (fuel : ℕ) (a : Asked) (said : Answer) (always : (book : Contents) → answer_of (run_of i fuel (kept_of book) a) ≡ said) where
  behind : (book : Contents) (before : List Asked) → AllPass is_clear (answers_from i fuel (Some (kept_of book)) before)
      → answers_from i fuel (Some (kept_of book)) (before ++ a ∷ []) ≡ answers_from i fuel (Some (kept_of book)) before ++ said ∷ []
  behind book [] clear = ap (λ x. x ∷ []) (always book)
  behind book (b ∷ before) clear =
      let r = run_of i fuel (kept_of book) b in
      let rest = answers_from i fuel (left_by r) before in
      let next = clear-leaves r (All-head (λ (x : Answer). is_clear x ≡ true) (answer_of r) rest clear) in
      ap (λ xs. answer_of r ∷ xs)
      (subst (λ k. AllPass is_clear (answers_from i fuel k before) → answers_from i fuel k (before ++ a ∷ []) ≡ answers_from i fuel k before ++ said ∷ []) (sym next.1) (behind next.0 before)
      (All-tail (λ (x : Answer). is_clear x ≡ true) (answer_of r) rest clear))

  pub behind-clear : (before : List Asked) → AllPass is_clear (replay i fuel before) → replay i fuel (before ++ a ∷ []) ≡ replay i fuel before ++ said ∷ []
  unfolding replay
  behind-clear before clear = behind (record { writable = i.writable; fixed = i.fixed_data; device = []; entries = [] }) before clear
