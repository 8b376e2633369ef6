-- The answers of a replay: behind the first that isn't clear all are lost, and those before it are the clear history.
use Rattle.std.proofs.Common.{◌≡◌, ◌≢◌, ◌⊎◌, ℕ, zero, suc, ◌+◌, ◌≤◌, Bool, true, false, List, [], ◌∷◌, length, map, take, slice_get, Option, Some, None, Ok, Err, inl, inr, refl, sym, ap, subst, ◌∙◌, arith}
use Rattle.std.specs.List.{Any, AllPass, count_by}
use Rattle.std.specs.Option.{is_some}
use Rattle.std.specs.Prelude.{◌↔◌, IsFalse, if◌then◌else◌}
use Rattle.std.proofs.lemmas.List.Elements.{All-cons, All-head, All-nil, All-tail}
use Rattle.std.proofs.lemmas.List.Sums.{sum_by-cons}
use Rattle.ad_base.specs.declared.image.Image.{Image}
use Rattle.ad_symbolic.specs.Machine.{Run, SymbolicOutcome}
use Rattle.ad_symbolic.specs.Replay.{Answer, Asked, Clear, Keeps, Kept, Lost, answer_of, answers_from, clear_calls, end_of, fixed_data_of, is_clear, keeps_none, left_by, number_or_zero, opened, replay, run_of, writable_of}

-- Answers in order, where each before them was clear or one wasn't: behind the first that isn't clear all are lost, and
-- no other is.
abbrev pub AreInOrder : Bool → List Answer → Type 0
AreInOrder clear [] = Unit {0}
AreInOrder true (a ∷ more) = (a ≢ Lost) × AreInOrder (is_clear a) more
AreInOrder false (a ∷ more) = (a ≡ Lost) × AreInOrder false more

-- the answer to a run is clear exactly where it leaves something, and never lost
abbrev IsOfRun : Answer → Option Kept → Type 0
IsOfRun a left = (a ≢ Lost) × (is_some left ≡ is_clear a)

of-outcome : (o : SymbolicOutcome) (none : Bool)
    → IsOfRun (if none then Clear (end_of o.finish) (map number_or_zero o.memory.notes) else Keeps) (if none then Some (record { writable = writable_of o; fixed = fixed_data_of o; queue = o.memory.queue }) else None)
of-outcome o true = ((λ e. cc), refl)
of-outcome o false = ((λ e. cc), refl)

of-run : (r : Run) → IsOfRun (answer_of r) (left_by r)
of-run (Ok o) = of-outcome o (keeps_none o)
of-run (Err u) = ((λ e. cc), refl)

module _ (i : Image) (fuel : ℕ) where
  lost-in-order : (calls : List Asked) → AreInOrder false (answers_from i fuel None calls)
  lost-in-order [] = tt
  lost-in-order (a ∷ more) = (refl, lost-in-order more)

  in-order : (k : Option Kept) (calls : List Asked) → AreInOrder (is_some k) (answers_from i fuel k calls)
  in-order None calls = lost-in-order calls
  in-order (Some k) [] = tt
  in-order (Some k) (a ∷ more) =
      let r = run_of i fuel k a in
      let one = of-run r in
      (one.0, subst (λ clear. AreInOrder clear (answers_from i fuel (left_by r) more)) one.1 (in-order (left_by r) more))

  -- there is an answer to each call
  length-answers : (k : Option Kept) (calls : List Asked) → length (answers_from i fuel k calls) ≡ length calls
  length-answers k [] = refl
  length-answers None (a ∷ more) = ap suc (length-answers None more)
  length-answers (Some k) (a ∷ more) = ap suc (length-answers (left_by (run_of i fuel k a)) more)

  pub length-replay : (calls : List Asked) → length (replay i fuel calls) ≡ length calls
  unfolding replay
  length-replay calls = length-answers (Some (opened i)) calls

  pub replay-in-order : (calls : List Asked) → AreInOrder true (replay i fuel calls)
  unfolding replay
  replay-in-order calls = in-order (Some (opened i)) calls

-- an answer that isn't clear
abbrev IsUnclear : Answer → Type 0
IsUnclear a = IsFalse (is_clear a)

-- an element with a property is the first or a later one
any-first : {A : Type 0} (P : A → Type 0) (x : A) (xs : List A) → P x → Any P (x ∷ xs)
any-first P x xs p = (0, x, omega arith, refl, p)

any-later : {A : Type 0} (P : A → Type 0) (x : A) (xs : List A) → Any P xs → Any P (x ∷ xs)
any-later P x xs (k, y, within, is, p) = (suc k, y, omega (arith, within), is, p)

any-cases : {A : Type 0} (P : A → Type 0) (x : A) (xs : List A) → Any P (x ∷ xs) → P x ⊎ Any P xs
any-cases P x xs (zero, y, within, is, p) = inl (subst P (sym is) p)
any-cases P x xs (suc k, y, within, is, p) = inr (k, y, omega (arith, within), is, p)

none-of-none : {A : Type 0} (P : A → Type 0) → Any P [] → ⊥
none-of-none P (k, y, within, is, p) = omega (arith, within)

-- behind one that isn't clear each is lost
all-lost : (answers : List Answer) (k : ℕ) (a : Answer) → AreInOrder false answers → slice_get answers k ≡ Some a → a ≡ Lost
all-lost [] k a h e = absurd cc
all-lost (x ∷ xs) zero a h e = let same : x ≡ a = cc in sym same ∙ h.0
all-lost (x ∷ xs) (suc k) a h e = all-lost xs k a h.1 e

-- the answer at a place is lost behind one that isn't clear, and only there
lost-behind : (answers : List Answer) (k : ℕ) (a : Answer) → AreInOrder true answers → slice_get answers k ≡ Some a → a ≡ Lost → Any IsUnclear (take k answers)
lost-behind [] k a h e is = absurd cc
lost-behind (x ∷ xs) zero a h e is = let same : x ≡ a = cc in absurd (h.0 (same ∙ is))
lost-behind (x ∷ xs) (suc k) a h e is = by (is_clear x) refl h.1 (λ rest. lost-behind xs k a rest e is)
  where
    by : (clear : Bool) → is_clear x ≡ clear → AreInOrder clear xs → (AreInOrder true xs → Any IsUnclear (take k xs)) → Any IsUnclear (x ∷ take k xs)
    by true was rest later = any-later IsUnclear x (take k xs) (later rest)
    by false was rest later = any-first IsUnclear x (take k xs) was

behind-unclear : (answers : List Answer) (k : ℕ) (a : Answer) → AreInOrder true answers → slice_get answers k ≡ Some a → Any IsUnclear (take k answers) → a ≡ Lost
behind-unclear [] k a h e some = absurd cc
behind-unclear (x ∷ xs) zero a h e some = absurd (none-of-none IsUnclear some)
behind-unclear (x ∷ xs) (suc k) a h e some = by (is_clear x) refl h.1 (any-cases IsUnclear x (take k xs) some) (λ rest. behind-unclear xs k a rest e)
  where
    by : (clear : Bool) → is_clear x ≡ clear → AreInOrder clear xs → IsUnclear x ⊎ Any IsUnclear (take k xs) → (AreInOrder true xs → Any IsUnclear (take k xs) → a ≡ Lost) → a ≡ Lost
    by false was rest some more = all-lost xs k a rest e
    by true was rest (inl unclear) more = absurd cc
    by true was rest (inr later) more = more rest later

pub lost-is : (answers : List Answer) (k : ℕ) (a : Answer) → AreInOrder true answers → slice_get answers k ≡ Some a → (a ≡ Lost) ↔ Any (λ (b : Answer). IsFalse (is_clear b)) (take k answers)
lost-is answers k a h e = (lost-behind answers k a h e, behind-unclear answers k a h e)

-- none behind one that isn't clear is clear
none-clear : (answers : List Answer) → AreInOrder false answers → count_by is_clear answers ≡ 0
none-clear [] h = refl
none-clear (x ∷ xs) h = sum_by-cons (λ (y : Answer). if is_clear y then 1 else 0) x xs ∙ (λ j. (if is_clear (h.0 j) then 1 else 0) + none-clear xs h.1 j)

-- as many are clear as the clear history has calls
pub clear-counted : (answers : List Answer) → AreInOrder true answers → clear_calls answers ≡ count_by is_clear answers
clear-counted [] h = refl
clear-counted (x ∷ xs) h = by (is_clear x) h.1 (clear-counted xs) ∙ sym (sum_by-cons (λ (y : Answer). if is_clear y then 1 else 0) x xs)
  where
    by : (clear : Bool) → AreInOrder clear xs → (AreInOrder true xs → clear_calls xs ≡ count_by is_clear xs) → (if clear then 1 + clear_calls xs else 0) ≡ (if clear then 1 else 0) + count_by is_clear xs
    by true rest more = ap (λ n. 1 + n) (more rest)
    by false rest more = ap (λ n. 0 + n) (sym (none-clear xs rest))

-- the first so many answers are all clear exactly where the clear history has as many calls
longest-to : (answers : List Answer) (n : ℕ) → n ≤ length answers → AllPass is_clear (take n answers) → n ≤ clear_calls answers
longest-to answers zero within all = omega arith
longest-to [] (suc n) within all = absurd (omega (arith, within))
longest-to (x ∷ xs) (suc n) within all =
    by (is_clear x) (All-head (λ (b : Answer). is_clear b ≡ true) x (take n xs) all) (longest-to xs n (omega (arith, within)) (All-tail (λ (b : Answer). is_clear b ≡ true) x (take n xs) all))
  where
    by : (clear : Bool) → clear ≡ true → n ≤ clear_calls xs → suc n ≤ (if clear then 1 + clear_calls xs else 0)
    by true is later = omega (arith, later)
    by false is later = absurd cc

longest-from : (answers : List Answer) (n : ℕ) → n ≤ clear_calls answers → AllPass is_clear (take n answers)
longest-from answers zero within = All-nil (λ (b : Answer). is_clear b ≡ true)
longest-from [] (suc n) within = absurd (omega (arith, within))
longest-from (x ∷ xs) (suc n) within = by (is_clear x) refl within (longest-from xs n)
  where
    by : (clear : Bool) → is_clear x ≡ clear → suc n ≤ (if clear then 1 + clear_calls xs else 0) → (n ≤ clear_calls xs → AllPass is_clear (take n xs)) → AllPass is_clear (x ∷ take n xs)
    by true is more rest = All-cons (λ (b : Answer). is_clear b ≡ true) x (take n xs) is (rest (omega (arith, more)))
    by false is more rest = absurd (omega (arith, more))

pub longest-is : (answers : List Answer) (n : ℕ) → n ≤ length answers → AllPass is_clear (take n answers) ↔ (n ≤ clear_calls answers)
longest-is answers n within = (longest-to answers n within, longest-from answers n)
