-- The draws and the calls that are left to a worker, once it has made one.
use Rattle.std.proofs.Common.{◌≡◌, ◌≢◌, ℕ, zero, suc, ◌+◌, ◌-◌, ◌<◌, ◌≤◌, Bool, true, false, cond, List, [], ◌∷◌, refl, sym, ap, ◌∙◌, eqb-true, eq-eqb, set, arith}
use Rattle.std.specs.Prelude.{◌==◌, slice_index}
use Rattle.std.proofs.lemmas.List.{get_or-set_other}
use Rattle.std.proofs.lemmas.List.Sums.{sum_by-cons}
use Rattle.ad_run.specs.Calls.{calls_at, HaveDraws}
use Rattle.ad_wrapper.specs.declared.hands.Ready.{Ready}
use Rattle.ad_wrapper.specs.Performed.{drawn_once}

-- a number that is lowered by one
lowered-at : (xs : List ℕ) (n : ℕ) → slice_index (set xs n (slice_index xs n - 1)) n ≡ slice_index xs n - 1
lowered-at [] n = refl
lowered-at (x ∷ xs) zero = refl
lowered-at (x ∷ xs) (suc n) = lowered-at xs n

-- the calls of a module, with one more in front
count-one : (m : ℕ) (c : Ready) (cs : List Ready) (b : Bool) → (c.«module» == m) ≡ b → calls_at m (c ∷ cs) ≡ cond b 1 0 + calls_at m cs
count-one m c cs b e = sum_by-cons (λ (x : Ready). cond (x.«module» == m) 1 0) c cs ∙ ap (λ t. cond t 1 0 + calls_at m cs) e

same-number : (n : ℕ) → (n == n) ≡ true
same-number n = eq-eqb n n refl

-- the next call has a draw
pub draw-left : (left : List ℕ) (c : Ready) (cs : List Ready) → HaveDraws left (c ∷ cs) → 0 < slice_index left c.«module»
draw-left left c cs h = omega (arith, h c.«module», count-one c.«module» c cs true (same-number c.«module»))

draws-by : (left : List ℕ) (c : Ready) (cs : List Ready) (m : ℕ) (b : Bool) → (c.«module» == m) ≡ b → HaveDraws left (c ∷ cs) → calls_at m cs ≤ slice_index (drawn_once c.«module» left) m
draws-by left c cs m true e h =
    let at : c.«module» ≡ m = eqb-true c.«module» m e in
    let one = count-one m c cs true e in
    let low = lowered-at left c.«module» in
    let here : slice_index (drawn_once c.«module» left) m ≡ slice_index left m - 1 = ap (slice_index (drawn_once c.«module» left)) (sym at) ∙ low ∙ ap (λ n. slice_index left n - 1) at in
    omega (arith, h m, one, here)
draws-by left c cs m false e h =
    let other : m ≢ c.«module» = λ same. let no : (c.«module» == m) ≡ true = ap (λ n. c.«module» == n) same ∙ same-number c.«module» in absurd cc in
    let one = count-one m c cs false e in
    let there : slice_index (drawn_once c.«module» left) m ≡ slice_index left m = get_or-set_other left c.«module» m (slice_index left c.«module» - 1) 0 other in
    omega (arith, h m, one, there)

-- and the others have theirs once it is made
pub draws-after : (left : List ℕ) (c : Ready) (cs : List Ready) → HaveDraws left (c ∷ cs) → HaveDraws (drawn_once c.«module» left) cs
draws-after left c cs h m = draws-by left c cs m (c.«module» == m) refl h
