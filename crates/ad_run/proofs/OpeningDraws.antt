-- What the calls of the workers come to: each is of a module that is there, its worker may draw for it, and all together are the
-- calls of the steps.
use Rattle.std.proofs.Common.{◌≡◌, ℕ, zero, suc, ◌+◌, ◌<◌, ◌≤◌, ◌==◌, Bool, true, false, cond, List, [], ◌∷◌, length, map, slice_get, inl, inr, refl, sym, ap, ◌∙◌, arith}
use Rattle.std.specs.Prelude.{slice_index}
use Rattle.std.specs.List.{All, range_with_len, sum_by}
use Rattle.std.specs.Option.{IfSome, IsSomeAnd}
use Rattle.std.proofs.lemmas.Bool.{cases_lt}
use Rattle.std.proofs.lemmas.Bool.Decides.{nat_tests}
use Rattle.std.proofs.lemmas.List.Elements.{All-append, All-cons, All-head, All-nil, All-tail}
use Rattle.std.proofs.lemmas.List.FromFn.{get_or-map-range_with_len}
use Rattle.std.proofs.lemmas.List.Sums.{sum_by-append, sum_by-cons}
use Rattle.ad_base.specs.declared.image.Image.{Image}
use Rattle.ad_lines.specs.declared.ready.ReadyStep.{ReadyStep}
use Rattle.ad_lines.specs.declared.ready.ReadyStep.TheVariants as step
use Rattle.ad_lines.specs.Ready.{IsRunnable}
use Rattle.ad_lines.specs.Room.{calls_of}
use Rattle.ad_lines.specs.Sound.{Lines}
use Rattle.ad_run.specs.Calls.{call_of, calls_at, calls_of_worker, AreThere, HaveDraws}
use Rattle.ad_run.specs.Opened.{draws_for}
use Rattle.ad_turns.specs.Turns.{draws_of}
use Rattle.ad_wrapper.specs.declared.hands.Ready.{Ready}

-- ---- sums over lists

sum-map : {A B : Type 0} (f : B → ℕ) (g : A → B) (xs : List A) → sum_by f (map g xs) ≡ sum_by (λ x. f (g x)) xs
sum-map f g [] = refl
sum-map f g (x ∷ xs) = sum_by-cons f (g x) (map g xs) ∙ ap (λ n. f (g x) + n) (sum-map f g xs) ∙ sym (sum_by-cons (λ y. f (g y)) x xs)

sum-both : {A : Type 0} (f g : A → ℕ) (xs : List A) → sum_by (λ x. f x + g x) xs ≡ sum_by f xs + sum_by g xs
sum-both f g [] = refl
sum-both f g (x ∷ xs) = let rest = sum-both f g xs in omega (arith, rest, sum_by-cons (λ y. f y + g y) x xs, sum_by-cons f x xs, sum_by-cons g x xs)

sum-none : {A : Type 0} (xs : List A) → sum_by (λ (x : A). 0) xs ≡ 0
sum-none [] = refl
sum-none (x ∷ xs) = sum-none xs

-- ---- what one worker alone has is no more in the sum over workers

same : (j k : ℕ) → (j == k) ≡ true → j ≡ k
same j k e = grind (arith, nat_tests)

other : (j k : ℕ) → j < k → (j == k) ≡ false
other j k less = grind (arith, nat_tests)

module _ (c x : ℕ) where
  none-from : (n k : ℕ) → c < n → sum_by (λ (w : ℕ). cond (c == w) x 0) (range_with_len n k) ≡ 0
  none-from n zero less = refl
  none-from n (suc k) less =
      let first : cond (c == n) x 0 ≡ 0 = ap (λ b. cond b x 0) (other c n less) in
      omega (arith, first, sum_by-cons (λ (w : ℕ). cond (c == w) x 0) n (range_with_len (n + 1) k), none-from (n + 1) k (omega (arith, less)))

  one-at-most : (b : Bool) (rest : ℕ) → (b ≡ true → rest ≡ 0) → rest ≤ x → cond b x 0 + rest ≤ x
  one-at-most true rest none few = omega (arith, none refl)
  one-at-most false rest none few = omega (arith, few)

  one-alone : (n k : ℕ) → sum_by (λ (w : ℕ). cond (c == w) x 0) (range_with_len n k) ≤ x
  one-alone n zero = omega arith
  one-alone n (suc k) =
      let later = range_with_len (n + 1) k in
      let few = one-at-most (c == n) (sum_by (λ (w : ℕ). cond (c == w) x 0) later) (λ e. none-from (n + 1) k (omega (arith, same c n e))) (one-alone (n + 1) k) in
      omega (arith, few, sum_by-cons (λ (w : ℕ). cond (c == w) x 0) n later)

-- ---- all draws of a module are its calls

call-once : (m : ℕ) (b : Bool) (r : Ready) → calls_at m (cond b (r ∷ []) []) ≡ cond b (cond (r.«module» == m) 1 0) 0
call-once m true r = omega arith
call-once m false r = refl

step-draws : (m : ℕ) (s : ReadyStep) (n k : ℕ) → sum_by (λ (w : ℕ). calls_at m (call_of w s)) (range_with_len n k) ≤ calls_of m s
step-draws m (step.Call line caller «module» export args) n k =
    let r : Ready = record { line = line; «module» = «module»; export = export; args = args } in
    let is : sum_by (λ (w : ℕ). calls_at m (call_of w (step.Call line caller «module» export args))) (range_with_len n k) ≡ sum_by (λ (w : ℕ). cond (caller == w) (cond («module» == m) 1 0) 0) (range_with_len n k)
    = λ j. sum_by (λ (w : ℕ). call-once m (caller == w) r j) (range_with_len n k) in
    omega (arith, is, one-alone caller (cond («module» == m) 1 0) n k)
step-draws m (step.Move line modules) n k = omega (arith, sum-none (range_with_len n k))
step-draws m (step.Stack line owner) n k = omega (arith, sum-none (range_with_len n k))

all-draws : (m : ℕ) (steps : List ReadyStep) (n k : ℕ) → sum_by (λ (w : ℕ). calls_at m (calls_of_worker w steps)) (range_with_len n k) ≤ sum_by (calls_of m) steps
all-draws m [] n k = omega (arith, sum-none (range_with_len n k))
all-draws m (s ∷ steps) n k =
    let ws = range_with_len n k in
    let one : ℕ → ℕ = λ w. calls_at m (call_of w s) in
    let rest : ℕ → ℕ = λ w. calls_at m (calls_of_worker w steps) in
    let apart : sum_by (λ (w : ℕ). calls_at m (calls_of_worker w (s ∷ steps))) ws ≡ sum_by (λ (w : ℕ). one w + rest w) ws
    = λ j. sum_by (λ (w : ℕ). sum_by-append (λ (c : Ready). cond (c.«module» == m) 1 0) (call_of w s) (calls_of_worker w steps) j) ws in
    let both = sum-both one rest ws in
    omega (arith, apart, both, step-draws m s n k, all-draws m steps n k, sum_by-cons (calls_of m) s steps)

-- the draws of a worker for a module
draws-at : (l : Lines) (w m : ℕ) → m < length l.images → slice_index (draws_for l w) m ≡ calls_at m (calls_of_worker w l.steps)
draws-at l w m within = get_or-map-range_with_len (λ k. calls_at k (calls_of_worker w l.steps)) 0 (length l.images) m m 0 within (omega arith)

pub draws-fit : (l : Lines) (m : ℕ) → m < length l.images → draws_of (map (draws_for l) (range_with_len 0 l.workers)) m ≤ sum_by (calls_of m) l.steps
draws-fit l m within =
    let ws = range_with_len 0 l.workers in
    let mapped = sum-map (λ (c : List ℕ). slice_index c m) (draws_for l) ws in
    let each : sum_by (λ (w : ℕ). slice_index (draws_for l w) m) ws ≡ sum_by (λ (w : ℕ). calls_at m (calls_of_worker w l.steps)) ws = λ j. sum_by (λ (w : ℕ). draws-at l w m within j) ws in
    omega (arith, mapped, each, all-draws m l.steps 0 l.workers)

-- ---- what the calls of a worker name is there

is-there : {A : Type 0} (xs : List A) (k : ℕ) (P : A → Type 0) → k < length xs → IfSome (slice_get xs k) P → IsSomeAnd (slice_get xs k) P
is-there [] k P within h = absurd (omega arith)
is-there (x ∷ xs) zero P within h = h
is-there (x ∷ xs) (suc k) P within h = is-there xs k P (omega arith) h

all-kept : {A : Type 0} (P : A → Type 0) (b : Bool) (x : A) → P x → All P (cond b (x ∷ []) [])
all-kept P true x p = All-cons P x [] p (All-nil P)
all-kept P false x p = All-nil P

abbrev IsThere : List Image → Ready → Type 0
IsThere images c = IsSomeAnd (slice_get images c.«module») (λ (i : Image). c.export < length i.exports)

module _ (images : List Image) (workers w : ℕ) where
  step-there : (s : ReadyStep) → IsRunnable images workers s → All (IsThere images) (call_of w s)
  step-there (step.Call line caller «module» export args) h =
      let r : Ready = record { line = line; «module» = «module»; export = export; args = args } in
      all-kept (IsThere images) (caller == w) r (is-there images «module» (λ (i : Image). export < length i.exports) h.2 h.1)
  step-there (step.Move line modules) h = All-nil (IsThere images)
  step-there (step.Stack line owner) h = All-nil (IsThere images)

  pub calls-there : (steps : List ReadyStep) → All (IsRunnable images workers) steps → AreThere images (calls_of_worker w steps)
  calls-there [] h = All-nil (IsThere images)
  calls-there (s ∷ steps) h =
      All-append (IsThere images) (call_of w s) (calls_of_worker w steps) (step-there s (All-head (IsRunnable images workers) s steps h)) (calls-there steps (All-tail (IsRunnable images workers) s steps h))

-- and it has the draws for them: no call is of a module that isn't there
some-within : {A : Type 0} (xs : List A) (k : ℕ) (P : A → Type 0) → IsSomeAnd (slice_get xs k) P → k < length xs
some-within [] k P h = absurd h
some-within (x ∷ xs) zero P h = omega arith
some-within (x ∷ xs) (suc k) P h = let rest = some-within xs k P h in omega (arith, rest)

none-at : (images : List Image) (m : ℕ) (calls : List Ready) → length images ≤ m → AreThere images calls → calls_at m calls ≡ 0
none-at images m [] past h = refl
none-at images m (c ∷ calls) past h =
    let within = some-within images c.«module» (λ (i : Image). c.export < length i.exports) (All-head (IsThere images) c calls h) in
    let first : cond {A = ℕ} (c.«module» == m) 1 0 ≡ 0 = ap (λ (b : Bool). cond {A = ℕ} b 1 0) (other c.«module» m (omega (arith, within, past))) in
    omega (arith, first, sum_by-cons (λ (r : Ready). cond {A = ℕ} (r.«module» == m) 1 0) c calls, none-at images m calls past (All-tail (IsThere images) c calls h))

pub has-draws : (l : Lines) (w : ℕ) → AreThere l.images (calls_of_worker w l.steps) → HaveDraws (draws_for l w) (calls_of_worker w l.steps)
has-draws l w h m = elim (cases_lt m (length l.images)) [
  | inl within ↦ omega (arith, draws-at l w m within)
  | inr past ↦ omega (arith, none-at l.images m (calls_of_worker w l.steps) past h)
]
