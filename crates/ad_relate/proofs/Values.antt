-- The operations on values are those on the numbers that the values stand for.
use Rattle.std.proofs.Common.{◌≡◌, ℕ, zero, suc, ◌+◌, ◌-◌, ◌*◌, ◌/◌, ◌%◌, ◌^◌, ◌<◌, ◌≤◌, ◌||◌, bit_and, mod-eq_of_lt, List, [], ◌∷◌, map, Bool, true, false, Ok, Err, Result, IfOk, inl, inr, refl, sym, ap, subst, ◌∙◌, add_assoc, add_comm, arith, get_or, set}
use Rattle.std.specs.Prelude.{◌==◌, if◌then◌else◌}
use Rattle.std.specs.Int.{◌∣◌}
use Rattle.std.specs.List.{list_any, range_with_len}
use Rattle.std.proofs.Math.ListN.{get_or-map}
use Rattle.std.proofs.Math.Nat.{add-mod-mod, dvd-mul_right, mod-mod_of_dvd, zero-add, zero-mod}
use Rattle.std.proofs.lemmas.Bool.{cond_both, eqb-true}
use Rattle.std.proofs.lemmas.List.{map-set}
use Rattle.std.proofs.lemmas.Nat.{and_comm, and_le_r, and_mask, and_mod, pow-add, pow_pos}
use Rattle.std.proofs.lemmas.Nat.Bits.{and_high_mask}
use native.Mathlib.Nat.{div-add-mod', mod-add-mod}
use Rattle.ad_base.specs.declared.layout.TheConstants.{FETCH_BYTES, PAGE_BYTES}
use Rattle.ad_isa.specs.Numbers.{minus, numbers}
use Rattle.ad_isa.specs.Rows.{register, with_register}
use Rattle.ad_isa.specs.Words.{IsSize}
use Rattle.ad_symbolic.specs.Value.{conjunction_of, difference_of, is_high_mask, is_low_mask, masked, offset_of, other_of, sum_of, values}
use Rattle.ad_symbolic.specs.declared.value.Reason.{Reason}
use Rattle.ad_symbolic.specs.declared.value.Value.TheVariants.{At, Num}
use Rattle.ad_symbolic.specs.declared.value.Part.TheVariants.{Movable, Stack}
use Rattle.ad_symbolic.specs.declared.value.Part.{Part}
use Rattle.ad_symbolic.specs.declared.value.Value.{Value}
use Rattle.ad_relate.specs.Stands.{Places, base_at, number_at}

-- where there is an answer, the other answer is what it stands for
abbrev pub Follows : {A B R S : Type 0} → (A → B) → Result A R → Result B S → Type 0
Follows f (Ok x) found = found ≡ Ok (f x)
Follows f (Err reason) found = Unit {0}

-- and so the other answer is there too
pub followed : {A B R S : Type 0} (f : A → B) {found : Result B S} (answer : Result A R) (x : A) → Follows f answer found → answer ≡ Ok x → found ≡ Ok (f x)
followed f {found} answer x h e = subst (λ a. Follows f a found) e h

-- what holds of each answer holds of the one that there is
pub if-each : {A R : Type 0} (P : A → Type 0) (x : Result A R) (a : A) → IfOk x P → x ≡ Ok a → P a
if-each P x a h e = subst (λ y. IfOk y P) e h

-- values that are numbers stand for these
pub numbers-at : (ps : Places) (ns : List ℕ) → map (number_at ps) (map Num ns) ≡ ns
numbers-at ps [] = refl
numbers-at ps (n ∷ ns) = λ j. n ∷ numbers-at ps ns j

-- parts begin at pages
pub base-page : (ps : Places) (p : Part) → base_at ps p % PAGE_BYTES ≡ 0
base-page ps Movable = omega arith
base-page ps Stack = omega arith

-- a sum from a base is the sum of the numbers
sum-from : (base o n m : ℕ) → ((base + o) % m + n) % m ≡ (base + (o + n) % m) % m
sum-from base o n m = mod-add-mod (base + o) m n ∙ ap (λ x. x % m) (add_assoc base o n) ∙ sym (add-mod-mod base (o + n) m)

-- to clear the low k bits, of 64
clears : (n k : ℕ) → k ≤ 64 → bit_and n (2 ^ 64 - 2 ^ k) ≡ n % 2 ^ 64 / 2 ^ k * 2 ^ k
clears n k within =
    let some = pow_pos k in
    let small : bit_and n (2 ^ 64 - 2 ^ k) < 2 ^ 64 = omega (arith, and_le_r n (2 ^ 64 - 2 ^ k), some) in
    let mask : (2 ^ 64 - 2 ^ k) % 2 ^ 64 ≡ 2 ^ 64 - 2 ^ k = mod-eq_of_lt (omega (arith, some)) in
    sym (mod-eq_of_lt small) ∙ and_mod n (2 ^ 64 - 2 ^ k) 64 ∙ ap (bit_and (n % 2 ^ 64)) mask ∙ and_high_mask 64 k within (n % 2 ^ 64) (omega arith)

pow-dvd : (k w : ℕ) → k ≤ w → 2 ^ k ∣ 2 ^ w
pow-dvd k w within =
    let parts : k + (w - k) ≡ w = omega (arith, within) in
    subst (λ n. 2 ^ k ∣ n) (sym (pow-add 2 k (w - k)) ∙ ap (λ e. 2 ^ e) parts) (dvd-mul_right (2 ^ k) (2 ^ (w - k)))

-- from a base that is a multiple of 2^k, an address has the low k bits of the offset
low-bits : (base o k : ℕ) → k ≤ 12 → base % PAGE_BYTES ≡ 0 → (base + o) % 2 ^ 64 % 2 ^ k ≡ o % 2 ^ k
low-bits base o k within page =
    let in_base : base % 2 ^ k ≡ 0 = sym (mod-mod_of_dvd (2 ^ k) base (pow-dvd k 12 within)) ∙ ap (λ n. n % 2 ^ k) page ∙ zero-mod (2 ^ k) in
    mod-mod_of_dvd (2 ^ k) (base + o) (pow-dvd k 64 (omega (arith, within))) ∙ sym (mod-add-mod base (2 ^ k) o) ∙ ap (λ n. (n + o) % 2 ^ k) in_base ∙ ap (λ n. n % 2 ^ k) (zero-add o)

-- without its low bits it is that of the offset without them
high-bits : (base o k : ℕ) → k ≤ 12 → base % PAGE_BYTES ≡ 0 → bit_and ((base + o) % 2 ^ 64) (2 ^ 64 - 2 ^ k) ≡ (base + bit_and o (2 ^ 64 - 2 ^ k)) % 2 ^ 64
high-bits base o k within page =
    let P = 2 ^ k in
    let at = (base + o) % 2 ^ 64 in
    let low : at % P ≡ o % 2 ^ 64 % P = low-bits base o k within page ∙ sym (mod-mod_of_dvd P o (pow-dvd k 64 (omega (arith, within)))) in
    let whole : at % 2 ^ 64 ≡ at = mod-eq_of_lt (omega arith) in
    let left : bit_and at (2 ^ 64 - P) + at % P ≡ at = ap (λ n. n + at % P) (clears at k (omega (arith, within))) ∙ ap (λ n. n / P * P + at % P) whole ∙ div-add-mod' at P in
    let right : bit_and o (2 ^ 64 - P) + o % 2 ^ 64 % P ≡ o % 2 ^ 64 = ap (λ n. n + o % 2 ^ 64 % P) (clears o k (omega (arith, within))) ∙ div-add-mod' (o % 2 ^ 64) P in
    from (bit_and at (2 ^ 64 - P)) (bit_and o (2 ^ 64 - P)) (at % P) left (ap (λ n. bit_and o (2 ^ 64 - P) + n) low ∙ right)
  where
    from : (x y z : ℕ) → x + z ≡ (base + o) % 2 ^ 64 → y + z ≡ o % 2 ^ 64 → x ≡ (base + y) % 2 ^ 64
    from x y z e h = omega (arith, e, h)

-- a number that a list of powers makes
any-in : (f : ℕ → Bool) (from len : ℕ) → list_any f (range_with_len from len) ≡ true → (k : ℕ) × (k < from + len) × (f k ≡ true)
any-in f from zero e = absurd cc
any-in f from (suc len) e = by (f from) refl e (any-in f (from + 1) len)
  where
    by : (b : Bool) → f from ≡ b → b || list_any f (range_with_len (from + 1) len) ≡ true
        → (list_any f (range_with_len (from + 1) len) ≡ true → (k : ℕ) × (k < from + 1 + len) × (f k ≡ true)) → (k : ℕ) × (k < from + suc len) × (f k ≡ true)
    by true is e rest = (from, omega arith, is)
    by false is e rest = let (k, below, has) = rest e in (k, omega (arith, below), has)

-- from a page on, an address is a multiple of a size where the offset is
aligned-from : (base o size : ℕ) → IsSize size → base % PAGE_BYTES ≡ 0 → (base + o) % 2 ^ 64 % size ≡ o % size
aligned-from base o size (inl one) page = subst (λ n. (base + o) % 2 ^ 64 % n ≡ o % n) (sym one) (omega (arith, page))
aligned-from base o size (inr (inl two)) page = subst (λ n. (base + o) % 2 ^ 64 % n ≡ o % n) (sym two) (omega (arith, page))
aligned-from base o size (inr (inr (inl four))) page = subst (λ n. (base + o) % 2 ^ 64 % n ≡ o % n) (sym four) (omega (arith, page))
aligned-from base o size (inr (inr (inr eight))) page = subst (λ n. (base + o) % 2 ^ 64 % n ≡ o % n) (sym eight) (omega (arith, page))

-- a difference of a number from an address, and of two addresses of one part
minus-from : (base o n : ℕ) → minus ((base + o) % 2 ^ 64) n ≡ (base + minus o n) % 2 ^ 64
minus-from base o n = omega arith

minus-both : (base o u : ℕ) → minus ((base + o) % 2 ^ 64) ((base + u) % 2 ^ 64) ≡ minus o u
minus-both base o u = omega arith

-- a sum stands for the sum
pub sum-follows : (ps : Places) (a b : Value) (x y : ℕ) → x ≡ number_at ps a → y ≡ number_at ps b
    → Follows {S = ⊥} (number_at ps) (sum_of a b) (Ok ((x + y) % 2 ^ 64))
sum-follows ps (Num a) (Num b) x y e h = λ j. Ok ((e j + h j) % 2 ^ 64)
sum-follows ps (At p o) (Num n) x y e h = (λ j. Ok ((e j + h j) % 2 ^ 64)) ∙ ap Ok (sum-from (base_at ps p) o n (2 ^ 64))
sum-follows ps (Num n) (At p o) x y e h =
    (λ j. Ok ((e j + h j) % 2 ^ 64)) ∙ ap (λ s. Ok (s % 2 ^ 64)) (add_comm n (number_at ps (At p o))) ∙ ap Ok (sum-from (base_at ps p) o n (2 ^ 64))
sum-follows ps (At p o) (At q u) x y e h = tt

-- a difference stands for the difference
pub difference-follows : (ps : Places) (a b : Value) (x y : ℕ) → x ≡ number_at ps a → y ≡ number_at ps b
    → Follows {S = ⊥} (number_at ps) (difference_of a b) (Ok (minus x y))
difference-follows ps (Num a) (Num b) x y e h = λ j. Ok (minus (e j) (h j))
difference-follows ps (At p o) (Num n) x y e h = (λ j. Ok (minus (e j) (h j))) ∙ ap Ok (minus-from (base_at ps p) o n)
difference-follows ps (Num n) (At p o) x y e h = tt
difference-follows ps (At Movable o) (At Movable u) x y e h = (λ j. Ok (minus (e j) (h j))) ∙ ap Ok (minus-both (base_at ps Movable) o u)
difference-follows ps (At Stack o) (At Stack u) x y e h = (λ j. Ok (minus (e j) (h j))) ∙ ap Ok (minus-both (base_at ps Stack) o u)
difference-follows ps (At Movable o) (At Stack u) x y e h = tt
difference-follows ps (At Stack o) (At Movable u) x y e h = tt

abbrev sure : ℕ → Result ℕ ⊥
sure n = Ok n

-- an address under a mask stands for the number under it
masked-follows : (ps : Places) (p : Part) (o n : ℕ) → Follows {S = ⊥} (number_at ps) (masked p o n) (Ok (bit_and (number_at ps (At p o)) n))
masked-follows ps p o n =
    cond_both (is_high_mask n) _ _ Stands
    (λ high. let (k, below, is) = any-in (λ k. n == 2 ^ 64 - 2 ^ k) 0 13 high in
    subst (λ m. sure (bit_and (number_at ps (At p o)) m) ≡ sure (number_at ps (At p (bit_and o m)))) (sym (eqb-true n (2 ^ 64 - 2 ^ k) is)) (ap Ok (high-bits (base_at ps p) o k (omega (arith, below)) (base-page ps p))))
    (λ not_high. cond_both (is_low_mask n) _ _ Stands
    (λ low. let (k, below, is) = any-in (λ k. n == 2 ^ k - 1) 0 13 low in
    subst (λ m. sure (bit_and (number_at ps (At p o)) m) ≡ sure (bit_and o m)) (sym (eqb-true n (2 ^ k - 1) is))
    (ap Ok (and_mask (number_at ps (At p o)) k ∙ low-bits (base_at ps p) o k (omega (arith, below)) (base-page ps p) ∙ sym (and_mask o k))))
    (λ neither. tt))
  where
    Stands : Result Value Reason → Type 0
    Stands r = Follows {S = ⊥} (number_at ps) r (Ok (bit_and (number_at ps (At p o)) n))

-- a conjunction stands for the conjunction
pub conjunction-follows : (ps : Places) (a b : Value) (x y : ℕ) → x ≡ number_at ps a → y ≡ number_at ps b
    → Follows {S = ⊥} (number_at ps) (conjunction_of a b) (Ok (bit_and x y))
conjunction-follows ps (Num a) (Num b) x y e h = λ j. Ok (bit_and (e j) (h j))
conjunction-follows ps (At p o) (Num n) x y e h = subst (λ z. Follows {S = ⊥} (number_at ps) (masked p o n) (Ok z)) (λ j. bit_and (sym e j) (sym h j)) (masked-follows ps p o n)
conjunction-follows ps (Num n) (At p o) x y e h =
    subst (λ z. Follows {S = ⊥} (number_at ps) (masked p o n) (Ok z)) (and_comm (number_at ps (At p o)) n ∙ (λ j. bit_and (sym e j) (sym h j))) (masked-follows ps p o n)
conjunction-follows ps (At p o) (At q u) x y e h = tt

-- an operation of numbers stands for the same operation
pub other-follows : (ps : Places) (f : ℕ → ℕ → ℕ) (a b : Value) (x y : ℕ) → x ≡ number_at ps a → y ≡ number_at ps b
    → Follows {S = ⊥} (number_at ps) (other_of f a b) (Ok (f x y))
other-follows ps f (Num a) (Num b) x y e h = λ j. Ok (f (e j) (h j))
other-follows ps f (At p o) b x y e h = tt
other-follows ps f (Num a) (At p o) x y e h = tt

-- an offset is a multiple of a size where the address is
pub aligned : (ps : Places) (size : ℕ) (v : Value) → IsSize size → number_at ps v % size ≡ offset_of v % size
aligned ps size (Num n) is = refl
aligned ps size (At p o) is = aligned-from (base_at ps p) o size is (base-page ps p)

pub alignment : (ps : Places) (v : Value) → number_at ps v % FETCH_BYTES ≡ offset_of v % FETCH_BYTES
alignment ps v = aligned ps FETCH_BYTES v (inr (inr (inl refl)))

pub sum-stands : (ps : Places) (a b v : Value) → sum_of a b ≡ Ok v → number_at ps v ≡ (number_at ps a + number_at ps b) % 2 ^ 64
sum-stands ps a b v e =
    let same = followed (number_at ps) (sum_of a b) v (sum-follows ps a b (number_at ps a) (number_at ps b) refl refl) e in
    cc same

pub difference-stands : (ps : Places) (a b v : Value) → difference_of a b ≡ Ok v → number_at ps v ≡ minus (number_at ps a) (number_at ps b)
difference-stands ps a b v e =
    let same = followed (number_at ps) (difference_of a b) v (difference-follows ps a b (number_at ps a) (number_at ps b) refl refl) e in
    cc same

pub conjunction-stands : (ps : Places) (a b v : Value) → conjunction_of a b ≡ Ok v → number_at ps v ≡ bit_and (number_at ps a) (number_at ps b)
conjunction-stands ps a b v e =
    let same = followed (number_at ps) (conjunction_of a b) v (conjunction-follows ps a b (number_at ps a) (number_at ps b) refl refl) e in
    cc same

pub other-stands : (ps : Places) (f : ℕ → ℕ → ℕ) (a b v : Value) → other_of f a b ≡ Ok v → number_at ps v ≡ f (number_at ps a) (number_at ps b)
other-stands ps f a b v e =
    let same = followed (number_at ps) (other_of f a b) v (other-follows ps f a b (number_at ps a) (number_at ps b) refl refl) e in
    cc same

-- what stands for a choice
pub if-apart : {A B : Type 0} (f : A → B) (b : Bool) (x y : A) → f (if b then x else y) ≡ (if b then f x else f y)
if-apart f true x y = refl
if-apart f false x y = refl

module _ (ps : Places) (size : Part → ℕ) where
  -- a register
  pub register-at : (xs : List Value) (r : ℕ) → register numbers (map (number_at ps) xs) r ≡ number_at ps (register (values size) xs r)
  register-at xs r =
      ap (λ n. if r == 0 then 0 else n) (get_or-map (number_at ps) xs r (Num 0)) ∙ sym (if-apart (number_at ps) (r == 0) (Num 0) (get_or xs r (Num 0)))

  -- the registers once one has got a value
  pub with_register-at : (xs : List Value) (r : ℕ) (v : Value) → with_register numbers (map (number_at ps) xs) r (number_at ps v) ≡ map (number_at ps) (with_register (values size) xs r v)
  with_register-at xs r v =
      ap (λ ys. if r == 0 then map (number_at ps) xs else ys) (sym (map-set (number_at ps) xs r v)) ∙ sym (if-apart (map (number_at ps)) (r == 0) xs (set xs r v))
