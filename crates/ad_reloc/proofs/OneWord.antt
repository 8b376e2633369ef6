-- The 32 bits of an instruction word are those of its immediate and those that are kept beside it.
use Rattle.std.proofs.Common.{◌≡◌, ℕ, ◌+◌, ◌*◌, ◌%◌, ◌^◌, ◌<◌, Bool, true, false, if◌then◌else◌, pos, ◌-ℤ◌, arith}
use Rattle.std.specs.Prelude.{nat_lt}
use Rattle.std.proofs.lemmas.Int.{ints}
use Rattle.ad_isa.specs.Fields.{b_immediate, bits, i_immediate, j_immediate, s_immediate, signed_bits, u_immediate}

-- a number of a sign is negative only where it isn't the number without one
one_choice : (p q : Bool) (m a b : ℕ) → a < m → b < m → (if p then pos a else pos a -ℤ pos m) ≡ (if q then pos b else pos b -ℤ pos m) → a ≡ b
one_choice true true m a b small little e = omega (arith, ints, e)
one_choice true false m a b small little e = absurd (omega (arith, ints, e, small, little))
one_choice false true m a b small little e = absurd (omega (arith, ints, e, small, little))
one_choice false false m a b small little e = omega (arith, ints, e)

-- numbers of so many bits that are one with a sign are one
one_number : (count a b : ℕ) → a < 2 ^ count → b < 2 ^ count → signed_bits count a ≡ signed_bits count b → a ≡ b
one_number count a b small little e = one_choice (nat_lt a _) (nat_lt b _) (2 ^ count) a b small little e

pub one_upper : (x y : ℕ) → u_immediate x ≡ u_immediate y → bits x 11 0 ≡ bits y 11 0 → x % 2 ^ 32 ≡ y % 2 ^ 32
unfolding u_immediate
one_upper x y same kept =
    let top : bits x 31 12 * 2 ^ 12 ≡ bits y 31 12 * 2 ^ 12 = one_number 32 (bits x 31 12 * 2 ^ 12) (bits y 31 12 * 2 ^ 12) (omega arith) (omega arith) same in
    omega (arith, top, kept)

pub one_immediate : (x y : ℕ) → i_immediate x ≡ i_immediate y → bits x 19 0 ≡ bits y 19 0 → x % 2 ^ 32 ≡ y % 2 ^ 32
unfolding i_immediate
one_immediate x y same kept =
    let top : bits x 31 20 ≡ bits y 31 20 = one_number 12 (bits x 31 20) (bits y 31 20) (omega arith) (omega arith) same in
    omega (arith, top, kept)

-- the immediate of the S format, and of the B and of the J format, as a number without a sign
abbrev s_number : ℕ → ℕ
s_number word = bits word 31 25 * 2 ^ 5 + bits word 11 7

abbrev b_number : ℕ → ℕ
b_number word = bits word 31 31 * 2 ^ 12 + bits word 7 7 * 2 ^ 11 + bits word 30 25 * 2 ^ 5 + bits word 11 8 * 2

abbrev j_number : ℕ → ℕ
j_number word = bits word 31 31 * 2 ^ 20 + bits word 19 12 * 2 ^ 12 + bits word 20 20 * 2 ^ 11 + bits word 30 21 * 2

pub one_store : (x y : ℕ) → s_immediate x ≡ s_immediate y → bits x 24 12 ≡ bits y 24 12 → bits x 6 0 ≡ bits y 6 0 → x % 2 ^ 32 ≡ y % 2 ^ 32
unfolding s_immediate
one_store x y same kept opcode =
    let number : s_number x ≡ s_number y = one_number 12 (s_number x) (s_number y) (omega arith) (omega arith) same in
    let high : bits x 31 25 ≡ bits y 31 25 = omega (arith, number) in
    let low : bits x 11 7 ≡ bits y 11 7 = omega (arith, number) in
    omega (arith, high, low, kept, opcode)

pub one_branch : (x y : ℕ) → b_immediate x ≡ b_immediate y → bits x 24 12 ≡ bits y 24 12 → bits x 6 0 ≡ bits y 6 0 → x % 2 ^ 32 ≡ y % 2 ^ 32
unfolding b_immediate
one_branch x y same kept opcode =
    let number : b_number x ≡ b_number y = one_number 13 (b_number x) (b_number y) (omega arith) (omega arith) same in
    let sign : bits x 31 31 ≡ bits y 31 31 = omega (arith, number) in
    let next : bits x 7 7 ≡ bits y 7 7 = omega (arith, number) in
    let high : bits x 30 25 ≡ bits y 30 25 = omega (arith, number) in
    let low : bits x 11 8 ≡ bits y 11 8 = omega (arith, number) in
    omega (arith, sign, next, high, low, kept, opcode)

pub one_jump : (x y : ℕ) → j_immediate x ≡ j_immediate y → bits x 11 0 ≡ bits y 11 0 → x % 2 ^ 32 ≡ y % 2 ^ 32
unfolding j_immediate
one_jump x y same kept =
    let number : j_number x ≡ j_number y = one_number 21 (j_number x) (j_number y) (omega arith) (omega arith) same in
    let sign : bits x 31 31 ≡ bits y 31 31 = omega (arith, number) in
    let high : bits x 19 12 ≡ bits y 19 12 = omega (arith, number) in
    let next : bits x 20 20 ≡ bits y 20 20 = omega (arith, number) in
    let low : bits x 30 21 ≡ bits y 30 21 = omega (arith, number) in
    omega (arith, sign, high, next, low, kept)
