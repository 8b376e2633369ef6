-- A word can have any immediate of its format beside the bits that it keeps.
use Rattle.std.proofs.Common.{◌≡◌, ℕ, suc, ◌+◌, ◌*◌, ◌-◌, ◌/◌, ◌%◌, ◌^◌, ◌<◌, ◌≤◌, Bool, true, false, nat_lt, if◌then◌else◌, ap, ℤ, pos, negsuc, neg_ℤ, ◌*ℤ◌, ◌-ℤ◌, ◌≤ℤ◌, ◌<ℤ◌, refl, ◌∙◌, arith}
use Rattle.std.proofs.lemmas.Bool.{le-ltb, lt-ltb}
use Rattle.std.proofs.lemmas.Bool.Decides.{nat_tests}
use Rattle.std.proofs.lemmas.Int.{ints}
use Rattle.std.specs.Prelude.{int_rem, unsigned_abs}
use Rattle.ad_isa.specs.Fields.{b_immediate, bits, i_immediate, j_immediate, s_immediate, signed_bits, u_immediate}
use Rattle.ad_isa.specs.Words.{IsMultiple}
use Rattle.ad_reloc.specs.Fields.{IsBranch, IsImmediate, IsJump, IsStore, IsUpper}
use Rattle.ad_reloc.specs.Halves.{HasHalves}
use Rattle.ad_reloc.proofs.OnePair.{some_halves}

-- a number without a sign, of which the upper half stands for the numbers below 0
abbrev with_sign : ℕ → ℕ → ℤ
with_sign half n = if nat_lt n half then pos n else pos n -ℤ pos (2 * half)

-- each number with a sign that is in range is that of one without
some_number : (half : ℕ) (v : ℤ) → neg_ℤ (pos half) ≤ℤ v → v <ℤ pos half → (n : ℕ) × (n < 2 * half) × (with_sign half n ≡ v)
some_number half (pos k) from to =
    let small : k < half = omega (arith, ints, to) in
    (k, omega (arith, small), rw (lt-ltb k half small) refl)
some_number half (negsuc k) from to =
    let small : suc k ≤ half = omega (arith, ints, from) in
    (2 * half - suc k, omega (arith, small), rw (le-ltb (2 * half - suc k) half (omega (arith, small))) (omega (arith, ints, small)))

-- the number with the sign times a power of two
scaled : (p : Bool) (m n : ℕ) (v : ℤ) → (if p then pos n else pos n -ℤ pos m) ≡ v → (if p then pos (n * 0x1000) else pos (n * 0x1000) -ℤ pos (m * 0x1000)) ≡ pos 4096 *ℤ v
scaled true m n v e = omega (arith, ints, e)
scaled false m n v e = omega (arith, ints, e)

-- it is even where the number with the sign is
even_abs : (v : ℤ) → int_rem v (pos 2) ≡ pos 0 → unsigned_abs v % 2 ≡ 0
even_abs (pos k) e = omega (arith, ints, e)
even_abs (negsuc k) e = omega (arith, ints, e)

even_number : (p : Bool) (half n : ℕ) (v : ℤ) → unsigned_abs v % 2 ≡ 0 → (if p then pos n else pos n -ℤ pos (2 * half)) ≡ v → n % 2 ≡ 0
even_number true half n v even e = omega (arith, ints, e, even)
even_number false half n v even e = omega (arith, ints, e, even)

even_where : (half n : ℕ) (v : ℤ) → int_rem v (pos 2) ≡ pos 0 → with_sign half n ≡ v → n % 2 ≡ 0
even_where half n v even e = even_number (nat_lt n half) half n v (even_abs v even) e

-- a word below 2^32 of which something holds
abbrev pub SomeWord : (ℕ → Type 0) → Type 0
SomeWord P = (new : ℕ) × (new < 2 ^ 32) × P new

scaled_upper : (n : ℕ) (v : ℤ) → n < 2 * 0x80000 → with_sign 0x80000 n ≡ v → signed_bits 32 (n * 2 ^ 12) ≡ pos 4096 *ℤ v
scaled_upper n v small e =
    let same : nat_lt (n * 0x1000) 0x80000000 ≡ nat_lt n 0x80000 = grind (arith, nat_tests) in
    rw same (scaled (nat_lt n 0x80000) 0x100000 n v e)

pub some_upper : (v : ℤ) (old : ℕ) → HasHalves v → SomeWord (IsUpper v old)
unfolding u_immediate
some_upper v old has =
    let h = some_halves v has in
    let n = some_number 0x80000 h.0 (omega (arith, ints, has.from, h.2.sum, h.2.from, h.2.to)) (omega (arith, ints, has.to, h.2.sum, h.2.from, h.2.to)) in
    let new = old % 0x1000 + n.0 * 0x1000 in
    let top : bits new 31 12 ≡ n.0 = omega (arith, n.1) in (
      new,
      omega (arith, n.1),
      record {
        high = h.0;
        low = h.1;
        halves = h.2;
        immediate = ap (λ t. signed_bits 32 (t * 2 ^ 12)) top ∙ scaled_upper n.0 h.0 n.1 n.2;
        kept = omega arith;
      },
    )

pub some_immediate : (v : ℤ) (old : ℕ) → HasHalves v → SomeWord (IsImmediate v old)
unfolding i_immediate
some_immediate v old has =
    let h = some_halves v has in
    let n = some_number 0x800 h.1 h.2.from h.2.to in
    let new = old % 0x100000 + n.0 * 0x100000 in
    let top : bits new 31 20 ≡ n.0 = omega (arith, n.1) in (
      new,
      omega (arith, n.1),
      record {
        high = h.0;
        low = h.1;
        halves = h.2;
        immediate = ap (signed_bits 12) top ∙ n.2;
        kept = omega arith;
      },
    )

pub some_store : (v : ℤ) (old : ℕ) → HasHalves v → SomeWord (IsStore v old)
unfolding s_immediate
some_store v old has =
    let h = some_halves v has in
    let n = some_number 0x800 h.1 h.2.from h.2.to in
    let new = old % 0x80 + n.0 % 0x20 * 0x80 + old / 0x1000 % 0x2000 * 0x1000 + n.0 / 0x20 * 0x2000000 in
    let number : bits new 31 25 * 2 ^ 5 + bits new 11 7 ≡ n.0 = omega (arith, n.1) in (
      new,
      omega (arith, n.1),
      record {
        high = h.0;
        low = h.1;
        halves = h.2;
        immediate = ap (signed_bits 12) number ∙ n.2;
        kept = omega arith;
        opcode_kept = omega arith;
      },
    )

pub some_branch : (v : ℤ) (old : ℕ) → IsMultiple 2 0x1000 v → SomeWord (IsBranch v old)
unfolding b_immediate
some_branch v old is =
    let n = some_number 0x1000 v is.1 is.2 in
    let even : n.0 % 2 ≡ 0 = even_where 0x1000 n.0 v is.0 n.2 in
    let new = old % 0x80 + n.0 / 0x800 % 2 * 0x80 + n.0 / 2 % 0x10 * 0x100 + old / 0x1000 % 0x2000 * 0x1000 + n.0 / 0x20 % 0x40 * 0x2000000 + n.0 / 0x1000 * 0x80000000 in
    let number : bits new 31 31 * 2 ^ 12 + bits new 7 7 * 2 ^ 11 + bits new 30 25 * 2 ^ 5 + bits new 11 8 * 2 ≡ n.0 = omega (arith, n.1, even) in (
      new,
      omega (arith, n.1),
      record {
        immediate = ap (signed_bits 13) number ∙ n.2;
        kept = omega arith;
        opcode_kept = omega arith;
      },
    )

pub some_jump : (v : ℤ) (old : ℕ) → IsMultiple 2 0x100000 v → SomeWord (IsJump v old)
unfolding j_immediate
some_jump v old is =
    let n = some_number 0x100000 v is.1 is.2 in
    let even : n.0 % 2 ≡ 0 = even_where 0x100000 n.0 v is.0 n.2 in
    let new = old % 0x1000 + n.0 / 0x1000 % 0x100 * 0x1000 + n.0 / 0x800 % 2 * 0x100000 + n.0 / 2 % 0x400 * 0x200000 + n.0 / 0x100000 * 0x80000000 in
    let number : bits new 31 31 * 2 ^ 20 + bits new 19 12 * 2 ^ 12 + bits new 20 20 * 2 ^ 11 + bits new 30 21 * 2 ≡ n.0 = omega (arith, n.1, even) in (
      new,
      omega (arith, n.1),
      record {
        immediate = ap (signed_bits 21) number ∙ n.2;
        kept = omega arith;
      },
    )
