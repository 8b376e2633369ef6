-- Arithmetic on numbers of 64 bits (unprivileged ISA, "RV64I", "M").
use Rattle.std.specs.Prelude.{ℕ, ◌+◌, ◌-◌, ◌*◌, ◌/◌, ◌%◌, ◌^◌, Bool, not, Ok, ◌==◌, ◌&&◌, nat_le, nat_lt, if◌then◌else◌, ℤ, pos, ◌*ℤ◌, bit_and, bit_or, bit_xor, int_lt, int_div, int_rem}
use Rattle.std.specs.Int.{cast_signed, cast_unsigned, int_shr, w32, w64, w128}
use Rattle.ad_isa.specs.declared.instr.Alu.{Alu}
use Rattle.ad_isa.specs.declared.instr.Alu.TheVariants.{Add, Sub, Sll, Slt, Sltu, Xor, Srl, Sra, Or, And, Mul, Mulh, Mulhsu, Mulhu, Div, Divu, Rem, Remu}
use Rattle.ad_isa.specs.declared.instr.Test.{Test}
use Rattle.ad_isa.specs.declared.instr.Test.TheVariants.{Eq, Ne, Lt, Ge, Ltu, Geu}
use Rattle.ad_isa.specs.Domain.{Domain}

-- the number with its sign
abbrev pub signed : ℕ → ℤ
signed n = cast_signed w64 n

-- the low 32 bits, without their sign and with it
abbrev pub low : ℕ → ℕ
low n = n % 2 ^ 32

abbrev pub signed_low : ℕ → ℤ
signed_low n = cast_signed w32 (low n)

-- the low 32 bits with their sign, as a number of 64 bits
abbrev pub extended : ℕ → ℕ
extended n = cast_unsigned w64 (signed_low n)

-- what 32 bits hold of a number, with their sign, as a number of 64 bits
abbrev pub wrapped : ℤ → ℕ
wrapped z = cast_unsigned w64 (cast_signed w32 (cast_unsigned w32 z))

-- the difference modulo 2^64
abbrev pub minus : ℕ → ℕ → ℕ
minus a b = (a + (2 ^ 64 - b % 2 ^ 64)) % 2 ^ 64

-- the high half of a product of 128 bits
abbrev pub high_half : ℤ → ℕ
high_half product = cast_unsigned w128 product / 2 ^ 64

-- whether a comparison holds
abbrev pub test_of : Test → ℕ → ℕ → Bool
test_of Eq a b = a == b
test_of Ne a b = not (a == b)
test_of Lt a b = int_lt (signed a) (signed b)
test_of Ge a b = not (int_lt (signed a) (signed b))
test_of Ltu a b = nat_lt a b
test_of Geu a b = not (nat_lt a b)

abbrev pub number_of : Bool → ℕ
number_of b = if b then 1 else 0

-- An operation on 64 bits. Signed division rounds towards zero; a division by zero gives all ones, and leaves the
-- dividend as its remainder; the smallest number divided by -1 gives itself.
abbrev pub operation_on : Alu → ℕ → ℕ → ℕ
operation_on Add a b = (a + b) % 2 ^ 64
operation_on Sub a b = minus a b
operation_on Sll a b = a * 2 ^ (b % 64) % 2 ^ 64
operation_on Slt a b = number_of (int_lt (signed a) (signed b))
operation_on Sltu a b = number_of (nat_lt a b)
operation_on Xor a b = bit_xor a b
operation_on Srl a b = a / 2 ^ (b % 64)
operation_on Sra a b = cast_unsigned w64 (int_shr (signed a) (b % 64))
operation_on Or a b = bit_or a b
operation_on And a b = bit_and a b
operation_on Mul a b = a * b % 2 ^ 64
operation_on Mulh a b = high_half (signed a *ℤ signed b)
operation_on Mulhsu a b = high_half (signed a *ℤ pos b)
operation_on Mulhu a b = a * b / 2 ^ 64
operation_on Div a b = if b == 0 then 2 ^ 64 - 1 else cast_unsigned w64 (int_div (signed a) (signed b))
operation_on Divu a b = if b == 0 then 2 ^ 64 - 1 else a / b
operation_on Rem a b = if b == 0 then a else cast_unsigned w64 (int_rem (signed a) (signed b))
operation_on Remu a b = if b == 0 then a else a % b

-- An operation on the low 32 bits, whose result has their sign. The operations that have no such form give 0.
abbrev pub word_operation_on : Alu → ℕ → ℕ → ℕ
word_operation_on Add a b = extended (a + b)
word_operation_on Sub a b = extended (minus a b)
word_operation_on Sll a b = extended (low a * 2 ^ (b % 32))
word_operation_on Srl a b = extended (low a / 2 ^ (b % 32))
word_operation_on Sra a b = cast_unsigned w64 (int_shr (signed_low a) (b % 32))
word_operation_on Mul a b = extended (a * b)
word_operation_on Div a b = if low b == 0 then 2 ^ 64 - 1 else wrapped (int_div (signed_low a) (signed_low b))
word_operation_on Divu a b = if low b == 0 then 2 ^ 64 - 1 else extended (low a / low b)
word_operation_on Rem a b = if low b == 0 then extended a else cast_unsigned w64 (int_rem (signed_low a) (signed_low b))
word_operation_on Remu a b = if low b == 0 then extended a else extended (low a % low b)
word_operation_on op a b = 0

-- a number of so many bytes as one of 64 bits, with its sign or without
abbrev pub widened : ℕ → Bool → ℕ → ℕ
widened size signed n = if signed && nat_le (2 ^ (8 * size - 1)) n then n + (2 ^ 64 - 2 ^ (8 * size)) else n

-- the domain of numbers, whose operations always answer
abbrev pub numbers : Domain ℕ ⊥
numbers = record {
  number = λ n. n;
  sum = λ a b. Ok ((a + b) % 2 ^ 64);
  difference = λ a b. Ok (minus a b);
  conjunction = λ a b. Ok (bit_and a b);
  other = λ f a b. Ok (f a b);
  holds = λ t a b. Ok (test_of t a b);
  is_aligned = λ bytes n. n % bytes == 0;
}
