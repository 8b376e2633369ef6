-- Values of the symbolic machine, and the operations on them that are clear.
use Rattle.std.specs.Prelude.{ℕ, ◌+◌, ◌-◌, ◌*◌, ◌%◌, ◌^◌, Bool, true, false, ◌==◌, ◌&&◌, ◌||◌, nat_lt, nat_le, if◌then◌else◌, Result, Ok, Err, bit_and}
use Rattle.std.specs.List.{list_any, range_with_len}
use Rattle.ad_base.specs.declared.layout.TheConstants.{MODULE_REGION, REGION_BYTES, REGIONS}
use Rattle.ad_isa.specs.declared.instr.Test.{Test}
use Rattle.ad_isa.specs.declared.instr.Test.TheVariants as test
use Rattle.ad_isa.specs.Domain.{Domain}
use Rattle.ad_isa.specs.Numbers.{minus, test_of}
use Rattle.ad_symbolic.specs.declared.value.Part.{Part}
use Rattle.ad_symbolic.specs.declared.value.Part.TheVariants.{Movable, Stack}
use Rattle.ad_symbolic.specs.declared.value.Value.{Value}
use Rattle.ad_symbolic.specs.declared.value.Value.TheVariants.{At, Num}
use Rattle.ad_symbolic.specs.declared.value.Reason.{Reason}
use Rattle.ad_symbolic.specs.declared.value.Reason.TheVariants.{Arithmetic, Comparison}

abbrev pub is_same_part : Part → Part → Bool
is_same_part Movable Movable = true
is_same_part Movable Stack = false
is_same_part Stack Movable = false
is_same_part Stack Stack = true

-- the sum: of two numbers, or of an address and a number in either order
abbrev pub sum_of : Value → Value → Result Value Reason
sum_of (Num a) (Num b) = Ok (Num ((a + b) % 2 ^ 64))
sum_of (At p o) (Num n) = Ok (At p ((o + n) % 2 ^ 64))
sum_of (Num n) (At p o) = Ok (At p ((o + n) % 2 ^ 64))
sum_of (At p o) (At q u) = Err Arithmetic

-- the difference: of two numbers, of an address and a number, or of two addresses of one part
abbrev pub difference_of : Value → Value → Result Value Reason
difference_of (Num a) (Num b) = Ok (Num (minus a b))
difference_of (At p o) (Num n) = Ok (At p (minus o n))
difference_of (Num n) (At p o) = Err Arithmetic
difference_of (At p o) (At q u) = if is_same_part p q then Ok (Num (minus o u)) else Err Arithmetic

-- a number of at most twelve ones, and one that has as many zeros below ones: parts begin at pages, which have
-- 2^12 bytes
abbrev pub is_low_mask : ℕ → Bool
is_low_mask n = list_any (λ k. n == 2 ^ k - 1) (range_with_len 0 13)

abbrev pub is_high_mask : ℕ → Bool
is_high_mask n = list_any (λ k. n == 2 ^ 64 - 2 ^ k) (range_with_len 0 13)

-- an address under a mask: that of the masked offset, or the number that is left
abbrev pub masked : Part → ℕ → ℕ → Result Value Reason
masked p o n = if is_high_mask n then Ok (At p (bit_and o n)) else (if is_low_mask n then Ok (Num (bit_and o n)) else Err Arithmetic)

-- the conjunction: of two numbers, or of an address and a mask in either order
abbrev pub conjunction_of : Value → Value → Result Value Reason
conjunction_of (Num a) (Num b) = Ok (Num (bit_and a b))
conjunction_of (At p o) (Num n) = masked p o n
conjunction_of (Num n) (At p o) = masked p o n
conjunction_of (At p o) (At q u) = Err Arithmetic

-- any other operation is clear on numbers alone
abbrev pub other_of : (ℕ → ℕ → ℕ) → Value → Value → Result Value Reason
other_of f (Num a) (Num b) = Ok (Num (f a b))
other_of f (At p o) b = Err Arithmetic
other_of f (Num a) (At p o) = Err Arithmetic

-- A number of 64 bits below the first region for places, or behind the last one: no place has it.
abbrev pub is_outside : ℕ → Bool
is_outside n = nat_lt n (MODULE_REGION * REGION_BYTES) || (nat_le (REGIONS * REGION_BYTES) n && nat_lt n (2 ^ 64))

-- addresses of different parts differ; which is the lower depends on the places
abbrev pub across_parts : Test → Result Bool Reason
across_parts test.Eq = Ok false
across_parts test.Ne = Ok true
across_parts t = Err Comparison

-- the number, or the offset
abbrev pub offset_of : Value → ℕ
offset_of (Num n) = n
offset_of (At p o) = o

-- Comparisons, where the parts have so many bytes. An address in bounds, from the base of its part to the byte behind
-- it, compares with a number outside all places as any number of a place does.
module _ (size : Part → ℕ) where
  abbrev pub in_bounds : Part → ℕ → Bool
  in_bounds p o = nat_le o (size p)

  abbrev pub holds_of : Test → Value → Value → Result Bool Reason
  holds_of t (Num a) (Num b) = Ok (test_of t a b)
  holds_of t (At p o) (At q u) =
      if in_bounds p o && in_bounds q u then (if is_same_part p q then Ok (test_of t o u) else across_parts t) else Err Comparison
  holds_of t (At p o) (Num n) = if in_bounds p o && is_outside n then Ok (test_of t (MODULE_REGION * REGION_BYTES) n) else Err Comparison
  holds_of t (Num n) (At p o) = if in_bounds p o && is_outside n then Ok (test_of t n (MODULE_REGION * REGION_BYTES)) else Err Comparison

  abbrev pub values : Domain Value Reason
  values = record {
    number = Num;
    sum = sum_of;
    difference = difference_of;
    conjunction = conjunction_of;
    other = other_of;
    holds = holds_of;
    is_aligned = λ bytes v. offset_of v % bytes == 0;
  }
