-- A number has one pair of halves.
use Rattle.std.proofs.Common.{◌≡◌, ℤ, pos, ◌+ℤ◌, ◌-ℤ◌, ◌/◌, ◌%◌, arith}
use Rattle.std.specs.Prelude.{unsigned_abs}
use Rattle.std.proofs.lemmas.Int.{ints}
use Rattle.ad_reloc.specs.Halves.{AreHalves, HasHalves}

pub same_high : (v a b c d : ℤ) → AreHalves v a b → AreHalves v c d → a ≡ c
same_high v a b c d one other = omega (arith, ints, one.sum, one.from, one.to, other.sum, other.from, other.to)

pub same_low : (v a b c d : ℤ) → AreHalves v a b → AreHalves v c d → b ≡ d
same_low v a b c d one other = omega (arith, ints, one.sum, one.from, one.to, other.sum, other.from, other.to)

-- counted from the least number that has halves, both are found without signs
pub some_halves : (v : ℤ) → HasHalves v → (a b : ℤ) × AreHalves v a b
some_halves v has =
    let n = unsigned_abs (v +ℤ pos 0x80000800) in (
      pos (n / 0x1000) -ℤ pos 0x80000,
      pos (n % 0x1000) -ℤ pos 0x800,
      record {
        sum = omega (arith, ints, has.from, has.to);
        from = omega (arith, ints, has.from, has.to);
        to = omega (arith, ints, has.from, has.to);
      },
    )
