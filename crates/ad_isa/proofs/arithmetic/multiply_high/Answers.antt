use Rattle.std.proofs.Common.{◌≡◌, ℕ, ℤ, ◌<◌, ◌≤◌, ◌^◌, ◌/◌, ◌*ℤ◌, ◌∙◌, ap, arith, rules, to_z, of_z, w64, FitsSigned}
use Rattle.std.specs.Prelude.{unsigned_abs}
use Rattle.std.specs.Int.{w128}
use Rattle.std.proofs.lemmas.Int.{ints, to_z-of_z, fits_signed_mul}
use Rattle.ad_isa.specs.Numbers.{signed}
use Rattle.ad_isa.proofs.arithmetic.multiply_high.Goals as goal

-- the product of two signed numbers of 64 bits is one of 128 bits
product_fits : (a b : ℕ) → a < 2 ^ 64 → b < 2 ^ 64 → FitsSigned w128 (signed a *ℤ signed b)
product_fits a b p q =
    let x : unsigned_abs (signed a) ≤ 2 ^ 63 = omega (arith, ints) in
    let y : unsigned_abs (signed b) ≤ 2 ^ 63 = omega (arith, ints) in
    fits_signed_mul w128 (signed a) (signed b) (2 ^ 63) (2 ^ 63) x y (omega arith)

pub returns : goal.returns
returns c =
    let sa : FitsSigned w64 c.cast_signed.result = search rules in
    let sb : FitsSigned w64 c.cast_signed-2.result = search rules in
    let fa : FitsSigned w128 c.from.result = search rules in
    let fb : FitsSigned w128 c.from-2.result = search rules in
    let x : to_z w128 (of_z w128 c.from.result) ≡ signed c.args.a = to_z-of_z w128 c.from.result fa ∙ c.from.ensures ∙ to_z-of_z w64 c.cast_signed.result sa ∙ c.cast_signed.ensures in
    let y : to_z w128 (of_z w128 c.from-2.result) ≡ signed c.args.b = to_z-of_z w128 c.from-2.result fb ∙ c.from-2.ensures ∙ to_z-of_z w64 c.cast_signed-2.result sb ∙ c.cast_signed-2.ensures in
    let p : ℤ = signed c.args.a *ℤ signed c.args.b in
    let product : of_z w128 (to_z w128 (of_z w128 (to_z w128 (of_z w128 c.from.result) *ℤ to_z w128 (of_z w128 c.from-2.result)))) ≡ of_z w128 (to_z w128 (of_z w128 p)) =
    λ j. of_z w128 (to_z w128 (of_z w128 (x j *ℤ y j))) in
    let whole : of_z w128 (to_z w128 (of_z w128 p)) ≡ of_z w128 p = ap (of_z w128) (to_z-of_z w128 p (product_fits c.args.a c.args.b (omega (arith, c.ranges.a.fits)) (omega (arith, c.ranges.b.fits)))) in
    ap (λ (n : ℕ). n / 2 ^ 64) (c.cast_unsigned.ensures ∙ product ∙ whole)
