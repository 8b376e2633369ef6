use Rattle.std.proofs.Common.{◌≡◌, ℕ, ◌∙◌, ap, arith, rules, to_z, of_z, w64, w32, FitsSigned}
use Rattle.std.specs.Prelude.{int_div}
use Rattle.std.specs.Int.{int_wrapping_div}
use Rattle.std.proofs.lemmas.Bool.Decides.{nat_tests}
use Rattle.std.proofs.lemmas.Int.{to_z-of_z}
use Rattle.ad_isa.specs.Numbers.{low, signed_low, wrapped, word_operation_on}
use Rattle.ad_isa.specs.declared.instr.Alu.{Alu}
use Rattle.ad_isa.proofs.arithmetic.divide_words.Goals as goal

-- a divisor that isn't zero
divided : (a b r : ℕ) → (low b ≡ 0 → ⊥) → r ≡ wrapped (int_div (signed_low a) (signed_low b)) → r ≡ word_operation_on Alu.Div a b
divided a b r away e = grind (arith, nat_tests)

pub returns-else-low-eq0 : goal.returns-else-low-eq0
returns-else-low-eq0 c =
    let a : FitsSigned w32 c.low_signed.result = search rules in
    let b : FitsSigned w32 c.low_signed-else-low-eq0.result = search rules in
    let q : FitsSigned w32 c.wrapping_div.result = search rules in
    let f : FitsSigned w64 c.from.result = search rules in
    let x : to_z w32 (of_z w32 c.low_signed.result) ≡ signed_low c.args.a = to_z-of_z w32 c.low_signed.result a ∙ c.low_signed.ensures in
    let y : to_z w32 (of_z w32 c.low_signed-else-low-eq0.result) ≡ signed_low c.args.b = to_z-of_z w32 c.low_signed-else-low-eq0.result b ∙ c.low_signed-else-low-eq0.ensures in
    let same : int_wrapping_div w32 (to_z w32 (of_z w32 c.low_signed.result)) (to_z w32 (of_z w32 c.low_signed-else-low-eq0.result)) ≡ int_wrapping_div w32 (signed_low c.args.a) (signed_low c.args.b) =
    λ j. int_wrapping_div w32 (x j) (y j) in
    divided c.args.a c.args.b c.cast_unsigned.result (λ e. c.if-low-eq0.false (c.low.ensures ∙ e))
    (c.cast_unsigned.ensures ∙ ap (of_z w64) (to_z-of_z w64 c.from.result f ∙ c.from.ensures ∙ to_z-of_z w32 c.wrapping_div.result q ∙ c.wrapping_div.ensures ∙ same))
