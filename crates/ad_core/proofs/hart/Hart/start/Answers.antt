use Rattle.std.proofs.Common.{◌≡◌, ◌+◌, ◌++◌, ◌∷◌, [], ◌∙◌, sym, ap, length, take, refl, arith, length-take-le}
use Rattle.std.proofs.lemmas.List.{take_more}
use Rattle.std.proofs.Math.ListN.{set}
use Rattle.ad_core.specs.Plain.{first_registers}
use Rattle.ad_core.proofs.Registers.{first_registers-push}
use Rattle.ad_core.proofs.hart.Hart.start.Goals as goal

pub loop-i-init : goal.loop-i-init
unfolding first_registers
loop-i-init c = refl

pub loop-i-preserved : goal.loop-i-preserved
loop-i-preserved c =
    let xs = c.args.args.now in
    let i = c.loop-i.i in
    let counted : length (take i xs) ≡ i = length-take-le i xs (omega arith) in
    ap (λ rs. set rs (10 + i) c.get.result) c.loop-i.invariant
    ∙ ap (λ k. set (first_registers (take i xs) c.args.sp) (10 + k) c.get.result) (sym counted)
    ∙ first_registers-push (take i xs) c.args.sp c.get.result (omega (arith, counted))
    ∙ ap (λ ys. first_registers ys c.args.sp) (ap (λ a. take i xs ++ a ∷ []) c.get.ensures ∙ sym (take_more xs i 0 (omega arith)))
