use Rattle.std.proofs.Common.{◌≡◌, ◌+◌, ◌++◌, ◌∷◌, [], ◌∙◌, sym, ap, length, take, refl, arith, length-take-le}
use Rattle.std.proofs.lemmas.List.{take_more}
use Rattle.std.proofs.Math.ListN.{set}
use Rattle.ad_symbolic.specs.Machine.{first_values}
use Rattle.ad_symbolic.proofs.Registers.{first_values-push}
use Rattle.ad_symbolic.specs.declared.value.Value.TheVariants.{Num}
use Rattle.ad_symbolic.proofs.hart.Hart.start.Goals as goal

pub loop-i-init : goal.loop-i-init
unfolding first_values
loop-i-init c = refl

pub loop-i-preserved : goal.loop-i-preserved
loop-i-preserved c =
    let xs = c.args.args.now in
    let i = c.loop-i.i in
    let counted : length (take i xs) ≡ i = length-take-le i xs (omega arith) in
    ap (λ rs. set rs (10 + i) (Num c.get.result)) c.loop-i.invariant
    ∙ ap (λ k. set (first_values (take i xs)) (10 + k) (Num c.get.result)) (sym counted)
    ∙ first_values-push (take i xs) c.get.result (omega (arith, counted))
    ∙ ap (λ ys. first_values ys) (ap (λ a. take i xs ++ a ∷ []) c.get.ensures ∙ sym (take_more xs i 0 (omega arith)))
