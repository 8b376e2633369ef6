use Rattle.std.proofs.Common.{◌≡◌, ◌/◌, Bool, true, refl, subst, sym, ap, ◌∙◌}
use Rattle.std.proofs.lemmas.Bool.{eq-eqb, eqb-true, false≢true}
use Rattle.ad_kit.specs.ObjectFile.{is_local}
use Rattle.ad_kit.specs.declared.object.KitSymbol.{KitSymbol}
use Rattle.ad_kit.proofs.Tested.{AllPairs-all, AreLocalsFirst, AreLocalsFirst-more, not_first}
use Rattle.ad_kit.proofs.writable.are_locals_first.Goals.{else-is_local-via-then-is_local+else-not-only_locals, else-is_local-via-else-is_local}
use Rattle.ad_kit.proofs.writable.are_locals_first.Goals as goal

pub returns-then-not-only_locals : goal.returns-then-not-only_locals
returns-then-not-only_locals c = (
  λ yes. absurd (false≢true yes),
  λ pairs.
      let ys = c.args.symbols.now in
      let y = c.index-symbols-k.result in
      let local : is_local y ≡ true = eq-eqb _ _ (ap (λ (x : KitSymbol). x.info / 16) c.index-symbols-k.is ∙ c.if-is_local.true) in
      absurd (not_first ys c.loop-k.k y c.loop-k-test.true c.index-symbols-k.is (subst (λ (b : Bool). AreLocalsFirst ys c.loop-k.k b) c.if-not-only_locals.true c.loop-k.invariant) local pairs),
)

pub loop-k-preserved : goal.loop-k-preserved
loop-k-preserved c =
    AreLocalsFirst-more c.args.symbols.now c.loop-k.k c.index-symbols-k.result c.loop-k.only_locals _ c.loop-k-test.true c.index-symbols-k.is c.loop-k.invariant (ap is_local (sym c.index-symbols-k.is))
    (λ local.
    elim c.else-is_local.branch [
      | else-is_local-via-then-is_local+else-not-only_locals w ↦ w.if-not-only_locals.false
      | else-is_local-via-else-is_local w ↦ absurd (w.if-is_local.false (ap (λ (x : KitSymbol). x.info / 16) (sym c.index-symbols-k.is) ∙ eqb-true _ _ local))
    ])

pub returns : goal.returns
returns c = (λ yes. AllPairs-all c.args.symbols.now c.loop-k.k c.loop-k.only_locals c.loop-k-test.false c.loop-k.invariant, λ all. refl)
