use Rattle.std.proofs.Common.{refl, subst, sym, ◌∙◌}
use Rattle.std.proofs.lemmas.Bool.{not-true}
use Rattle.std.proofs.lemmas.List.{take_all}
use Rattle.std.proofs.lemmas.List.Elements.{All-more}
use Rattle.ad_kit.specs.Writable.{HasNoZero}
use Rattle.ad_kit.specs.declared.object.KitSymbol.{KitSymbol}
use Rattle.ad_kit.proofs.writable.are_symbols_named.Goals as goal

pub loop-k-preserved : goal.loop-k-preserved
loop-k-preserved c = All-more (λ (y : KitSymbol). HasNoZero y.name) c.args.symbols.now c.loop-k.k c.index-symbols-k.result c.loop-k-test.true c.loop-k.invariant (subst HasNoZero c.bytes.ensures (not-true _ (sym c.has_no_zero.ensures ∙ c.if-not-has_no_zero.false)))

pub returns : goal.returns
returns c = (λ yes. rw (take_all c.loop-k.k c.args.symbols.now c.loop-k-test.false) at c.loop-k.invariant, λ all. refl)
