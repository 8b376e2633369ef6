use Rattle.std.proofs.Common.{sym, ◌∙◌}
use Rattle.ad_reloc.proofs.Indexes.{indexed-new, indexed-none, indexed-old}
use Rattle.ad_reloc.proofs.index.places_of.Goals as goal
use Rattle.ad_reloc.proofs.index.places_of.Goals.{then-not-contains_key+in_ok-insert, else-not-contains_key}

pub loop-k-init : goal.loop-k-init
loop-k-init c = indexed-none c.args.symbols.now c.new-places.result c.new-places.ensures.empty

pub loop-k-preserved : goal.loop-k-preserved
loop-k-preserved c = elim c.if-not-contains_key.branch [
  | then-not-contains_key+in_ok-insert w ↦ (rw w.places-is (indexed-new c.loop-k.k c.args.symbols.now c.loop-k.places w.insert.new.self (sym c.contains_key.ensures ∙ w.if-not-contains_key.true) w.in_ok-insert.ensures.updates c.loop-k.invariant))
  | else-not-contains_key w ↦ (rw w.places-is (indexed-old c.loop-k.k c.args.symbols.now c.loop-k.places (sym c.contains_key.ensures ∙ w.if-not-contains_key.false) c.loop-k.invariant))
]
