use Rattle.std.proofs.Common.{sym, ◌∙◌}
use Rattle.ad_reloc.proofs.HighPlaces.{places-new, places-none, places-old, places-other}
use Rattle.ad_reloc.proofs.highs.places_of.Goals as goal
use Rattle.ad_reloc.proofs.highs.places_of.Goals.{then-is_high+then-not-contains_key+in_ok-insert, else-is_high, else-is_high-via-then-is_high+else-not-contains_key, else-is_high-via-else-is_high}

pub loop-k-init : goal.loop-k-init
loop-k-init c = places-none c.args.relas.now c.new-places.result c.new-places.ensures.empty

pub loop-k-preserved : goal.loop-k-preserved
loop-k-preserved c = elim c.if-is_high.branch [
  | then-is_high+then-not-contains_key+in_ok-insert w ↦ (rw w.places-is (places-new c.loop-k.k c.args.relas.now c.loop-k.places w.insert.new.self _ c.loop-k-test.true (sym c.is_high.ensures ∙ w.if-is_high.true) (sym w.contains_key.ensures ∙ w.if-not-contains_key.true) w.in_ok-insert.ensures.updates c.loop-k.invariant))
  | else-is_high w ↦ (rw w.places-is (elim w.else-is_high.branch [
    | else-is_high-via-then-is_high+else-not-contains_key v ↦ places-old c.loop-k.k c.args.relas.now c.loop-k.places _ c.loop-k-test.true (sym v.contains_key.ensures ∙ v.if-not-contains_key.false) c.loop-k.invariant
    | else-is_high-via-else-is_high v ↦ places-other c.loop-k.k c.args.relas.now c.loop-k.places _ c.loop-k-test.true (sym c.is_high.ensures ∙ v.if-is_high.false) c.loop-k.invariant
  ]))
]
