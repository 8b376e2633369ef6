use Rattle.std.specs.Mem.Slots.{slots_items}
use Rattle.ad_maps.specs.Private.Numbered.{AreNumbered}
use Rattle.ad_maps.proofs.close.numbered.Given as goal

abbrev pub invariant-loop-region : goal.invariant-loop-region
invariant-loop-region l = AreNumbered (slots_items l.words.words) l.region l.numbered.items
