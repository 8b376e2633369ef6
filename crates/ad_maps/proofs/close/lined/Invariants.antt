use Rattle.std.specs.Mem.Slots.{slots_items}
use Rattle.ad_maps.specs.Private.Numbered.{AreLined}
use Rattle.ad_maps.proofs.close.lined.Given as goal

abbrev pub invariant-loop-index : goal.invariant-loop-index
invariant-loop-index l = AreLined (slots_items l.words.words) l.index l.lines.items
