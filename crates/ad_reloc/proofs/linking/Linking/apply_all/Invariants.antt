use Rattle.std.proofs.Common.{◌≡◌, drop, length}
use Rattle.ad_reloc.specs.Image.{AreApplied}
use Rattle.ad_reloc.specs.Image.{Parts as Lists}
use Rattle.ad_reloc.specs.Private.Linking.{tables_of}
use Rattle.ad_reloc.specs.Private.Parts.{lists_of}
use Rattle.ad_reloc.proofs.linking.Linking.apply_all.Given as goal

-- what the entries that are left make of the parts is what all make of the first ones
abbrev pub invariant-loop-k : goal.invariant-loop-k
invariant-loop-k l = record {
  same : l.relas ≡ l.self.object.now.relas;
  movable : length l.parts.movable.items ≡ length l.fn.parts.movable.items;
  fixed : length l.parts.fixed.items ≡ length l.fn.parts.fixed.items;
  left : (after : Lists) → AreApplied l.self.object.now l.self.layout.now (tables_of l.self) l.self.fixed (drop l.k l.relas) (lists_of l.parts) after
      → AreApplied l.self.object.now l.self.layout.now (tables_of l.self) l.self.fixed l.relas (lists_of l.fn.parts) after;
}
