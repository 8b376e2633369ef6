use Rattle.std.proofs.Common.{◌≡◌, drop, fold, length}
use Rattle.std.specs.Prelude.{zip}
use Rattle.ad_parts.specs.Area.{area_in}
use Rattle.ad_parts.specs.Layout.{area_to}
use Rattle.ad_parts.specs.declared.layout.Group.TheVariants as group
use Rattle.ad_reloc.specs.Image.{laid_out, with_section}
use Rattle.ad_reloc.proofs.parts.laid_part.Given as goal

-- the part so far with the sections that are left is the part with all of them
abbrev pub invariant-loop-k : goal.invariant-loop-k
invariant-loop-k l = record {
  sections_same : l.sections ≡ l.object.sections;
  spots_same : l.spots ≡ l.layout.spots;
  whole : length l.part.items ≡ area_to l.layout.sizes (area_in l.fn.movable group.Writable);
  left : fold (with_section l.fn.movable) l.part.items (drop l.k (zip l.object.sections l.layout.spots)) ≡ laid_out l.object l.layout l.fn.movable;
}
