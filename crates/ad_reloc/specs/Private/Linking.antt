-- What entries are looked at with.
use Rattle.std.specs.Prelude.{◌≡◌, ◌≤◌}
use Rattle.std.specs.List.{All}
use Rattle.ad_parts.specs.declared.layout.Spot.{Spot}
use Rattle.ad_parts.specs.Layout.{area_to}
use Rattle.ad_parts.specs.Symbols.{AreInAreas, AreInOrder, area_at}
use Rattle.ad_tables.specs.declared.table_set.TableSet.{TableSet}
use Rattle.ad_reloc.specs.Private.Small.{AreSmall}
use Rattle.ad_reloc.specs.declared.linking.Linking.{Linking}

-- the tables
abbrev pub tables_of : Linking → TableSet
tables_of k = record { local = k.local; fixed = k.table }

-- The sections are in order and in their areas, the symbols too, and the entries with high halves are those of the object.
pub record CanLink (k : Linking) : Type 0 where
  pub order : AreInOrder k.layout.now.spots
  pub symbols : AreInAreas k.layout.now.sizes k.layout.now.spots k.object.now.symbols
  pub spots : All (λ (t : Spot). t.offset ≤ area_to k.layout.now.sizes (area_at t)) k.layout.now.spots
  pub small : AreSmall k.layout.now.sizes
  pub highs : k.highs ≡ k.object.now.relas
