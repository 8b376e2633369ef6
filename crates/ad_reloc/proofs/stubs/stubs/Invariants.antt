use Rattle.std.proofs.Common.{◌≡◌, ◌*◌, length}
use Rattle.ad_reloc.specs.Addresses.{stubs_from, table_from}
use Rattle.ad_reloc.specs.Image.{stubs}
use Rattle.ad_reloc.proofs.stubs.stubs.Given as goal

abbrev pub invariant-loop-e : goal.invariant-loop-e
invariant-loop-e l = record {
  table : l.table ≡ table_from l.layout.sizes l.fn.movable;
  first : l.first ≡ stubs_from l.layout.sizes l.fn.movable;
  long : length l.out.items ≡ 16 * l.e;
  made : l.out.items ≡ stubs l.layout l.fn.movable l.e;
}
