use Rattle.std.proofs.Common.{◌≡◌, ◌*◌, take, vec_len}
use Rattle.std.specs.List.{flat_map}
use Rattle.ad_symbolic.specs.AddressSpace.{cell_bytes}
use Rattle.ad_symbolic.proofs.pages.cell_page.Given as goal

-- the bytes of the words so far
abbrev pub invariant-loop-cell : goal.invariant-loop-cell
invariant-loop-cell l = (l.bytes.items ≡ flat_map cell_bytes (take l.cell-index l.cells)) × (vec_len l.bytes ≡ 8 * l.cell-index)
