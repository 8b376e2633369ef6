use Rattle.std.proofs.Common.{◌≡◌, ◌*◌, take, vec_len}
use Rattle.std.specs.List.{flat_map}
use Rattle.byteorder.specs.Endian.{little_bytes}
use Rattle.ad_symbolic.proofs.pages.table_page.Given as goal

-- the bytes of the words so far
abbrev pub invariant-loop-word : goal.invariant-loop-word
invariant-loop-word l = (l.bytes.items ≡ flat_map (little_bytes 8) (take l.word-index l.words)) × (vec_len l.bytes ≡ 8 * l.word-index)
