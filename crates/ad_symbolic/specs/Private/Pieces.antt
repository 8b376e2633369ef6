-- Pieces of memory, as the code has them.
use Rattle.std.specs.Prelude.{ℕ, List}
use Rattle.ad_base.specs.declared.role.Role.{Role}
use Rattle.ad_base.specs.Layout.{rights_of}
use Rattle.ad_base.specs.Segments.{Segment}
use Rattle.ad_symbolic.specs.declared.byte.Byte.{Byte}

-- bytes from an offset or an address on
pub record Stretch : Type 0 where
  pub base : ℕ
  pub bytes : List Byte

-- the segment that they are, where they have this role
abbrev pub segment_of : Role → Stretch → Segment Byte
segment_of r s = record { base = s.base; bytes = s.bytes; rights = rights_of r; role = r }
