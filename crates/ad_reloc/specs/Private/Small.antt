-- Numbers that are far from overflowing.
use Rattle.std.specs.Prelude.{◌^◌, ◌<◌}
use Rattle.ad_parts.specs.declared.layout.Sizes.{Sizes}
use Rattle.ad_tables.specs.declared.resolved.Resolved.{Resolved}
use Rattle.ad_tables.specs.declared.resolved.Resolved.TheVariants.{Immovable, Movable}

-- the groups have fewer pages than numbers of 16 bits, and the local area fits in memory
pub record AreSmall (z : Sizes) : Type 0 where
  pub text : z.text_pages < 2 ^ 16
  pub read : z.read_pages < 2 ^ 16
  pub written : z.data_pages < 2 ^ 16
  pub fixed_text : z.fixed_text_pages < 2 ^ 16
  pub fixed_read : z.fixed_read_pages < 2 ^ 16
  pub fixed_written : z.fixed_data_pages < 2 ^ 16
  pub local : z.local_bytes < 2 ^ 60

-- the offset of a symbol in its part is small
abbrev pub IsLow : Resolved → Type 0
IsLow (Movable offset) = offset < 2 ^ 63
IsLow (Immovable offset) = offset < 2 ^ 63
IsLow other = Unit {0}
