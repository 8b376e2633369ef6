-- The two halves of a number that two instructions add (RISC-V ELF psABI, "PC-Relative Symbol Addresses").
use Rattle.std.specs.Prelude.{◌≡◌, ◌+◌, ◌-◌, ℤ, pos, neg_ℤ, ◌+ℤ◌, ◌*ℤ◌, ◌≤ℤ◌, ◌<ℤ◌}

-- The number is 4,096 times the high half and the low half, which is one of 12 bits with a sign.
pub record AreHalves (v hi lo : ℤ) : Type 0 where
  pub sum : v ≡ pos 4096 *ℤ hi +ℤ lo
  pub from : neg_ℤ (pos 2048) ≤ℤ lo
  pub to : lo <ℤ pos 2048

-- the high half is one of 20 bits with a sign
pub record HasHalves (v : ℤ) : Type 0 where
  pub from : neg_ℤ (pos (0x80000000 + 0x800)) ≤ℤ v
  pub to : v <ℤ pos (0x80000000 - 0x800)
