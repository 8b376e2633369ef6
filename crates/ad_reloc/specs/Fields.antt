-- How fields spell numbers: the bytes of a number, and the immediates of instructions, whose other bits stay (RISC-V ELF
-- psABI, "Relocations"; unprivileged ISA, "Base Instruction Formats").
use Rattle.std.specs.Prelude.{◌≡◌, ℕ, ◌/◌, ◌%◌, ◌^◌, ℤ, pos, ◌*ℤ◌}
use Rattle.std.specs.Int.{int_rem_euclid}
use Rattle.ad_isa.specs.Fields.{b_immediate, bits, i_immediate, j_immediate, s_immediate, u_immediate}
use Rattle.ad_reloc.specs.declared.row.Form.{Form}
use Rattle.ad_reloc.specs.declared.row.Form.TheVariants.{Branch, Empty, Immediate, Jump, Number32, Number64, Pair, Store, Upper}
use Rattle.ad_isa.specs.Words.{IsMultiple}
use Rattle.ad_reloc.specs.Halves.{AreHalves, HasHalves}

-- A word with the high half of a number in the immediate of the U format, and those with the low half in that of the I and
-- of the S format.
pub record IsUpper (v : ℤ) (old new : ℕ) : Type 0 where
  pub high : ℤ
  pub low : ℤ
  pub halves : AreHalves v high low
  pub immediate : u_immediate new ≡ pos 4096 *ℤ high
  pub kept : bits new 11 0 ≡ bits old 11 0

pub record IsImmediate (v : ℤ) (old new : ℕ) : Type 0 where
  pub high : ℤ
  pub low : ℤ
  pub halves : AreHalves v high low
  pub immediate : i_immediate new ≡ low
  pub kept : bits new 19 0 ≡ bits old 19 0

pub record IsStore (v : ℤ) (old new : ℕ) : Type 0 where
  pub high : ℤ
  pub low : ℤ
  pub halves : AreHalves v high low
  pub immediate : s_immediate new ≡ low
  pub kept : bits new 24 12 ≡ bits old 24 12
  pub opcode_kept : bits new 6 0 ≡ bits old 6 0

-- a word with a number in the immediate of the B format, and of the J format
pub record IsBranch (v : ℤ) (old new : ℕ) : Type 0 where
  pub immediate : b_immediate new ≡ v
  pub kept : bits new 24 12 ≡ bits old 24 12
  pub opcode_kept : bits new 6 0 ≡ bits old 6 0

pub record IsJump (v : ℤ) (old new : ℕ) : Type 0 where
  pub immediate : j_immediate new ≡ v
  pub kept : bits new 11 0 ≡ bits old 11 0

-- What number the bytes of a field are once the field spells a number, after the number that they were. A number is spelled
-- modulo 2^32 or 2^64. Two words are one number of eight bytes.
abbrev pub Spells : Form → ℤ → ℕ → ℕ → Type 0
Spells Empty v old new = new ≡ old
Spells Number32 v old new = pos new ≡ int_rem_euclid v (pos (2 ^ 32))
Spells Number64 v old new = pos new ≡ int_rem_euclid v (pos (2 ^ 64))
Spells Upper v old new = IsUpper v old new
Spells Immediate v old new = IsImmediate v old new
Spells Store v old new = IsStore v old new
Spells Branch v old new = IsBranch v old new
Spells Jump v old new = IsJump v old new
Spells Pair v old new = IsUpper v (old % 2 ^ 32) (new % 2 ^ 32) × IsImmediate v (old / 2 ^ 32) (new / 2 ^ 32)

-- the numbers that a form can spell: those that have halves, and the multiples of two that branches and jumps reach
abbrev pub CanSpell : Form → ℤ → Type 0
CanSpell Empty v = Unit {0}
CanSpell Number32 v = Unit {0}
CanSpell Number64 v = Unit {0}
CanSpell Upper v = HasHalves v
CanSpell Immediate v = HasHalves v
CanSpell Store v = HasHalves v
CanSpell Pair v = HasHalves v
CanSpell Branch v = IsMultiple 2 0x1000 v
CanSpell Jump v = IsMultiple 2 0x100000 v

-- how many bytes a field of a form has
abbrev pub bytes_of : Form → ℕ
bytes_of Empty = 0
bytes_of Number64 = 8
bytes_of Pair = 8
bytes_of other = 4
