-- The parts of a module as relocations are applied to them.
use Rattle.std.specs.Prelude.{◌≡◌, ℕ, ◌+◌, ℤ, pos, ◌+ℤ◌, ◌-ℤ◌, List, ◌++◌, take, drop}
use Rattle.byteorder.specs.Endian.{little_bytes, little_number}
use Rattle.ad_reloc.specs.declared.row.Formula.{Formula}
use Rattle.ad_reloc.specs.declared.row.Formula.TheVariants as formula
use Rattle.ad_reloc.specs.declared.row.Row.{Row}
use Rattle.ad_reloc.specs.Fields.{Spells, bytes_of}

-- the number of so many bytes at an offset, the lowest first, and the bytes once a number was put there
abbrev pub number_at : ℕ → ℕ → List ℕ → ℕ
number_at size at bytes = little_number size (drop at bytes)

abbrev pub with_number : ℕ → ℕ → ℕ → List ℕ → List ℕ
with_number size at n bytes = take at bytes ++ little_bytes size n ++ drop (at + size) bytes

-- what a field of this number gets, by its formula, of the value that was computed
abbrev pub field_value : Formula → ℕ → ℤ → ℤ
field_value formula.Sum n v = pos n +ℤ v
field_value formula.Difference n v = pos n -ℤ v
field_value other n v = v

-- The bytes after are the bytes before, but for the field at an offset, which spells what its row makes of a value.
pub record IsSet (w : Row) (v : ℤ) (at : ℕ) (before after : List ℕ) : Type 0 where
  pub field : ℕ
  pub spells : Spells w.form (field_value w.formula (number_at (bytes_of w.form) at before) v) (number_at (bytes_of w.form) at before) field
  pub rest : after ≡ with_number (bytes_of w.form) at field before
