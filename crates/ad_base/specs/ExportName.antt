-- How the name of an export is spelled.
use Rattle.std.specs.Prelude.{ℕ, ◌<◌, ◌≤◌, Bool, ◌==◌, ◌||◌, List, length}
use Rattle.std.specs.List.{AllPass}
use Rattle.std.specs.Char.{is_ascii_alphanumeric}

-- a byte of the name of a module: a letter, a digit or `_`
abbrev pub is_name_byte : ℕ → Bool
is_name_byte c = is_ascii_alphanumeric c || (c == 0x5f)

-- a byte of the name of an export: also `.` or `$`
abbrev pub is_export_byte : ℕ → Bool
is_export_byte c = is_name_byte c || (c == 0x2e) || (c == 0x24)

-- the name of an export: 1 to 128 such bytes
pub record IsExportName (name : List ℕ) : Type 0 where
  pub some : 0 < length name
  pub short : length name ≤ 128
  pub bytes : AllPass is_export_byte name
