-- The pieces of an image before its first call.
use Rattle.std.specs.Prelude.{ℕ, ◌+◌, List, length}
use Rattle.ad_base.specs.declared.image.Image.{Image}
use Rattle.ad_base.specs.declared.role.Role.{Role}
use Rattle.ad_base.specs.declared.role.Role.TheVariants.{Cells, Code, Constants, Data, FixedCode, FixedConstants, FixedData, FixedTable, Table}
use Rattle.ad_base.specs.Place.{base_of}
use Rattle.ad_symbolic.specs.AddressSpace.{bytes_in, numbers_of}
use Rattle.ad_symbolic.specs.Machine.{fresh_stack}
use Rattle.ad_symbolic.specs.declared.byte.Byte.{Byte}
use Rattle.ad_symbolic.specs.declared.pages.FixedPieces.{FixedPieces}
use Rattle.ad_symbolic.specs.declared.pages.MovablePieces.{MovablePieces}

-- what each piece holds
abbrev pub bytes_before : Image → Role → List Byte
bytes_before i = bytes_in i (numbers_of i.writable) (numbers_of i.fixed_data) fresh_stack

-- where a piece ends
abbrev pub end_of_piece : Image → ℕ → Role → ℕ
end_of_piece i base r = base + length (bytes_before i r)

abbrev pub movable_pieces : Image → MovablePieces
movable_pieces i =
    let constants = end_of_piece i 0 Code in
    let table = end_of_piece i constants Constants in
    let cells = end_of_piece i table Table in
    record {
      code = record { base = 0; bytes = bytes_before i Code };
      constants = record { base = constants; bytes = bytes_before i Constants };
      table = record { base = table; bytes = bytes_before i Table };
      cells = record { base = cells; bytes = bytes_before i Cells };
      writable = record { base = end_of_piece i cells Cells; bytes = bytes_before i Data };
    }

abbrev pub fixed_pieces : Image → FixedPieces
fixed_pieces i =
    let constants = end_of_piece i (base_of i.fixed) FixedCode in
    let table = end_of_piece i constants FixedConstants in
    record {
      code = record { base = base_of i.fixed; bytes = bytes_before i FixedCode };
      constants = record { base = constants; bytes = bytes_before i FixedConstants };
      table = record { base = table; bytes = bytes_before i FixedTable };
      writable = record { base = end_of_piece i table FixedTable; bytes = bytes_before i FixedData };
    }
