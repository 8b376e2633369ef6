-- The text that is printed of a linked module.
use Rattle.std.specs.Prelude.{ℕ, List, [], ◌∷◌, ◌++◌, codes}
use Rattle.std.specs.List.{enumerate_from, flat_map}
use Rattle.std.specs.Fmt.{decimal}
use Rattle.ad_base.specs.declared.image.Cell.{Cell}
use Rattle.ad_base.specs.declared.image.Cell.TheVariants.{Num, Off}
use Rattle.ad_base.specs.declared.image.Export.{Export}
use Rattle.ad_base.specs.declared.image.Image.{Image}
use Rattle.ad_base.specs.Image.{fixed_pages, movable_pages}

-- the line of a part: how many pages it has, and of these how many of text, of read-only data and of writable data
unfoldable pub part_line : List ℕ → ℕ → ℕ → ℕ → ℕ → List ℕ
part_line part pages text read writable =
    part ++ codes " pages " ++ decimal pages ++ codes " text " ++ decimal text ++ codes " read " ++ decimal read ++ codes " data " ++ decimal writable ++ 0x0a ∷ []

abbrev pub movable_line : Image → List ℕ
movable_line i = part_line (codes "movable") (movable_pages i) i.text_pages i.read_pages i.data_pages

abbrev pub fixed_line : Image → List ℕ
fixed_line i = part_line (codes "fixed") (fixed_pages i) i.fixed_text_pages i.fixed_read_pages i.fixed_data_pages

-- the line of an export: its name, byte for byte, and its offset in the movable part
unfoldable pub export_line : Export → List ℕ
export_line x = codes "export " ++ x.name ++ codes " " ++ decimal x.offset ++ 0x0a ∷ []

-- the line of a word of the local area: an offset from the base of the movable part, or a number
abbrev pub cell_text : Cell → List ℕ
cell_text (Off offset) = codes "off " ++ decimal offset
cell_text (Num number) = codes "num " ++ decimal number

unfoldable pub local_line : ℕ × Cell → List ℕ
local_line (entry, cell) = codes "local " ++ decimal entry ++ codes " " ++ cell_text cell ++ 0x0a ∷ []

-- the line of a word of the fixed table
unfoldable pub table_line : ℕ × ℕ → List ℕ
table_line (entry, word) = codes "table " ++ decimal entry ++ codes " " ++ decimal word ++ 0x0a ∷ []

-- The listing of a linked module: its parts, its exports, the words of its local area and of its fixed table, which are
-- counted from 0.
unfoldable pub listing : Image → List ℕ
listing i =
    movable_line i ++ fixed_line i ++ flat_map export_line i.exports
    ++ flat_map local_line (enumerate_from 0 i.cells) ++ flat_map table_line (enumerate_from 0 i.table)
