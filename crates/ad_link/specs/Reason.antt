-- Which refusal a refused file has: its stage, and its number in the list of that stage's, counted from 1.
use Rattle.std.specs.Prelude.{ℕ, List, Option, Some, None, codes}
use Rattle.ad_elf.specs.declared.refusal.ElfRefusal.{ElfRefusal}
use Rattle.ad_elf.specs.declared.refusal.ElfRefusal.TheVariants as object
use Rattle.ad_parts.specs.declared.refusal.PartRefusal.{PartRefusal}
use Rattle.ad_parts.specs.declared.refusal.PartRefusal.TheVariants as parts
use Rattle.ad_reloc.specs.declared.refusal.RelocRefusal.{RelocRefusal}
use Rattle.ad_reloc.specs.declared.refusal.RelocRefusal.TheVariants as reloc
use Rattle.ad_tables.specs.declared.refusal.TableRefusal.{TableRefusal}
use Rattle.ad_tables.specs.declared.refusal.TableRefusal.TheVariants as tables
use Rattle.ad_link.specs.declared.reason.Reason.{Reason}
use Rattle.ad_link.specs.declared.reason.Stage.{Stage}
use Rattle.ad_link.specs.declared.reason.Stage.TheVariants as stage
use Rattle.ad_link.specs.declared.refusal.LinkRefusal.{LinkRefusal}
use Rattle.ad_link.specs.declared.refusal.LinkRefusal.TheVariants as refusal

-- what is printed of a stage
abbrev pub stage_text : Stage → List ℕ
stage_text stage.Object = codes "object"
stage_text stage.Parts = codes "parts"
stage_text stage.Tables = codes "tables"
stage_text stage.Reloc = codes "reloc"

abbrev pub object_number : ElfRefusal → ℕ
object_number object.Short = 1
object_number object.Magic = 2
object_number object.Class = 3
object_number object.Machine = 4
object_number object.NotRelocatable = 5
object_number (object.Flags flags) = 6
object_number object.SectionTable = 7
object_number (object.SectionBounds i) = 8
object_number (object.SectionType i) = 9
object_number (object.StringIndex i) = 10
object_number object.SymbolTable = 11
object_number (object.SymbolSection i) = 12
object_number (object.RelaTarget i) = 13
object_number (object.RelaSymbol i j) = 14
object_number (object.RelaOffset i j) = 15
object_number object.OutOfMemory = 16

abbrev pub parts_number : PartRefusal → ℕ
parts_number (parts.Alignment i) = 1
parts_number (parts.TooManyPages n) = 2
parts_number parts.NoExport = 3
parts_number (parts.Duplicate name) = 4
parts_number parts.OutOfMemory = 5

abbrev pub tables_number : TableRefusal → ℕ
tables_number tables.LocalFull = 1
tables_number tables.FixedFull = 2
tables_number (tables.Unresolved name) = 3
tables_number tables.OutOfMemory = 4

abbrev pub reloc_number : RelocRefusal → ℕ
reloc_number (reloc.Unlisted typ) = 1
reloc_number (reloc.Range i j v) = 2
reloc_number (reloc.NoHi i j) = 3
reloc_number (reloc.MovablePointer i j) = 4
reloc_number (reloc.CrossPart i j) = 5
reloc_number (reloc.Misaligned i j) = 6
reloc_number reloc.OutOfMemory = 7

-- which refusal it is; want of memory is none of a stage's
abbrev pub reason_of : LinkRefusal → Option Reason
reason_of (refusal.Object r) = Some (record { stage = stage.Object; number = object_number r })
reason_of (refusal.Parts r) = Some (record { stage = stage.Parts; number = parts_number r })
reason_of (refusal.Tables r) = Some (record { stage = stage.Tables; number = tables_number r })
reason_of (refusal.Reloc r) = Some (record { stage = stage.Reloc; number = reloc_number r })
reason_of refusal.OutOfMemory = None
