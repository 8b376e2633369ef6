-- The group and the part that a section goes to.
use Rattle.std.specs.Prelude.{ℕ, ◌||◌, Bool, true, false, nat_eq, List, codes, if◌then◌else◌}
use Rattle.std.specs.List.{starts_with}
use Rattle.ad_elf.specs.declared.elf.TheConstants.{SHF_EXECINSTR, SHF_WRITE}
use Rattle.ad_elf.specs.declared.object.Section.{Section}
use Rattle.ad_elf.specs.File.{has_flag}
use Rattle.ad_parts.specs.declared.area.Area.{Area}
use Rattle.ad_parts.specs.declared.area.Area.TheVariants.{FixedReadOnly, FixedText, FixedWritable, Local, ReadOnly, Text, Writable}
use Rattle.ad_parts.specs.declared.layout.Group.{Group}
use Rattle.ad_parts.specs.declared.layout.Group.TheVariants as group

-- the name of a section of the immovable part
unfoldable pub is_fixed_name : List ℕ → Bool
is_fixed_name name =
    starts_with nat_eq name (codes ".fixed") || starts_with nat_eq name (codes ".text.fixed") || starts_with nat_eq name (codes ".rodata.fixed")
    || starts_with nat_eq name (codes ".data.fixed") || starts_with nat_eq name (codes ".bss.fixed")

-- in each part, what is written is data, else what is executed is text, else it is read-only
abbrev pub of_three : {X : Type 0} → ℕ → X → X → X → X
of_three flags written text read = if has_flag flags SHF_WRITE then written else (if has_flag flags SHF_EXECINSTR then text else read)

-- The area of a section: the local area by its name, the immovable part by its name, else the movable part.
unfoldable pub area_of : Section → Area
area_of s =
    if starts_with nat_eq s.name (codes ".data.rel.ro") then Local
    else (if is_fixed_name s.name then of_three s.flags FixedWritable FixedText FixedReadOnly else of_three s.flags Writable Text ReadOnly)

-- whether the area is in the movable part, and its group
abbrev pub is_movable : Area → Bool
is_movable Text = true
is_movable ReadOnly = true
is_movable Local = true
is_movable Writable = true
is_movable _ = false

abbrev pub group_of : Area → Group
group_of Text = group.Text
group_of FixedText = group.Text
group_of ReadOnly = group.ReadOnly
group_of FixedReadOnly = group.ReadOnly
group_of Local = group.Local
group_of Writable = group.Writable
group_of FixedWritable = group.Writable

-- the area of a group of one of the parts; the immovable part has no local area
abbrev pub area_in : Bool → Group → Area
area_in true group.Text = Text
area_in true group.ReadOnly = ReadOnly
area_in true group.Local = Local
area_in true group.Writable = Writable
area_in false group.Text = FixedText
area_in false group.ReadOnly = FixedReadOnly
area_in false group.Local = Local
area_in false group.Writable = FixedWritable

-- the two areas are one
abbrev pub is_same : Area → Area → Bool
is_same Text Text = true
is_same ReadOnly ReadOnly = true
is_same Local Local = true
is_same Writable Writable = true
is_same FixedText FixedText = true
is_same FixedReadOnly FixedReadOnly = true
is_same FixedWritable FixedWritable = true
is_same _ _ = false
