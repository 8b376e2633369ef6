-- Where the sections of an area lie in it.
use Rattle.std.specs.Prelude.{◌≡◌, ℕ, ◌+◌, ◌-◌, ◌*◌, ◌/◌, ◌==◌, ◌≤◌, length, sum_by, Bool, List, [], ◌∷◌, filter, fold, if◌then◌else◌}
use Rattle.std.specs.List.{list_any}
use Rattle.ad_elf.specs.declared.object.Section.{Section}
use Rattle.ad_parts.specs.Area.{area_of, is_same}
use Rattle.ad_parts.specs.declared.area.Area.{Area}
use Rattle.ad_parts.specs.declared.area.Area.TheVariants.{FixedReadOnly, FixedText, FixedWritable, Local, ReadOnly, Text, Writable}
use Rattle.ad_parts.specs.declared.ends.Ends.{Ends}

-- The alignments that are taken: the powers of two up to 4,096, and 0, which counts as 1.
abbrev pub alignments : List ℕ
alignments = 0 ∷ 1 ∷ 2 ∷ 4 ∷ 8 ∷ 16 ∷ 32 ∷ 64 ∷ 128 ∷ 256 ∷ 512 ∷ 1024 ∷ 2048 ∷ 4096 ∷ []

unfoldable pub is_aligned : Section → Bool
is_aligned s = list_any (λ a. a == s.align) alignments

abbrev pub align_of : Section → ℕ
align_of s = if s.align == 0 then 1 else s.align

-- the least multiple of an alignment that isn't below a number
unfoldable pub next : ℕ → ℕ → ℕ
next align n = (n + (align - 1)) / align * align

-- Where sections end that follow one another from 0 on, each at the next multiple of its alignment.
unfoldable pub end_of : List Section → ℕ
end_of ss = fold (λ at (s : Section). next (align_of s) at + s.size) 0 ss

-- where those of an area end
abbrev pub area_end : Area → List Section → ℕ
area_end a ss = end_of (filter (λ (s : Section). is_same (area_of s) a) ss)

-- an end of each area, and the same with another end of one
abbrev pub end_at : Ends → Area → ℕ
end_at e Text = e.text
end_at e ReadOnly = e.read
end_at e Local = e.local
end_at e Writable = e.«data»
end_at e FixedText = e.fixed_text
end_at e FixedReadOnly = e.fixed_read
end_at e FixedWritable = e.fixed_data

abbrev pub with_end : Ends → Area → ℕ → Ends
with_end e Text n = record e { text = n }
with_end e ReadOnly n = record e { read = n }
with_end e Local n = record e { local = n }
with_end e Writable n = record e { «data» = n }
with_end e FixedText n = record e { fixed_text = n }
with_end e FixedReadOnly n = record e { fixed_read = n }
with_end e FixedWritable n = record e { fixed_data = n }

-- these are the ends of each area
pub record AreEnds (ss : List Section) (e : Ends) : Type 0 where
  pub each_one : (a : Area) → end_at e a ≡ area_end a ss

-- the ends with one section more
abbrev pub ends_behind : Ends → Section → Ends
ends_behind e s = with_end e (area_of s) (next (align_of s) (end_at e (area_of s)) + s.size)

-- none of the ends is far behind the sizes of the sections
pub record AreShort (ss : List Section) (e : Ends) : Type 0 where
  pub each_one : (a : Area) → end_at e a ≤ sum_by (λ (s : Section). s.size) ss + 4096 * length ss
