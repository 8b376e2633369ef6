-- The layout of the parts: the movable part has text, stubs, read-only data, the fixed table, the local area and data; the
-- immovable part has the same without the local area. Each group is rounded up to whole pages.
use Rattle.std.specs.Prelude.{ℕ, ◌+◌, ◌-◌, ◌*◌, ◌/◌, nat_lt, List, [], ◌∷◌, ◌++◌, Option, Some, None, if◌then◌else◌}
use Rattle.ad_base.specs.declared.layout.TheConstants.{LOCAL_PAGES, PAGE_BYTES, PART_PAGES, STUB_PAGES, TABLE_PAGES}
use Rattle.ad_elf.specs.declared.object.Section.{Section}
use Rattle.ad_parts.specs.Area.{area_of, group_of, is_movable}
use Rattle.ad_parts.specs.Ends.{align_of, area_end, next}
use Rattle.ad_parts.specs.declared.area.Area.{Area}
use Rattle.ad_parts.specs.declared.area.Area.TheVariants.{FixedReadOnly, FixedText, FixedWritable, Local, ReadOnly, Text, Writable}
use Rattle.ad_parts.specs.declared.ends.Ends.{Ends}
use Rattle.ad_parts.specs.declared.layout.Sizes.{Sizes}
use Rattle.ad_parts.specs.declared.layout.Spot.{Spot}

-- the pages of so many bytes
unfoldable pub pages_of : ℕ → ℕ
pages_of bytes = (bytes + (PAGE_BYTES - 1)) / PAGE_BYTES

-- where the sections of each area end
abbrev pub ends : List Section → Ends
ends ss = record {
  text = area_end Text ss;
  read = area_end ReadOnly ss;
  local = area_end Local ss;
  «data» = area_end Writable ss;
  fixed_text = area_end FixedText ss;
  fixed_read = area_end FixedReadOnly ss;
  fixed_data = area_end FixedWritable ss;
}

-- the pages of each part
abbrev pub movable_pages : Ends → ℕ
movable_pages e = pages_of e.text + STUB_PAGES + pages_of e.read + TABLE_PAGES + LOCAL_PAGES + pages_of e.«data»

abbrev pub fixed_pages : Ends → ℕ
fixed_pages e = pages_of e.fixed_text + STUB_PAGES + pages_of e.fixed_read + TABLE_PAGES + pages_of e.fixed_data

-- the pages of the movable part, or else of the immovable one, where they are more than a part may have
abbrev pub pages_over : Ends → Option ℕ
pages_over e =
    if nat_lt PART_PAGES (movable_pages e) then Some (movable_pages e) else (if nat_lt PART_PAGES (fixed_pages e) then Some (fixed_pages e) else None)

-- how long the groups are
abbrev pub sizes : Ends → Sizes
sizes e = record {
  text_pages = pages_of e.text;
  read_pages = pages_of e.read;
  data_pages = pages_of e.«data»;
  fixed_text_pages = pages_of e.fixed_text;
  fixed_read_pages = pages_of e.fixed_read;
  fixed_data_pages = pages_of e.fixed_data;
  local_bytes = e.local;
}

-- the page of its part at which an area begins
abbrev pub start_page : Sizes → Area → ℕ
start_page z Text = 0
start_page z ReadOnly = z.text_pages + STUB_PAGES
start_page z Local = z.text_pages + STUB_PAGES + z.read_pages + TABLE_PAGES
start_page z Writable = z.text_pages + STUB_PAGES + z.read_pages + TABLE_PAGES + LOCAL_PAGES
start_page z FixedText = 0
start_page z FixedReadOnly = z.fixed_text_pages + STUB_PAGES
start_page z FixedWritable = z.fixed_text_pages + STUB_PAGES + z.fixed_read_pages + TABLE_PAGES

-- how many bytes an area has: those of its pages, and the local area those of its sections
abbrev pub area_bytes : Sizes → Area → ℕ
area_bytes z Text = z.text_pages * PAGE_BYTES
area_bytes z ReadOnly = z.read_pages * PAGE_BYTES
area_bytes z Local = z.local_bytes
area_bytes z Writable = z.data_pages * PAGE_BYTES
area_bytes z FixedText = z.fixed_text_pages * PAGE_BYTES
area_bytes z FixedReadOnly = z.fixed_read_pages * PAGE_BYTES
area_bytes z FixedWritable = z.fixed_data_pages * PAGE_BYTES

-- the bytes of its part at which an area begins and ends
abbrev pub area_from : Sizes → Area → ℕ
area_from z a = start_page z a * PAGE_BYTES

abbrev pub area_to : Sizes → Area → ℕ
area_to z a = area_from z a + area_bytes z a

-- where a section goes whose area ended there before it
unfoldable pub spot_at : Sizes → ℕ → Section → Spot
spot_at z end s = record {
  section = s.index;
  movable = is_movable (area_of s);
  group = group_of (area_of s);
  offset = start_page z (area_of s) * PAGE_BYTES + next (align_of s) end;
}

-- where a section goes that stands behind these
abbrev pub spot : Sizes → List Section → Section → Spot
spot z before s = spot_at z (area_end (area_of s) before) s

-- where the sections go, each behind those before it
unfoldable pub spots_behind : Sizes → List Section → List Section → List Spot
spots_behind z before [] = []
spots_behind z before (s ∷ later) = spot z before s ∷ spots_behind z (before ++ s ∷ []) later

abbrev pub spots : List Section → List Spot
spots ss = spots_behind (sizes (ends ss)) [] ss
