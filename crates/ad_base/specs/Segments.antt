-- The memory of a call, over the type of a byte: a list of segments, of which the first that holds an address counts;
-- and what an access may reach of it.
use Rattle.std.specs.Prelude.{ℕ, ◌+◌, ◌-◌, ◌*◌, ◌/◌, ◌%◌, Bool, true, false, not, ◌==◌, ◌&&◌, nat_lt, nat_le, if◌then◌else◌, List, [], ◌∷◌, ◌++◌, length, take, drop, map, find, Option, Some, None, Result, Ok, Err}
use Rattle.std.specs.Option.{option_map_or}
use Rattle.ad_base.specs.declared.end.End.{End}
use Rattle.ad_base.specs.declared.end.End.TheVariants.{Denied, Fault, Misaligned}
use Rattle.ad_base.specs.declared.layout.TheConstants.{FIRST_SERVICE, REGION_BYTES, SERVICE_BYTES, SERVICES}
use Rattle.ad_base.specs.declared.role.Role.{Role}
use Rattle.ad_base.specs.declared.role.Role.TheVariants.{Data, FixedData}

-- what may be done with the bytes of a segment
pub record Rights : Type 0 where
  pub fetch : Bool
  pub load : Bool
  pub store : Bool

abbrev pub is_data : Role → Bool
is_data Data = true
is_data role = false

abbrev pub is_fixed_data : Role → Bool
is_fixed_data FixedData = true
is_fixed_data role = false

-- bytes from an address on
pub record Segment (B : Type 0) : Type 0 where
  pub base : ℕ
  pub bytes : List B
  pub rights : Rights
  pub role : Role

-- where a segment lies, how many bytes it has, and what they are
pub record Extent : Type 0 where
  pub base : ℕ
  pub size : ℕ
  pub rights : Rights
  pub role : Role

-- what an access does
pub data Use : Type 0 where
  Fetch : Use
  Load : Use
  Store : Use

abbrev pub allows : Use → Rights → Bool
allows Fetch r = r.fetch
allows Load r = r.load
allows Store r = r.store

-- region 1 is kept for the gate, the services and the wrappers
abbrev pub in_region_1 : ℕ → Bool
in_region_1 at = at / REGION_BYTES == 1

-- the number of the service at an address, if there is one
abbrev pub service_number : ℕ → Option ℕ
service_number at =
    if nat_le FIRST_SERVICE at && nat_lt at (FIRST_SERVICE + SERVICES * SERVICE_BYTES) && ((at - FIRST_SERVICE) % SERVICE_BYTES == 0) then Some ((at - FIRST_SERVICE) / SERVICE_BYTES) else None

module _ {B : Type 0} where
  -- the bytes of the first segment whose role passes a test
  abbrev pub bytes_of_role : (Role → Bool) → List (Segment B) → List B
  bytes_of_role test segments = option_map_or (λ s. s.bytes) (find (λ s. test s.role) segments) []

  abbrev pub extent_of : Segment B → Extent
  extent_of s = record { base = s.base; size = length s.bytes; rights = s.rights; role = s.role }

  abbrev pub extents : List (Segment B) → List Extent
  extents segments = map extent_of segments

  abbrev pub holds : ℕ → Segment B → Bool
  holds at s = nat_le s.base at && nat_lt at (s.base + length s.bytes)

  -- the first segment that holds an address
  abbrev pub holding : List (Segment B) → ℕ → Option (Segment B)
  holding segments at = find (holds at) segments

  -- the segment, if it has the right that an access needs
  abbrev pub with_right : Use → Option (Segment B) → Result (Segment B) End
  with_right wanted None = Err Fault
  with_right wanted (Some s) = if allows wanted s.rights then Ok s else Err Denied

  -- The segment that an access of so many bytes reaches, or how the call ends: the address is a multiple of the size, it
  -- isn't in region 1, some segment holds it, and the first that does has the right.
  abbrev pub reach : Use → ℕ → List (Segment B) → ℕ → Result (Segment B) End
  reach wanted size segments at =
      if at % size == 0 then (if in_region_1 at then Err Fault else with_right wanted (holding segments at)) else Err Misaligned

  -- the bytes of a segment from an address on
  abbrev pub bytes_from : ℕ → Segment B → List B
  bytes_from at s = drop (at - s.base) s.bytes

  -- the segment once these bytes were put at an address; none is put behind its end
  abbrev pub with_bytes : ℕ → List B → Segment B → Segment B
  with_bytes at more s =
      let k = at - s.base in
      record { base = s.base; bytes = take (length s.bytes) (take k s.bytes ++ more ++ drop (k + length more) s.bytes); rights = s.rights; role = s.role }

  -- the segments once these bytes were put at an address: the first that holds it gets them
  abbrev pub put_at : ℕ → List B → List (Segment B) → List (Segment B)
  put_at at more [] = []
  put_at at more (s ∷ segments) = if holds at s then with_bytes at more s ∷ segments else s ∷ put_at at more segments

-- an access: its address, its bytes, and what it does
pub record Access : Type 0 where
  pub at : ℕ
  pub size : ℕ
  pub use_of : Use

-- the access that is told to a track: one that is aligned and outside region 1
abbrev pub told : Use → ℕ → ℕ → List Access
told wanted size at = if at % size == 0 && not (in_region_1 at) then record { at = at; size = size; use_of = wanted } ∷ [] else []
