-- The pieces that a call reaches, and what an access comes to, as the code says it.
use Rattle.std.specs.Prelude.{◌≡◌, ℕ, ◌+◌, ◌*◌, ◌≤◌, ◌<◌, List, [], ◌∷◌, length, option_map, Option, Some, None, Result, Ok, Err}
use Rattle.ad_base.specs.declared.end.End.{End}
use Rattle.ad_base.specs.declared.layout.TheConstants.{FETCH_BYTES, PAGE_BYTES, SERVICES, STACK_PAGES}
use Rattle.ad_base.specs.declared.role.Role.{Role}
use Rattle.ad_base.specs.declared.role.Role.TheVariants.{Cells, Code, Constants, Data, FixedCode, FixedConstants, FixedData, FixedTable, Stack, Table}
use Rattle.ad_base.specs.Segments.{Fetch, Segment, Use, with_bytes, with_right}
use Rattle.ad_isa.specs.Step as steps
use Rattle.ad_symbolic.specs.AddressSpace.{AddressSpace, put_at_value, reach_value, reached_then, space_of, word_from}
use Rattle.ad_symbolic.specs.Private.Pieces.{Stretch, segment_of}
use Rattle.ad_symbolic.specs.Value.{offset_of}
use Rattle.ad_symbolic.specs.declared.byte.Byte.{Byte}
use Rattle.ad_symbolic.specs.declared.memory.Found.{Found}
use Rattle.ad_symbolic.specs.declared.memory.Found.TheVariants as found
use Rattle.ad_symbolic.specs.declared.memory.Memory.{Memory}
use Rattle.ad_symbolic.specs.declared.value.Reason.{Reason}
use Rattle.ad_symbolic.specs.declared.value.Value.{Value}

-- what the code's pieces are
abbrev pub space_in : Memory → AddressSpace
space_in m = record {
  image = m.image.now;
  movable = segment_of Code m.code ∷ segment_of Constants m.constants ∷ segment_of Table m.table ∷ segment_of Cells m.cells ∷ segment_of Data m.writable ∷ [];
  stack = segment_of Stack m.stack ∷ [];
  fixed = segment_of FixedCode m.fixed_code ∷ segment_of FixedConstants m.fixed_constants ∷ segment_of FixedTable m.fixed_table ∷ segment_of FixedData m.fixed_data ∷ [];
}

-- the same, where the data of both parts and the stack hold these
abbrev pub space_by : Memory → List Byte → List Byte → List Byte → AddressSpace
space_by m writable fixed stack = record {
  image = m.image.now;
  movable = segment_of Code m.code ∷ segment_of Constants m.constants ∷ segment_of Table m.table ∷ segment_of Cells m.cells ∷ segment_of Data (record { base = m.writable.base; bytes = writable }) ∷ [];
  stack = segment_of Stack (record { base = m.stack.base; bytes = stack }) ∷ [];
  fixed = segment_of FixedCode m.fixed_code ∷ segment_of FixedConstants m.fixed_constants ∷ segment_of FixedTable m.fixed_table ∷ segment_of FixedData (record { base = m.fixed_data.base; bytes = fixed }) ∷ [];
}

-- they are those of the image, whatever the data and the stack hold, and the stack is as long as one
pub record IsOfImage (m : Memory) : Type 0 where
  pub same : (writable fixed stack : List Byte) → space_by m writable fixed stack ≡ space_of m.image.now writable fixed stack
  pub long : length m.stack.bytes ≡ STACK_PAGES * PAGE_BYTES

-- the piece of a role
abbrev pub piece_in : Memory → Role → Stretch
piece_in m Stack = m.stack
piece_in m FixedCode = m.fixed_code
piece_in m FixedConstants = m.fixed_constants
piece_in m FixedTable = m.fixed_table
piece_in m FixedData = m.fixed_data
piece_in m Code = m.code
piece_in m Constants = m.constants
piece_in m Table = m.table
piece_in m Cells = m.cells
piece_in m Data = m.writable

abbrev pub segment_in : Memory → Role → Segment Byte
segment_in m r = segment_of r (piece_in m r)

-- the segment of a role, if one is reached
abbrev pub held_in : Memory → Option Role → Option (Segment Byte)
held_in m role = option_map (segment_in m) role

-- what an access comes to that reaches the piece of a role
abbrev pub allowed : Memory → Use → Result (Result Role End) Reason → Result (Result (Segment Byte) End) Reason
allowed m wanted (Ok (Ok role)) = Ok (with_right wanted (Some (segment_in m role)))
allowed m wanted (Ok (Err end)) = Ok (Err end)
allowed m wanted (Err reason) = Err reason

-- the piece of a role, if one is reached, has a byte there
abbrev pub LiesIn : Memory → ℕ → Option Role → Type 0
LiesIn m at (Some role) = ((piece_in m role).base ≤ at) × (at < (piece_in m role).base + length (piece_in m role).bytes)
LiesIn m at None = Unit {0}

-- where the piece of a role that may be stored to is reached, bytes that are put there are put into it
abbrev pub PutsIn : Memory → Value → Option Role → Type 0
PutsIn m v (Some Data) = (more : List Byte) → put_at_value v more (space_in m)
    ≡ record (space_in m) {
      movable = segment_of Code m.code ∷ segment_of Constants m.constants ∷ segment_of Table m.table ∷ segment_of Cells m.cells ∷ with_bytes (offset_of v) more (segment_of Data m.writable) ∷ [];
    }
PutsIn m v (Some Stack) = (more : List Byte) → put_at_value v more (space_in m) ≡ record (space_in m) { stack = with_bytes (offset_of v) more (segment_of Stack m.stack) ∷ [] }
PutsIn m v (Some FixedData) = (more : List Byte) → put_at_value v more (space_in m)
    ≡ record (space_in m) {
      fixed = segment_of FixedCode m.fixed_code ∷ segment_of FixedConstants m.fixed_constants ∷ segment_of FixedTable m.fixed_table ∷ with_bytes (offset_of v) more (segment_of FixedData m.fixed_data) ∷ [];
    }
PutsIn m v other = Unit {0}

-- the role of the piece that is reached
abbrev pub role_reached : Result (Result Role End) Reason → Option Role
role_reached (Ok (Ok role)) = Some role
role_reached other = None

-- what holds where a piece is reached
abbrev pub IfReached : Result (Result Role End) Reason → Type 0 → Type 0
IfReached (Ok (Ok role)) P = P
IfReached other P = Unit {0}

-- what is fetched, as the code says it
abbrev pub found_of : Found → steps.Found
found_of (found.Word word) = steps.Word word
found_of (found.Service number) = steps.Service number

abbrev pub fetched_as : Result (Result Found End) Reason → Result (Result steps.Found End) Reason
fetched_as (Ok (Ok found)) = Ok (Ok (found_of found))
fetched_as (Ok (Err end)) = Ok (Err end)
fetched_as (Err reason) = Err reason

-- what a store leaves
abbrev pub stored_as : {U : Type 0} → Memory → Result (Result U End) Reason → Result (Result AddressSpace End) Reason
stored_as m (Ok (Ok u)) = Ok (Ok (space_in m))
stored_as m (Ok (Err end)) = Ok (Err end)
stored_as m (Err reason) = Err reason

-- how a store ends the call that changes nothing
abbrev pub IfEnds : {U : Type 0} → Result (Result U End) Reason → Type 0 → Type 0
IfEnds (Ok (Err end)) P = P
IfEnds other P = Unit {0}

-- what is found where no service is
abbrev pub word_fetched : AddressSpace → Value → Result (Result steps.Found End) Reason
word_fetched s v = reached_then (reach_value Fetch FETCH_BYTES s v) (word_from (offset_of v))

-- a service that is found has a number of one
abbrev pub HasService : Result (Result Found End) Reason → Type 0
HasService (Ok (Ok (found.Service number))) = number < SERVICES
HasService other = Unit {0}
