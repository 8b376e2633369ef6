-- The memory of a call, and what is found and left there.
use Rattle.std.specs.Prelude.{◌≡◌, ℕ, ◌%◌, ◌==◌, if◌then◌else◌, List, All, length, Option, Some, None, Result, Ok, Err}
use Rattle.byteorder.specs.Endian.{little_bytes, little_number}
use Rattle.ad_base.specs.declared.end.End.{End}
use Rattle.ad_base.specs.declared.end.End.TheVariants as ends
use Rattle.ad_base.specs.declared.layout.TheConstants.{FETCH_BYTES, GATE, WORD_BYTES}
use Rattle.ad_base.specs.Segments.{Fetch, Load, Segment, Store, bytes_from, put_at, reach, service_number}
use Rattle.ad_isa.specs.Services.{Channels}
use Rattle.ad_core.specs.declared.bus.Fetched.{Fetched}
use Rattle.ad_core.specs.declared.bus.Fetched.TheVariants as fetch

-- the segments, the notes of the call and the words of the device queue, the oldest first
pub record Memory : Type 0 where
  pub segments : List (Segment ℕ)
  pub notes : List ℕ
  pub queue : List ℕ

abbrev pub channels_of : Memory → Channels ℕ
channels_of m = record { notes = m.notes; queue = m.queue }

-- the memory once its notes and its queue are these
abbrev pub with_channels : Memory → Channels ℕ → Memory
with_channels m c = record { segments = m.segments; notes = c.notes; queue = c.queue }

-- the base and the length of each segment are multiples of a word
abbrev pub HasWholeWords : List (Segment ℕ) → Type 0
HasWholeWords segments = All (λ s. (s.base % WORD_BYTES ≡ 0) × (length s.bytes % WORD_BYTES ≡ 0)) segments

-- the number of so many bytes at an address of a segment, the lowest byte first
abbrev pub number_in : ℕ → ℕ → Segment ℕ → ℕ
number_in size at s = little_number size (bytes_from at s)

-- the word of the segment that a fetch reaches
abbrev pub word_of : ℕ → Result (Segment ℕ) End → Fetched
word_of at (Ok s) = fetch.Word (number_in FETCH_BYTES at s)
word_of at (Err ends.Denied) = fetch.Denied
word_of at (Err end) = fetch.Fault

abbrev pub service_or : Option ℕ → Fetched → Fetched
service_or None otherwise = otherwise
service_or (Some number) otherwise = fetch.Service number

-- what is found where an instruction is fetched: the gate, a service, or a word
unfoldable pub fetched : List (Segment ℕ) → ℕ → Fetched
fetched segments at = if at == GATE then fetch.Gate else service_or (service_number at) (word_of at (reach Fetch FETCH_BYTES segments at))

-- the number that a load of so many bytes finds
abbrev pub number_of : ℕ → ℕ → Result (Segment ℕ) End → Result ℕ End
number_of size at (Ok s) = Ok (number_in size at s)
number_of size at (Err end) = Err end

unfoldable pub loaded : ℕ → List (Segment ℕ) → ℕ → Result ℕ End
loaded size segments at = number_of size at (reach Load size segments at)

-- the segments once so many low bytes of a value were stored
abbrev pub put_by : ℕ → ℕ → List (Segment ℕ) → ℕ → Result (Segment ℕ) End → Result (List (Segment ℕ)) End
put_by size value segments at (Ok s) = Ok (put_at at (little_bytes size value) segments)
put_by size value segments at (Err end) = Err end

unfoldable pub stored : ℕ → ℕ → List (Segment ℕ) → ℕ → Result (List (Segment ℕ)) End
stored size value segments at = put_by size value segments at (reach Store size segments at)
