-- Memories and calls of worked examples.
use Rattle.std.specs.Prelude.{ℕ, ◌+◌, ◌*◌, ◌%◌, ◌^◌, List, [], ◌∷◌}
use Rattle.std.specs.List.{flat_map}
use Rattle.byteorder.specs.Endian.{little_bytes}
use Rattle.ad_base.specs.declared.end.End.{End}
use Rattle.ad_base.specs.declared.layout.TheConstants.{INSTRUCTION_BYTES}
use Rattle.ad_base.specs.declared.role.Role.{Role}
use Rattle.ad_base.specs.declared.role.Role.TheVariants.{Code, Constants, Data}
use Rattle.ad_base.specs.Layout.{rights_of}
use Rattle.ad_base.specs.Segments.{Access, Fetch, Load, Segment, Store, Use}
use Rattle.ad_core.specs.Memory.{Memory}
use Rattle.ad_core.specs.Plain.{PlainOutcome, plain_call}

-- these bytes from an address on
abbrev pub segment_of : Role → ℕ → List ℕ → Segment ℕ
segment_of role base bytes = record { base = base; bytes = bytes; rights = rights_of role; role = role }

-- these segments, no note and an empty queue
abbrev pub memory_of : List (Segment ℕ) → Memory
memory_of segments = record { segments = segments; notes = []; queue = [] }

-- these instruction words from an address on
abbrev pub words_at : Role → ℕ → List ℕ → Segment ℕ
words_at role base words = segment_of role base (flat_map (little_bytes INSTRUCTION_BYTES) words)

-- these instruction words alone, from an address on
abbrev pub code_at : ℕ → List ℕ → Memory
code_at base words = memory_of (words_at Code base words ∷ [])

-- the same words, which may not be fetched
abbrev pub constants_at : ℕ → List ℕ → Memory
constants_at base words = memory_of (words_at Constants base words ∷ [])

-- the same words as code, and these bytes of data from another address on
abbrev pub code_and_data : ℕ → List ℕ → ℕ → List ℕ → Memory
code_and_data base words at bytes = memory_of (words_at Code base words ∷ segment_of Data at bytes ∷ [])

-- a call with these arguments of these words, at 0x100000, beside eight bytes of data at 0x200000
abbrev pub data_call : List ℕ → List ℕ → PlainOutcome
data_call args words = plain_call 100 0x100000 args 0 (code_and_data 0x100000 words 0x200000 (1 ∷ 2 ∷ 3 ∷ 4 ∷ 5 ∷ 6 ∷ 7 ∷ 8 ∷ []))

-- the access at an address, of so many bytes
abbrev pub access : Use → ℕ → ℕ → Access
access wanted at size = record { at = at; size = size; use_of = wanted }

-- what an access does, as a number
abbrev pub number_of_use : Use → ℕ
number_of_use Fetch = 1
number_of_use Load = 2
number_of_use Store = 3

-- a tally that tells accesses and their order apart, but for chance
abbrev pub tally_with : ℕ → Access → ℕ
tally_with tally access = (tally * 31 + (access.at + (access.size + number_of_use access.use_of * 16))) % 2 ^ 64

-- A call of these words, with this number in a0 and this address in a1, where these notes were made and the queue holds
-- these words: how it ends, and the notes and the queue that it leaves.
abbrev pub reply_of : List ℕ → ℕ → ℕ → List ℕ → List ℕ → End × List ℕ × List ℕ
reply_of words at a0 notes queue =
    let o = plain_call 100 0x100000 (a0 ∷ at ∷ []) 0 (record { segments = words_at Code 0x100000 words ∷ []; notes = notes; queue = queue }) in
    (o.end, o.memory.notes, o.memory.queue)

-- the same of jr a1
abbrev pub service_reply : ℕ → ℕ → List ℕ → List ℕ → End × List ℕ × List ℕ
service_reply = reply_of (0x00058067 ∷ [])

-- and of li ra, 6 before it: the service returns to no multiple of 4
abbrev pub misaligned_reply : ℕ → ℕ → List ℕ → List ℕ → End × List ℕ × List ℕ
misaligned_reply = reply_of (0x00600093 ∷ 0x00058067 ∷ [])
