-- The memory of the symbolic machine, and what it finds and leaves there.
use Rattle.std.specs.Prelude.{ℕ, ◌+◌, ◌-◌, ◌*◌, ◌%◌, ◌^◌, Bool, false, ◌==◌, ◌&&◌, ◌||◌, nat_lt, nat_le, if◌then◌else◌, List, [], ◌∷◌, ◌++◌, length, take, map, replicate, Option, Some, None, Result, Ok, Err}
use Rattle.std.specs.List.{flat_map, range_with_len}
use Rattle.byteorder.specs.Endian.{little_bytes, little_number}
use Rattle.ad_base.specs.declared.end.End.{End}
use Rattle.ad_base.specs.declared.end.End.TheVariants as ends
use Rattle.ad_base.specs.declared.image.Cell.{Cell}
use Rattle.ad_base.specs.declared.image.Cell.TheVariants.{Off, Num as Constant}
use Rattle.ad_base.specs.declared.image.Image.{Image}
use Rattle.ad_base.specs.declared.layout.TheConstants.{FETCH_BYTES, PAGE_BYTES, STACK_PAGES, WORD_BYTES}
use Rattle.ad_base.specs.declared.role.Role.{Role}
use Rattle.ad_base.specs.Image.{movable_pages}
use Rattle.ad_base.specs.Layout.{bytes_of, fixed_roles, laid_out, movable_roles, stack_roles}
use Rattle.ad_base.specs.Place.{base_of}
use Rattle.ad_base.specs.Segments.{Fetch, Load, Segment, Store, Use, bytes_from, holding, put_at, service_number, with_right}
use Rattle.ad_isa.specs.Domain.{◌>>=◌}
use Rattle.ad_isa.specs.Numbers.{widened}
use Rattle.ad_isa.specs.Step.{Found, Service, Word}
use Rattle.ad_symbolic.specs.Value.{is_outside, is_same_part, offset_of}
use Rattle.ad_symbolic.specs.declared.byte.Byte.{Byte}
use Rattle.ad_symbolic.specs.declared.byte.Byte.TheVariants.{Number, OfAddress}
use Rattle.ad_symbolic.specs.declared.value.Reason.TheVariants.{Address, MixedBytes}
use Rattle.ad_symbolic.specs.declared.value.Value.TheVariants.{At, Num}
use Rattle.ad_symbolic.specs.declared.value.Part.TheVariants.{Movable, Stack}
use Rattle.ad_symbolic.specs.declared.value.Part.{Part}
use Rattle.ad_symbolic.specs.declared.value.Reason.{Reason}
use Rattle.ad_symbolic.specs.declared.value.Value.{Value}

-- bytes that are numbers
abbrev pub numbers_of : List ℕ → List Byte
numbers_of bytes = map Number bytes

-- the bytes of the address at an offset of a part
abbrev pub address_bytes : Part → ℕ → List Byte
address_bytes p o = map (λ i. OfAddress i p o) (range_with_len 0 WORD_BYTES)

-- the bytes of a word of the local area: of the address at its offset, or of its number
abbrev pub cell_bytes : Cell → List Byte
cell_bytes (Off o) = address_bytes Movable o
cell_bytes (Constant n) = numbers_of (little_bytes WORD_BYTES n)

-- the page of the local area: its words, and zeros behind the last
abbrev pub local_page : List Cell → List Byte
local_page cells = let bytes = flat_map cell_bytes cells in bytes ++ replicate (PAGE_BYTES - length bytes) (Number 0)

-- What a call reaches: the image, and the segments of each part. Those of the movable part and of the stack lie from
-- offset 0 on, those of the immovable part where it lies.
pub record AddressSpace : Type 0 where
  pub image : Image
  pub movable : List (Segment Byte)
  pub stack : List (Segment Byte)
  pub fixed : List (Segment Byte)

-- what each piece of an image holds, where the data of the movable and of the immovable part and the stack hold these
abbrev pub bytes_in : Image → List Byte → List Byte → List Byte → Role → List Byte
bytes_in i writable fixed stack = bytes_of numbers_of i (local_page i.cells) writable fixed stack

-- what a call of an image reaches, where they hold these
abbrev pub space_of : Image → List Byte → List Byte → List Byte → AddressSpace
space_of i writable fixed stack =
    let bytes = bytes_in i writable fixed stack in
    record { image = i; movable = laid_out 0 bytes movable_roles; stack = laid_out 0 bytes stack_roles; fixed = laid_out (base_of i.fixed) bytes fixed_roles }

-- the part whose place a value may depend on
abbrev pub segments_in : AddressSpace → Part → List (Segment Byte)
segments_in s Movable = s.movable
segments_in s Stack = s.stack

-- how many bytes it has
abbrev pub part_bytes : Image → Part → ℕ
part_bytes i Movable = movable_pages i * PAGE_BYTES
part_bytes i Stack = STACK_PAGES * PAGE_BYTES

-- an offset that is at most a page before a part, or less than a page behind it
abbrev pub is_beside : ℕ → ℕ → Bool
is_beside size o = nat_le (2 ^ 64 - PAGE_BYTES) o || nat_lt o (size + PAGE_BYTES)

-- the segment that an access of so many bytes reaches, how the call ends there, or why neither is clear
abbrev pub reach_value : Use → ℕ → AddressSpace → Value → Result (Result (Segment Byte) End) Reason
reach_value wanted size s (At p o) =
    if o % size == 0 then
    (if nat_lt o (part_bytes s.image p) then Ok (with_right wanted (holding (segments_in s p) o))
    else (if is_beside (part_bytes s.image p) o then Ok (Err ends.Fault) else Err Address))
    else Ok (Err ends.Misaligned)
reach_value wanted size s (Num n) =
    if n % size == 0 then
    (if is_outside n then Ok (Err ends.Fault)
    else (if nat_le (base_of s.image.fixed) n && nat_lt n (base_of s.image.fixed + s.image.fixed.pages * PAGE_BYTES) then Ok (with_right wanted (holding s.fixed n))
    else Err Address))
    else Ok (Err ends.Misaligned)

-- an access that ends the call does so; another goes on with the segment that it reaches
abbrev pub reached_then : {A : Type 0} → Result (Result (Segment Byte) End) Reason → (Segment Byte → Result (Result A End) Reason) → Result (Result A End) Reason
reached_then (Ok (Ok s)) f = f s
reached_then (Ok (Err end)) f = Ok (Err end)
reached_then (Err reason) f = Err reason

-- numbers alone, or the reason why they are not
abbrev pub all_numbers : List Byte → Result (List ℕ) Reason
all_numbers [] = Ok []
all_numbers (Number n ∷ bs) = all_numbers bs >>= λ ns. Ok (n ∷ ns)
all_numbers (OfAddress i p o ∷ bs) = Err MixedBytes

-- the word at an offset or an address of a segment, the lowest byte first
abbrev pub word_from : ℕ → Segment Byte → Result (Result Found End) Reason
word_from at s = all_numbers (take FETCH_BYTES (bytes_from at s)) >>= λ ns. Ok (Ok (Word (little_number FETCH_BYTES ns)))

-- the service at a value; no address is one of a service
abbrev pub service_at : Value → Option ℕ
service_at (Num n) = service_number n
service_at (At p o) = None

-- the service, or else what is found
abbrev pub service_or : Option ℕ → Result (Result Found End) Reason → Result (Result Found End) Reason
service_or (Some number) otherwise = Ok (Ok (Service number))
service_or None otherwise = otherwise

-- what is found where an instruction is fetched: a service or a word, how the call ends, or why it isn't clear
unfoldable pub fetched_value : AddressSpace → Value → Result (Result Found End) Reason
fetched_value s v = service_or (service_at v) (reached_then (reach_value Fetch FETCH_BYTES s v) (word_from (offset_of v)))

-- whether these are the bytes of one address, from this one on to its last
abbrev pub are_of_address : Part → ℕ → ℕ → List Byte → Bool
are_of_address p o i [] = i == WORD_BYTES
are_of_address p o i (OfAddress j q u ∷ bs) = i == j && is_same_part p q && o == u && are_of_address p o (i + 1) bs
are_of_address p o i (Number n ∷ bs) = false

-- the value of so many bytes, with their sign or without: a number, or the address whose bytes they are
abbrev pub value_of_bytes : ℕ → Bool → List Byte → Result Value Reason
value_of_bytes size signed (OfAddress i p o ∷ bs) = if are_of_address p o 0 (OfAddress i p o ∷ bs) then Ok (At p o) else Err MixedBytes
value_of_bytes size signed bs = all_numbers bs >>= λ ns. Ok (Num (widened size signed (little_number size ns)))

-- what a load of so many bytes finds
unfoldable pub loaded_value : ℕ → Bool → AddressSpace → Value → Result (Result Value End) Reason
loaded_value size signed s v = reached_then (reach_value Load size s v) (λ found. value_of_bytes size signed (take size (bytes_from (offset_of v) found)) >>= λ value. Ok (Ok value))

-- so many low bytes of a value
abbrev pub low_bytes : ℕ → Value → List Byte
low_bytes size (Num n) = numbers_of (little_bytes size n)
low_bytes size (At p o) = take size (address_bytes p o)

-- what is reached, once these bytes were put at a value
abbrev pub put_at_value : Value → List Byte → AddressSpace → AddressSpace
put_at_value (At Movable o) bytes s = record s { movable = put_at o bytes s.movable }
put_at_value (At Stack o) bytes s = record s { stack = put_at o bytes s.stack }
put_at_value (Num n) bytes s = record s { fixed = put_at n bytes s.fixed }

-- what is reached once so many low bytes of a value were stored
unfoldable pub stored_value : ℕ → Value → AddressSpace → Value → Result (Result AddressSpace End) Reason
stored_value size value s v = reached_then (reach_value Store size s v) (λ found. Ok (Ok (put_at_value v (low_bytes size value) s)))
