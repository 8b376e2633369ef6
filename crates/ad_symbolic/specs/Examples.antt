-- Images, address spaces, calls and outcomes of worked examples.
use Rattle.std.specs.Prelude.{ℕ, ◌+◌, List, [], ◌∷◌, ◌++◌, codes, replicate}
use Rattle.std.specs.List.{flat_map}
use Rattle.byteorder.specs.Endian.{little_bytes}
use Rattle.ad_base.specs.declared.image.Image.{Image}
use Rattle.ad_base.specs.declared.layout.TheConstants.{INSTRUCTION_BYTES, PAGE_BYTES, STUB_PAGES, TABLE_PAGES, WORD_BYTES}
use Rattle.ad_base.specs.declared.place.Place.{Place}
use Rattle.ad_base.specs.declared.image.Cell.TheVariants.{Off}
use Rattle.ad_base.specs.declared.role.Role.TheVariants.{Cells, Code, Stack}
use Rattle.ad_base.specs.Image.{text_image, zeros}
use Rattle.ad_base.specs.Layout.{code_rights, constant_rights, data_rights}
use Rattle.ad_symbolic.specs.AddressSpace.{AddressSpace, cell_bytes, low_bytes, numbers_of, put_at_value, space_of}
use Rattle.ad_isa.specs.Finish.{Returns}
use Rattle.ad_symbolic.specs.Machine.{SymbolicOutcome, fresh_stack}
use Rattle.ad_symbolic.specs.Replay.{Asked}
use Rattle.ad_symbolic.specs.declared.byte.Byte.{Byte}
use Rattle.ad_symbolic.specs.declared.byte.Byte.TheVariants.{Number}
use Rattle.ad_symbolic.specs.declared.value.Part.TheVariants as part
use Rattle.ad_symbolic.specs.declared.value.Value.{Value}
use Rattle.ad_symbolic.specs.declared.value.Value.TheVariants.{At}

-- an image, with no data and a fresh stack
abbrev pub fresh_space : Image → AddressSpace
fresh_space i = space_of i [] [] fresh_stack

-- a run that ended with these: a byte of the data of each part, a note, a word of the queue and what it returns
abbrev pub ended_with : Image → Byte → Byte → Value → Value → Value → SymbolicOutcome
ended_with i writable fixed note word returned = record {
  finish = Returns returned;
  memory = record {
    space = space_of i (writable ∷ []) (fixed ∷ []) fresh_stack;
    notes = note ∷ [];
    queue = word ∷ [];
  };
}

-- the module of these instruction words, at most a page of them, which are its one export, and of nothing else;
-- its immovable part lies at a place
abbrev pub image_of : List ℕ → Place → Image
image_of words fixed = text_image (flat_map (little_bytes INSTRUCTION_BYTES) words) (record { name = codes "main"; offset = 0 } ∷ []) fixed

-- a call at the start of the text, with these arguments
abbrev pub asked : List ℕ → Asked
asked args = record { offset = 0; args = args }

-- add a0, a0, a1; ret
abbrev pub sum_words : List ℕ
sum_words = 0x00b50533 ∷ 0x00008067 ∷ []

-- jr a0
abbrev pub jump_words : List ℕ
jump_words = 0x00050067 ∷ []

-- lui t0, 0x40; jr 16(t0): makes a note of a0
abbrev pub note_words : List ℕ
note_words = 0x000402b7 ∷ 0x01028067 ∷ []

-- lui t0, 0x40; jr 48(t0): sends a0 to the device queue
abbrev pub send_words : List ℕ
send_words = 0x000402b7 ∷ 0x03028067 ∷ []

-- auipc t0, 4; ld t1, 0(t0); add a0, a0, t1; sd a0, 0(t0); ret: adds a0 to a word of the data four pages further on, and
-- returns the sum
abbrev pub count_words : List ℕ
count_words = 0x00004297 ∷ 0x0002b303 ∷ 0x00650533 ∷ 0x00a2b023 ∷ 0x00008067 ∷ []

-- the module of all these and of a page of data, zero at first; its immovable part lies at a place
abbrev pub counting_image : Place → Image
counting_image fixed = record (image_of (note_words ++ send_words ++ count_words ++ sum_words) fixed) { data_pages = 1; writable = zeros PAGE_BYTES }

-- calls that make a note of a number, send it, add it to the word of the data, and give the sum of two
abbrev pub asked_to_note : ℕ → Asked
asked_to_note n = record { offset = 0; args = n ∷ [] }

abbrev pub asked_to_send : ℕ → Asked
asked_to_send n = record { offset = 8; args = n ∷ [] }

abbrev pub asked_to_count : ℕ → Asked
asked_to_count n = record { offset = 16; args = n ∷ [] }

abbrev pub asked_for_sum : ℕ → ℕ → Asked
asked_for_sum a b = record { offset = 36; args = a ∷ b ∷ [] }

-- a place of such an immovable part, at 7715426304
abbrev pub fixed_place : Place
fixed_place = record { region = 29432; start = 1; pages = STUB_PAGES + TABLE_PAGES; mapping = 2; frame = 0 }

-- a few bytes of a module that adds: code, and a word of the local area; and of a stack
abbrev pub small_space : AddressSpace
small_space = record {
  image = image_of sum_words fixed_place;
  movable = record { base = 0; bytes = numbers_of (little_bytes WORD_BYTES 0x0000806700b50533); rights = code_rights; role = Code }
      ∷ record { base = 8; bytes = cell_bytes (Off 40); rights = constant_rights; role = Cells } ∷ [];
  stack = record { base = 0; bytes = replicate 24 (Number 0); rights = data_rights; role = Stack } ∷ [];
  fixed = [];
}

-- the same, once so many low bytes of a value were put at an offset of the stack
abbrev pub with_stack : ℕ → Value → ℕ → AddressSpace → AddressSpace
with_stack size value o s = put_at_value (At part.Stack o) (low_bytes size value) s
