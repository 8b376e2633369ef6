-- A turn of the plain machine: one call of a module, from what its book held before to what it holds after.
use Rattle.std.specs.Prelude.{◌≡◌, ℕ, ◌+◌, ◌*◌, ◌%◌, ◌^◌, List, [], ◌∷◌, ◌++◌, Some, slice_get}
use Rattle.std.specs.Option.{option_map_or}
use Rattle.ad_base.specs.declared.layout.TheConstants.{PAGE_BYTES, STACK_PAGES}
use Rattle.ad_base.specs.declared.book.Entry.{Entry}
use Rattle.ad_base.specs.declared.image.Image.{Image}
use Rattle.ad_base.specs.declared.image.Export.{Export}
use Rattle.ad_base.specs.declared.place.Place.{Place}
use Rattle.ad_base.specs.Book.{Contents}
use Rattle.ad_base.specs.Place.{base_of}
use Rattle.ad_base.specs.Segments.{Segment, bytes_of_role, is_data, is_fixed_data}
use Rattle.ad_core.specs.Memory.{Memory}
use Rattle.ad_core.specs.Plain.{PlainOutcome, plain_call}
use Rattle.ad_core.specs.Image.{segments_of, fresh_stack}

-- the offset of an export, by its number
abbrev pub export_offset : Image → ℕ → ℕ
export_offset i number = option_map_or (λ (x : Export). x.offset) (slice_get i.exports number) 0

-- what a call reaches under these places: a fresh stack, and the data that the book holds
abbrev pub reached : Image → Contents → Place → Place → List (Segment ℕ)
reached i book under stack = segments_of i under stack fresh_stack book.fixed book.writable

-- what a call finds: these segments, no note so far, and the book's queue
abbrev pub memory_before : Image → Contents → Place → Place → Memory
memory_before i book under stack = record { segments = reached i book under stack; notes = []; queue = book.device }

-- the call of an entry at an offset of the movable part
abbrev pub plain : Image → ℕ → Contents → Place → Place → ℕ → List ℕ → PlainOutcome
plain i fuel book under stack offset args =
    plain_call fuel ((base_of under + offset) % 2 ^ 64) args (base_of stack + STACK_PAGES * PAGE_BYTES) (memory_before i book under stack)

-- the data of the movable part, and of the immovable one, that a call left
abbrev pub writable_of : PlainOutcome → List ℕ
writable_of o = bytes_of_role is_data o.memory.segments

abbrev pub fixed_data_of : PlainOutcome → List ℕ
fixed_data_of o = bytes_of_role is_fixed_data o.memory.segments

-- The book after is the book before with this entry behind the others. The entry's end and notes, and the data
-- and the queue after, are those of the plain machine's call, at the places that the entry names.
pub record IsTurn (image : Image) (fuel : ℕ) (before : Contents) (e : Entry) (after : Contents) : Type 0 where
  pub export : Export
  pub exists : slice_get image.exports e.export ≡ Some export
  pub entries : after.entries ≡ before.entries ++ e ∷ []
  pub end : e.end ≡ (plain image fuel before e.under e.stack export.offset e.args).end
  pub notes : e.notes ≡ (plain image fuel before e.under e.stack export.offset e.args).memory.notes
  pub writable : after.writable ≡ writable_of (plain image fuel before e.under e.stack export.offset e.args)
  pub fixed : after.fixed ≡ fixed_data_of (plain image fuel before e.under e.stack export.offset e.args)
  pub device : after.device ≡ (plain image fuel before e.under e.stack export.offset e.args).memory.queue

-- what the book of an image holds before the first call
abbrev pub opening_contents : Image → Contents
opening_contents image = record { writable = image.writable; fixed = image.fixed_data; device = []; entries = [] }

-- the book after is reached from the book before by turns, one for each of these entries, in order
abbrev pub AreTurns : Image → ℕ → Contents → List Entry → Contents → Type 0
AreTurns image fuel before [] after = before ≡ after
AreTurns image fuel before (e ∷ es) after = (next : Contents) × IsTurn image fuel before e next × AreTurns image fuel next es after

-- turns reach the book from the opening book of its image
abbrev pub IsLawful : Image → ℕ → Contents → Type 0
IsLawful image fuel book = AreTurns image fuel (opening_contents image) book.entries book
