-- What a call makes of a module's book.
use Rattle.std.specs.Prelude.{◌≡◌, ℕ, List, [], ◌∷◌, ◌++◌, length}
use Rattle.ad_base.specs.declared.book.Entry.{Entry}
use Rattle.ad_base.specs.declared.image.Image.{Image}
use Rattle.ad_base.specs.Book.{Contents}
use Rattle.ad_core.specs.Plain.{PlainOutcome}
use Rattle.ad_core.specs.Turn.{export_offset, plain, fixed_data_of, writable_of}
use Rattle.ad_call.specs.declared.call.Call.{Call}

-- these data are as long as the image's data of the movable and of the immovable part
pub record HasData (image : Image) (writable fixed : List ℕ) : Type 0 where
  pub movable : length writable ≡ length image.writable
  pub immovable : length fixed ≡ length image.fixed_data

-- the plain machine's run of a call
unfoldable pub outcome_of : Image → ℕ → Contents → Call → List ℕ → PlainOutcome
outcome_of i fuel book c args = plain i fuel book c.under c.stack (export_offset i c.export) args

-- the entry of a call that came to this
abbrev pub entry_of : Call → List ℕ → PlainOutcome → Entry
entry_of c args o = record {
  line = c.line;
  worker = c.worker;
  export = c.export;
  args = args;
  under = c.under;
  stack = c.stack;
  notes = o.memory.notes;
  end = o.end;
}

-- the book once a call came to this: its data and queue, and one entry more
abbrev pub with_outcome : Contents → Call → List ℕ → PlainOutcome → Contents
with_outcome book c args o = record {
  writable = writable_of o;
  fixed = fixed_data_of o;
  device = o.memory.queue;
  entries = book.entries ++ entry_of c args o ∷ [];
}

-- the book once the plain machine made a call
unfoldable pub after_call : Image → ℕ → Contents → Call → List ℕ → Contents
after_call i fuel book c args = with_outcome book c args (outcome_of i fuel book c args)
