-- Addresses that a call of a run may have kept, of places that it doesn't run at.
use Rattle.std.specs.Prelude.{◌≡◌, ◌≢◌, ℕ, ◌+◌, ◌*◌, ◌%◌, ◌^◌, List, Contains, None, slice_get, Some}
use Rattle.ad_base.specs.declared.book.Entry.{Entry}
use Rattle.ad_base.specs.declared.image.Image.{Image}
use Rattle.ad_base.specs.declared.layout.TheConstants.{PAGE_BYTES, STACK_PAGES}
use Rattle.ad_base.specs.declared.ledger.Row.{Row}
use Rattle.ad_base.specs.declared.place.Place.{Place}
use Rattle.ad_base.specs.Book.{Contents}
use Rattle.ad_base.specs.Place.{IsInside, base_of}
use Rattle.ad_base.specs.Segments.{holding}
use Rattle.ad_core.specs.Plain.{first_registers, untouched}
use Rattle.ad_core.specs.Turn.{AreTurns, IsLawful, IsTurn, export_offset, memory_before}
use Rattle.ad_isa.specs.Step.{State}
use Rattle.ad_lines.specs.LineLaws.{InEachMemory, IsFaultAtEachStep}
use Rattle.ad_lines.specs.Sound.{Lines, Outcome}
use Rattle.ad_lines.specs.Traps.{ComesToTouch, EndsInTrapAt, IsTrap}

-- rows that have an address in common are one row
abbrev pub HaveOwnAddresses : Outcome → Type 0
HaveOwnAddresses o = (r x : Row) → Contains o.rows r → Contains o.rows x → (at : ℕ) → IsInside r.place at → IsInside x.place at → r ≡ x

-- a place is none of those that this call of an image runs at: its mapping of the module, its stack, and the immovable part
pub record IsOtherPlace (i : Image) (e : Entry) (p : Place) : Type 0 where
  pub not_under : p ≢ e.under
  pub not_stack : p ≢ e.stack
  pub not_fixed : p ≢ i.fixed

-- Nothing lies at an address in this call of an image, whatever bytes its stack and its data hold. At each of its steps each
-- aligned fetch, load and store there is a fault, and a step that fetches, loads or stores there ends it in a trap.
pub record FindsNothing (i : Image) (e : Entry) (at : ℕ) : Type 0 where
  pub nothing : InEachMemory i e.under e.stack (λ memory. holding memory at ≡ None)
  pub fault : InEachMemory i e.under e.stack (IsFaultAtEachStep at)
  pub ends : InEachMemory i e.under e.stack (EndsInTrapAt at)

-- no call of a run finds anything at an address of a mapping, other than those that it runs at
abbrev pub FindNothingElsewhere : Lines → Outcome → Type 0
FindNothingElsewhere l o = (number : ℕ) (i : Image) (b : Contents) → slice_get l.images number ≡ Some i → slice_get o.books number ≡ Some b
    → (e : Entry) → Contains b.entries e → (r : Row) → Contains o.rows r → IsOtherPlace i e r.place → (at : ℕ) → IsInside r.place at → FindsNothing i e at

-- The turn that made an entry of a book, from what the book held before it: turns reach that, and more turns lead on to the book.
pub record IsTurnIn (i : Image) (fuel : ℕ) (b before : Contents) (e : Entry) : Type 0 where
  pub lawful : IsLawful i fuel before
  pub after : Contents
  pub turn : IsTurn i fuel before e after
  pub later : List Entry
  pub rest : AreTurns i fuel after later b

-- the state that the plain machine begins the call of an entry in
abbrev pub first_state : Image → Entry → State ℕ
first_state i e = record {
  registers = first_registers e.args (base_of e.stack + STACK_PAGES * PAGE_BYTES);
  pc = (base_of e.under + export_offset i e.export) % 2 ^ 64;
}

-- if the plain machine's call of an entry, from what the book held before, comes to a step that touches the address, then the
-- end that the entry tells is a trap
abbrev pub IsTrappedAt : Image → ℕ → Contents → Entry → ℕ → Type 0
IsTrappedAt i fuel before e at = ComesToTouch at fuel (first_state i e) (untouched (memory_before i before e.under e.stack)) → IsTrap e.end

-- so it is at each address of a mapping, other than those that the call runs at
pub record IsTrappedElsewhere (l : Lines) (o : Outcome) (i : Image) (b : Contents) (e : Entry) : Type 0 where
  pub before : Contents
  pub made : IsTurnIn i l.fuel b before e
  pub trapped : (r : Row) → Contains o.rows r → IsOtherPlace i e r.place → (at : ℕ) → IsInside r.place at → IsTrappedAt i l.fuel before e at

-- in the turn of each entry of each book
abbrev pub AreTrappedElsewhere : Lines → Outcome → Type 0
AreTrappedElsewhere l o = (number : ℕ) (i : Image) (b : Contents) → slice_get l.images number ≡ Some i → slice_get o.books number ≡ Some b
    → (e : Entry) → Contains b.entries e → IsTrappedElsewhere l o i b e
