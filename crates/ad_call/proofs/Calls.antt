-- What a call makes of a book, from what its parts say.
use Rattle.std.proofs.Common.{◌≡◌, ℕ, ◌+◌, ◌*◌, ◌%◌, ◌^◌, List, [], ◌∷◌, ◌++◌, Some, slice_get, ap, ◌∙◌}
use Rattle.std.specs.Option.{option_map_or}
use Rattle.ad_base.specs.declared.book.Entry.{Entry}
use Rattle.ad_base.specs.declared.end.End.{End}
use Rattle.ad_base.specs.declared.image.Image.{Image}
use Rattle.ad_base.specs.declared.image.Export.{Export}
use Rattle.ad_base.specs.declared.layout.TheConstants.{PAGE_BYTES, STACK_PAGES}
use Rattle.ad_base.specs.declared.place.Place.{Place}
use Rattle.ad_base.specs.Book.{Contents}
use Rattle.ad_base.specs.Place.{base_of}
use Rattle.ad_base.specs.Segments.{bytes_of_role, extents, is_data, is_fixed_data}
use Rattle.ad_base.proofs.Extents.{length-bytes_of_role}
use Rattle.ad_core.specs.Memory.{Memory}
use Rattle.ad_core.specs.Plain.{PlainOutcome, plain_call}
use Rattle.ad_core.specs.Image.{segments_of, fresh_stack}
use Rattle.ad_core.specs.Turn.{export_offset}
use Rattle.ad_call.specs.declared.call.Call.{Call}
use Rattle.ad_call.specs.Asked.{asked_by_all, asked_in_call}
use Rattle.ad_call.specs.Call.{HasData, after_call, entry_of, outcome_of}
use Rattle.ad_call.specs.Private.Held.{Held}

-- the offset of an export that is there
pub offset_there : (image : Image) (number : ℕ) (export : Export) → slice_get image.exports number ≡ Some export → export_offset image number ≡ export.offset
offset_there image number export e = ap (λ o. option_map_or (λ (x : Export). x.offset) o 0) e

-- what the code gives to the machine for a call
pub record IsGiven (image : Image) (book : Contents) (c : Call) (entry sp : ℕ) (notes writable fixed device : List ℕ) : Type 0 where
  pub entry_is : entry ≡ (base_of c.under + export_offset image c.export) % 2 ^ 64
  pub sp_is : sp ≡ base_of c.stack + STACK_PAGES * PAGE_BYTES
  pub no_note : notes ≡ []
  pub writable_is : writable ≡ book.writable
  pub fixed_is : fixed ≡ book.fixed
  pub device_is : device ≡ book.device

-- what a call finds, where stack and data hold these bytes
abbrev pub memory_of : Image → Place → Place → List ℕ → List ℕ → List ℕ → List ℕ → List ℕ → Memory
memory_of image under stack bytes fixed writable notes queue = record { segments = segments_of image under stack bytes fixed writable; notes = notes; queue = queue }

module _ (image : Image) (fuel : ℕ) (book : Contents) (c : Call) (args : List ℕ) (entry sp : ℕ) (notes writable fixed device : List ℕ) (given : IsGiven image book c entry sp notes writable fixed device) (bytes : Held)
    (fresh : bytes ≡ record { stack = fresh_stack; fixed = fixed; writable = writable }) where
  -- the machine's run is that of the call
  pub same_run : plain_call fuel entry args sp (memory_of image c.under c.stack bytes.stack bytes.fixed bytes.writable notes device) ≡ outcome_of image fuel book c args
  unfolding outcome_of
  same_run =
      (λ j. plain_call fuel entry args sp (memory_of image c.under c.stack (fresh j).stack (fresh j).fixed (fresh j).writable notes device))
      ∙ (λ j. plain_call fuel (given.entry_is j) args (given.sp_is j) (memory_of image c.under c.stack fresh_stack (given.fixed_is j) (given.writable_is j) (given.no_note j) (given.device_is j)))

  -- what it asks is what the call asks
  pub run_asks : asked_by_all image c.under c.stack (plain_call fuel entry args sp (memory_of image c.under c.stack bytes.stack bytes.fixed bytes.writable notes device)).accesses ≡ asked_in_call image fuel book c args
  unfolding asked_in_call
  run_asks = ap (λ (o : PlainOutcome). asked_by_all image c.under c.stack o.accesses) same_run

-- what the run of a call left, and the entry that was appended
pub record Left (image : Image) (fuel : ℕ) (book : Contents) (c : Call) (args : List ℕ) (seen : Image) (under stack : Place) (end : End) (bytes made written kept left : List ℕ) (entries : List Entry) : Type 0 where
  pub end_is : end ≡ (outcome_of image fuel book c args).end
  pub memory : memory_of seen under stack bytes kept written made left ≡ (outcome_of image fuel book c args).memory
  pub appended : entries ≡ book.entries ++ record { line = c.line; worker = c.worker; export = c.export; args = args; under = c.under; stack = c.stack; notes = made; end = end } ∷ []

-- this is the book after the call
pub call_made : (image : Image) (fuel : ℕ) (book : Contents) (c : Call) (args : List ℕ) (seen : Image) (under stack : Place) (end : End) (bytes made written kept left : List ℕ) (entries : List Entry)
    → Left image fuel book c args seen under stack end bytes made written kept left entries
    → record { writable = written; fixed = kept; device = left; entries = entries } ≡ after_call image fuel book c args
unfolding after_call
call_made image fuel book c args seen under stack end bytes made written kept left entries l =
    let o = outcome_of image fuel book c args in
    let made_entry : Entry = record { line = c.line; worker = c.worker; export = c.export; args = args; under = c.under; stack = c.stack; notes = made; end = end } in
    let is : made_entry ≡ entry_of c args o = λ j. record { line = c.line; worker = c.worker; export = c.export; args = args; under = c.under; stack = c.stack; notes = (l.memory j).notes; end = l.end_is j } in
    let all = l.appended ∙ ap (λ (x : Entry). book.entries ++ x ∷ []) is in
    λ j. record { writable = bytes_of_role is_data (l.memory j).segments; fixed = bytes_of_role is_fixed_data (l.memory j).segments; device = (l.memory j).queue; entries = all j }

-- segments that lie alike have data of equal lengths
pub has_data : (i seen image : Image) (under stack under' stack' : Place) (bytes fixed writable bytes' kept written : List ℕ)
    → extents (segments_of seen under' stack' bytes' kept written) ≡ extents (segments_of image under stack bytes fixed writable)
    → HasData i writable fixed → HasData i written kept
has_data i seen image under stack under' stack' bytes fixed writable bytes' kept written same h = record {
  movable = length-bytes_of_role is_data (segments_of seen under' stack' bytes' kept written) (segments_of image under stack bytes fixed writable) same ∙ h.movable;
  immovable = length-bytes_of_role is_fixed_data (segments_of seen under' stack' bytes' kept written) (segments_of image under stack bytes fixed writable) same ∙ h.immovable;
}
