-- Each call of a run asks for all that it touches.
use Rattle.std.proofs.Common.{ℕ, ◌+◌, ◌*◌, ◌%◌, ◌^◌, List, [], ◌∷◌, length, refl, sym, ap, subst, ◌∙◌}
use Rattle.std.specs.List.{Contains}
use Rattle.std.proofs.lemmas.List.Elements.{Contains-append_right}
use Rattle.ad_base.specs.declared.book.Entry.{Entry}
use Rattle.ad_base.specs.declared.image.Image.{Image}
use Rattle.ad_base.specs.declared.layout.TheConstants.{PAGE_BYTES, STACK_PAGES}
use Rattle.ad_base.specs.Book.{Contents}
use Rattle.ad_base.specs.Image.{IsWhole}
use Rattle.ad_base.specs.Place.{base_of}
use Rattle.ad_base.specs.Segments.{is_data, is_fixed_data}
use Rattle.ad_base.proofs.Extents.{length-bytes_of_role}
use Rattle.ad_base.proofs.Zeros.{length-zeros}
use Rattle.ad_call.specs.Asked.{asked_in_call}
use Rattle.ad_call.specs.Call.{HasData, outcome_of}
use Rattle.ad_call.proofs.Touched.{touched}
use Rattle.ad_core.specs.Image.{fresh_stack}
use Rattle.ad_core.specs.Turn.{AreTurns, IsLawful, IsTurn, memory_before, opening_contents, plain, reached}
use Rattle.ad_core.proofs.Stay.{called_extents}
use Rattle.ad_lines.specs.Sound.{Lines, Outcome}
use Rattle.ad_lines.proofs.Elements.{all-read}
use Rattle.ad_maps.proofs.Elements.{cons-here}
use Rattle.ad_maps.specs.Rows.{ClosedSeen}
use Rattle.ad_run.specs.Asked.{CallsAskForAll}
use Rattle.ad_run.specs.Beside.{IsRunBeside}
use Rattle.ad_run.specs.Ended.{IsToRun}
use Rattle.ad_run.proofs.Stale.{part}
use Rattle.ad_script.specs.declared.script.Step.{Step}
use Rattle.ad_wrapper.specs.Performed.{call_for}

module _ (i : Image) (fuel : ℕ) where
  -- a turn leaves the lengths of data
  turn-data : (before : Contents) (e : Entry) (after : Contents) → IsTurn i fuel before e after → HasData i before.writable before.fixed → HasData i after.writable after.fixed
  turn-data before e after turn h =
      let segments = reached i before e.under e.stack in
      let same = called_extents fuel ((base_of e.under + turn.export.offset) % 2 ^ 64) (base_of e.stack + STACK_PAGES * PAGE_BYTES) e.args (memory_before i before e.under e.stack) in
      let left = (plain i fuel before e.under e.stack turn.export.offset e.args).memory.segments in
      record {
        movable = ap length turn.writable ∙ length-bytes_of_role is_data left segments same ∙ h.movable;
        immovable = ap length turn.fixed ∙ length-bytes_of_role is_fixed_data left segments same ∙ h.immovable;
      }

  turns-data : (before : Contents) (es : List Entry) (after : Contents) → AreTurns i fuel before es after → HasData i before.writable before.fixed → HasData i after.writable after.fixed
  turns-data before [] after turns h = subst (λ (b : Contents). HasData i b.writable b.fixed) turns h
  turns-data before (e ∷ es) after turns h = turns-data turns.0 es after turns.2 (turn-data before e turns.0 turns.1 h)

  -- a lawful book has as much data as its image
  pub lawful-data : (b : Contents) → IsLawful i fuel b → HasData i b.writable b.fixed
  lawful-data b lawful = turns-data (opening_contents i) b.entries b lawful (record { movable = refl; immovable = refl })

module _ (slots frames : ℕ) (l : Lines) (script : List Step) (o : Outcome) (closed : ClosedSeen) (to_run : IsToRun frames l script) (ran : IsRunBeside slots frames l script o closed) where
  pub calls-ask-for-all : CallsAskForAll l o
  unfolding asked_in_call
  calls-ask-for-all worker step acts told =
      let i = told.image in
      let before = told.before in
      let e = told.entry in
      let c = call_for worker step e.under e.stack in
      let whole = all-read IsWhole l.images step.«module» i to_run.loaded.whole told.loaded in
      let stands : Contains told.book.entries e = subst (λ es. Contains es e) (sym told.stands) (Contains-append_right before.entries (e ∷ told.later) e (cons-here e told.later e refl)) in
      let under = part slots frames l script o closed to_run ran step.«module» i told.book told.loaded told.stored e stands in
      touched i e.under e.stack fresh_stack before.fixed before.writable whole (lawful-data i l.fuel before told.lawful) (length-zeros (STACK_PAGES * PAGE_BYTES)) under.for_modules.place under.size
      (outcome_of i l.fuel before c step.args).accesses
