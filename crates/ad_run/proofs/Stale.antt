-- A call finds nothing at an address of a mapping that it doesn't run on.
use Rattle.std.proofs.Common.{◌≡◌, ◌≢◌, ℕ, ◌*◌, ◌<◌, ◌≤◌, List, slice_get, Option, Some, None, refl, sym, ap, subst, ◌∙◌, arith}
use Rattle.std.specs.List.{Contains}
use Rattle.std.specs.Option.{IfSome}
use Rattle.ad_base.specs.declared.book.Entry.{Entry}
use Rattle.ad_base.specs.declared.image.Image.{Image}
use Rattle.ad_base.specs.declared.layout.TheConstants.{REGION_BYTES}
use Rattle.ad_base.specs.declared.ledger.Kind.TheVariants.{Code, Stack}
use Rattle.ad_base.specs.declared.ledger.Row.{Row}
use Rattle.ad_base.specs.declared.place.Place.{Place}
use Rattle.ad_base.specs.Book.{Contents}
use Rattle.ad_base.specs.Image.{IsWhole}
use Rattle.ad_base.specs.Ledger.{IsLedger, IsUnmappedOnce}
use Rattle.ad_base.specs.Place.{IsInside, base_of}
use Rattle.ad_base.specs.Segments.{holding}
use Rattle.ad_call.proofs.Outside.{nothing-outside}
use Rattle.ad_core.specs.Image.{segments_of}
use Rattle.ad_lines.specs.LineLaws.{InEachMemory}
use Rattle.ad_lines.specs.Sound.{Lines, Outcome}
use Rattle.ad_lines.proofs.Elements.{all-read}
use Rattle.ad_lines.proofs.ListReads.{each-all}
use Rattle.ad_lines.proofs.PlacedApart.{IsPartOf, IsStackPlace}
use Rattle.ad_lines.proofs.Stale.{fault-at-steps, region-of}
use Rattle.ad_lines.proofs.Traps.{ends-at}
use Rattle.ad_maps.specs.Rows.{ClosedSeen}
use Rattle.ad_run.specs.Beside.{IsRowOf, IsRunBeside}
use Rattle.ad_run.specs.Ended.{IsToRun}
use Rattle.ad_run.specs.Rows.{fixed_row}
use Rattle.ad_run.specs.Stale.{FindsNothing, FindNothingElsewhere, HaveOwnAddresses, IsOtherPlace}
use Rattle.ad_run.proofs.AllRows.{IsMoverRun, last-rows, regions-differ}
use Rattle.ad_run.proofs.Clear.{HaveOwnRegions, one-row}
use Rattle.ad_run.proofs.KeptRows.{mappings_of}
use Rattle.ad_run.proofs.Ledgers.{ledger-same}
use Rattle.ad_run.proofs.RowPlaces.{fixed-row, part-of-row, place-of-row, stack-of-row}
use Rattle.ad_run.proofs.SoundRows.{ledger-regions}
use Rattle.ad_script.specs.declared.script.Step.{Step}

module _ (slots frames : ℕ) (l : Lines) (script : List Step) (o : Outcome) (closed : ClosedSeen) (to_run : IsToRun frames l script) (ran : IsRunBeside slots frames l script o closed) where
  mover-ran : IsMoverRun slots frames l script ran.last
  mover-ran = record { loaded = to_run.loaded; steps_are = to_run.steps_are; ready = to_run.ready; some_frame = to_run.some_frame; few_frames = to_run.few_frames; made = ran.made }

  ledger : IsLedger (mappings_of frames l ran.last.moves) o.rows
  ledger = subst (λ moves. IsLedger (mappings_of frames l moves) o.rows) ran.moves ran.sound.ledger

  -- the rows are those that the mover's run tells
  rows-are : o.rows ≡ (last-rows slots frames l script ran.last mover-ran).rows
  rows-are =
      let told = last-rows slots frames l script ran.last mover-ran in
      ledger-same (mappings_of frames l ran.last.moves) o.rows told.rows ledger told.are.ledger (each-all IsUnmappedOnce o.rows ran.sound.unmapped) told.are.once

  in-told : (r : Row) → Contains o.rows r → Contains (last-rows slots frames l script ran.last mover-ran).rows r
  in-told r c = subst (λ rows. Contains rows r) rows-are c

  own-regions : HaveOwnRegions o.rows
  own-regions = ledger-regions (mappings_of frames l ran.last.moves) o.rows ledger (regions-differ slots frames l script ran.last mover-ran)

  pub own-addresses : HaveOwnAddresses o
  own-addresses r x c d at inside within =
      let p = place-of-row slots frames l script ran.last mover-ran r (in-told r c) in
      let q = place-of-row slots frames l script ran.last mover-ran x (in-told x d) in
      one-row o.rows own-regions r x c d (region-of r.place at p inside ∙ sym (region-of x.place at q within))

  module _ (number : ℕ) (i : Image) (b : Contents) (loaded : slice_get l.images number ≡ Some i) (stored : slice_get o.books number ≡ Some b) (e : Entry) (stands : Contains b.entries e) where
    under-row : (u : Row) × IsRowOf o.rows Code number u × (u.place ≡ e.under)
    under-row = subst (λ (x : Option Contents). IfSome x (λ (c : Contents). (f : Entry) → Contains c.entries f → (u : Row) × IsRowOf o.rows Code number u × (u.place ≡ f.under))) stored (ran.on_rows.under number) e stands

    stack-row : (u : Row) × IsRowOf o.rows Stack e.worker u × (u.place ≡ e.stack)
    stack-row = subst (λ (x : Option Contents). IfSome x (λ (c : Contents). (f : Entry) → Contains c.entries f → (u : Row) × IsRowOf o.rows Stack f.worker u × (u.place ≡ f.stack))) stored (ran.on_rows.stacks number) e stands

    -- the mapping that a call runs on is a place for the movable part of its module
    pub part : IsPartOf i e.under
    part =
        let u = under-row in
        subst (IsPartOf i) u.2 (part-of-row slots frames l script ran.last mover-ran u.0 i (in-told u.0 u.1.listed) u.1.is_kind (ap (slice_get l.images) u.1.is_who ∙ loaded))

    on_stack : IsStackPlace e.stack
    on_stack = let u = stack-row in subst IsStackPlace u.2 (stack-of-row slots frames l script ran.last mover-ran u.0 (in-told u.0 u.1.listed) u.1.is_kind)

    module _ (r : Row) (listed : Contains o.rows r) (other : IsOtherPlace i e r.place) (at : ℕ) (inside : IsInside r.place at) where
      off : (x : Row) (p : Place) → Contains o.rows x → x.place ≡ p → r.place ≢ p → IsInside p at → ⊥
      off x p c is differ within = differ (ap (λ (y : Row). y.place) (own-addresses r x listed c at inside (subst (λ q. IsInside q at) (sym is) within)) ∙ is)

      nothing : InEachMemory i e.under e.stack (λ memory. holding memory at ≡ None)
      nothing bytes fixed writable full long =
          let u = under-row in
          let s = stack-row in
          let fixed_there = subst (λ rows. Contains rows (fixed_row (number, i))) (sym rows-are) (fixed-row slots frames l script ran.last mover-ran number i loaded) in
          nothing-outside i e.under e.stack at bytes fixed writable (all-read IsWhole l.images number i to_run.loaded.whole loaded) full long part.size on_stack.size
          (off s.0 e.stack s.1.listed s.2 other.not_stack) (off (fixed_row (number, i)) i.fixed fixed_there refl other.not_fixed) (off u.0 e.under u.1.listed u.2 other.not_under)

      high : 2 * REGION_BYTES < at
      high =
          let is = place-of-row slots frames l script ran.last mover-ran r (in-told r listed) in
          let from : base_of r.place ≤ at = inside.from in
          omega (arith, is.region_from, is.page_before, from)

    module _ (r : Row) (listed : Contains o.rows r) (other : IsOtherPlace i e r.place) (at : ℕ) (inside : IsInside r.place at) where
      pub finds-nothing : FindsNothing i e at
      finds-nothing = record {
        nothing = nothing r listed other at inside;
        fault = λ bytes fixed writable full long. fault-at-steps at (segments_of i e.under e.stack bytes fixed writable) (nothing r listed other at inside bytes fixed writable full long) (high r listed other at inside);
        ends = λ bytes fixed writable full long.
            ends-at r.place at (place-of-row slots frames l script ran.last mover-ran r (in-told r listed)) inside (segments_of i e.under e.stack bytes fixed writable)
            (λ from within. nothing r listed other from within bytes fixed writable full long);
      }

  pub nothing-elsewhere : FindNothingElsewhere l o
  nothing-elsewhere number i b loaded stored e stands r listed other at inside = finds-nothing number i b loaded stored e stands r listed other at inside
