-- What each step keeps of a run: its modules and stacks lie at the last places of their things, and data have the
-- sizes of their images.
use Rattle.std.proofs.Common.{◌≡◌, ℕ, ◌+◌, ◌*◌, ◌≤◌, ◌%◌, ◌^◌, List, slice_get, Some, inl, inr, sym, subst, ◌∙◌}
use Rattle.std.specs.List.{All}
use Rattle.ad_base.specs.declared.image.Image.{Image}
use Rattle.ad_base.specs.declared.layout.TheConstants.{PAGE_BYTES, STACK_PAGES}
use Rattle.ad_base.specs.declared.ledger.Kind.TheVariants as kinds
use Rattle.ad_base.specs.declared.ledger.Row.{Row}
use Rattle.ad_base.specs.declared.place.Place.{Place}
use Rattle.ad_base.specs.Book.{Contents}
use Rattle.ad_base.specs.Image.{IsWhole, movable_pages}
use Rattle.ad_base.specs.Ledger.{Mapping}
use Rattle.ad_base.specs.Place.{base_of}
use Rattle.ad_call.specs.declared.call.Call.{Call}
use Rattle.ad_call.specs.Call.{HasData, after_call, outcome_of}
use Rattle.ad_base.specs.Segments.{is_data, is_fixed_data}
use Rattle.ad_base.proofs.Extents.{length-bytes_of_role}
use Rattle.ad_core.specs.Turn.{export_offset, memory_before, reached}
use Rattle.ad_core.proofs.Stay.{called_extents}
use Rattle.ad_lines.specs.declared.ready.ReadyStep.{ReadyStep}
use Rattle.ad_lines.specs.LineLaws.{line_of}
use Rattle.ad_lines.specs.LineRun.{ModuleState, RunState, after_move, line_run, move_end, place_after}
use Rattle.ad_lines.proofs.ListReads.{set-read}
use Rattle.ad_lines.proofs.MoveRuns.{Grows, IsCurrent, IsSoundPlacement, grows-trans, moved}
use Rattle.ad_lines.proofs.RunKeeps.{IsKept, called_run, given_run, moved_run, run-keeps}

-- a module at the places of its last mappings
pub record IsPlacedModule (rows : List Row) (number : ℕ) (m : ModuleState) : Type 0 where
  pub movable : IsCurrent rows kinds.Code number m.movable
  pub fixed : IsCurrent rows kinds.Fixed number m.image.fixed
  pub whole : IsWhole m.image
  pub lengths : HasData m.image m.book.writable m.book.fixed
  pub pages : m.movable.pages ≡ movable_pages m.image

-- a stack at the place of its last mapping
pub record IsPlacedStack (rows : List Row) (worker : ℕ) (p : Place) : Type 0 where
  pub place : IsCurrent rows kinds.Stack worker p
  pub pages : p.pages ≡ STACK_PAGES

-- all of a run are so
pub record IsSoundState (opening : List Mapping) (s : RunState) : Type 0 where
  pub sound : IsSoundPlacement opening s.placement
  pub modules : (n : ℕ) (m : ModuleState) → slice_get s.modules n ≡ Some m → IsPlacedModule s.placement.rows n m
  pub stacks : (n : ℕ) (p : Place) → slice_get s.stacks n ≡ Some p → IsPlacedStack s.placement.rows n p

-- a call leaves the sizes of data
pub call-data : (image : Image) (fuel : ℕ) (book : Contents) (c : Call) (args : List ℕ) → HasData image book.writable book.fixed → HasData image (after_call image fuel book c args).writable (after_call image fuel book c args).fixed
unfolding after_call outcome_of
call-data image fuel book c args h =
    let segments = reached image book c.under c.stack in
    let same = called_extents fuel ((base_of c.under + export_offset image c.export) % 2 ^ 64) (base_of c.stack + STACK_PAGES * PAGE_BYTES) args (memory_before image book c.under c.stack) in
    let after = (outcome_of image fuel book c args).memory.segments in
    record {
      movable = length-bytes_of_role is_data after segments same ∙ h.movable;
      immovable = length-bytes_of_role is_fixed_data after segments same ∙ h.immovable;
    }

module _ (opening : List Mapping) where
  -- a call
  called : (s : RunState) (n : ℕ) (m : ModuleState) (fuel : ℕ) (c : Call) (args : List ℕ) → slice_get s.modules n ≡ Some m → IsSoundState opening s → IsSoundState opening (called_run s n m fuel c args)
  called s n m fuel c args there h =
      let old = h.modules n m there in
      let y : ModuleState = record { image = m.image; movable = m.movable; book = after_call m.image fuel m.book c args } in
      let is : IsPlacedModule s.placement.rows n y = record { movable = old.movable; fixed = old.fixed; whole = old.whole; lengths = call-data m.image fuel m.book c args old.lengths; pages = old.pages } in
      record {
        sound = h.sound;
        modules = λ k x e. elim (set-read s.modules n y k x e) [
          | inl this ↦ subst (IsPlacedModule s.placement.rows k) this.1 (subst (λ j. IsPlacedModule s.placement.rows j y) (sym this.0) is)
          | inr other ↦ h.modules k x other.1
        ];
        stacks = h.stacks;
      }

  -- a move of a module
  module_moved : (s : RunState) (line n : ℕ) (m : ModuleState) → 1 ≤ line → slice_get s.modules n ≡ Some m → IsSoundState opening s
      → IsSoundState opening (moved_run s line n m) × Grows s.placement.rows (moved_run s line n m).placement.rows
  module_moved s line n m some there h =
      let old = h.modules n m there in
      let movable = place_after m.movable (move_end s.placement.drawn kinds.Code m.movable.pages) in
      let after = after_move s.placement line kinds.Code n m.movable in
      let made = moved opening s.placement line kinds.Code n m.movable h.sound old.movable some in
      let y : ModuleState = record { image = m.image; movable = movable; book = m.book } in
      let fixed : (k : ℕ) (x : Place) → IsCurrent s.placement.rows kinds.Fixed k x → IsCurrent after.rows kinds.Fixed k x = λ k x c. made.others kinds.Fixed k x (λ e w. cc) c in
      let is : IsPlacedModule after.rows n y = record { movable = made.here; fixed = fixed n m.image.fixed old.fixed; whole = old.whole; lengths = old.lengths; pages = made.pages ∙ old.pages } in (
        record {
          sound = made.sound;
          modules = λ k x e. elim (set-read s.modules n y k x e) [
            | inl this ↦ subst (IsPlacedModule after.rows k) this.1 (subst (λ j. IsPlacedModule after.rows j y) (sym this.0) is)
            | inr other ↦ let q = h.modules k x other.1 in record { movable = made.others kinds.Code k x.movable (λ e w. other.0 w) q.movable; fixed = fixed k x.image.fixed q.fixed; whole = q.whole; lengths = q.lengths; pages = q.pages }
          ];
          stacks = λ k x e. let q = h.stacks k x e in record { place = made.others kinds.Stack k x (λ e w. cc) q.place; pages = q.pages };
        },
        made.grows,
      )

  -- a fresh stack
  stack_given : (s : RunState) (line worker : ℕ) (stack : Place) → 1 ≤ line → slice_get s.stacks worker ≡ Some stack → IsSoundState opening s
      → IsSoundState opening (given_run s line worker stack) × Grows s.placement.rows (given_run s line worker stack).placement.rows
  stack_given s line worker stack some there h =
      let old = h.stacks worker stack there in
      let new = place_after stack (move_end s.placement.drawn kinds.Stack stack.pages) in
      let after = after_move s.placement line kinds.Stack worker stack in
      let made = moved opening s.placement line kinds.Stack worker stack h.sound old.place some in
      let is : IsPlacedStack after.rows worker new = record { place = made.here; pages = made.pages ∙ old.pages } in (
        record {
          sound = made.sound;
          modules = λ k x e. let q = h.modules k x e in record { movable = made.others kinds.Code k x.movable (λ e w. cc) q.movable; fixed = made.others kinds.Fixed k x.image.fixed (λ e w. cc) q.fixed; whole = q.whole; lengths = q.lengths; pages = q.pages };
          stacks = λ k x e. elim (set-read s.stacks worker new k x e) [
            | inl this ↦ subst (IsPlacedStack after.rows k) this.1 (subst (λ j. IsPlacedStack after.rows j new) (sym this.0) is)
            | inr other ↦ let q = h.stacks k x other.1 in record { place = made.others kinds.Stack k x (λ e w. other.0 w) q.place; pages = q.pages }
          ];
        },
        made.grows,
      )

  -- a run that is sound and has grown from these rows
  pub record IsGrown (rows : List Row) (s : RunState) : Type 0 where
    pub sound : IsSoundState opening s
    pub grows : Grows rows s.placement.rows

  module _ (rows : List Row) where
    grown : (s t : RunState) → IsGrown rows s → IsSoundState opening t × Grows s.placement.rows t.placement.rows → IsGrown rows t
    grown s t g h = record { sound = h.0; grows = grows-trans rows s.placement.rows t.placement.rows g.grows h.1 }

    kept : IsKept (IsGrown rows) (λ line. 1 ≤ line)
    kept = record {
      call = λ s n m fuel c args there g. record { sound = called s n m fuel c args there g.sound; grows = g.grows };
      move = λ s line n m some there g. grown s (moved_run s line n m) g (module_moved s line n m some there g.sound);
      stack = λ s line worker stack some there g. grown s (given_run s line worker stack) g (stack_given s line worker stack some there g.sound);
    }

    -- so does a run of steps
    pub grown-run : (fuel : ℕ) (s : RunState) (all : List ReadyStep) → All (λ x. 1 ≤ line_of x) all → IsGrown rows s → IsGrown rows (line_run fuel s all)
    grown-run = run-keeps (IsGrown rows) (λ line. 1 ≤ line) kept
