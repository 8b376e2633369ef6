-- The laws of line runs, as lemmas.
use Rattle.std.proofs.Common.{◌≡◌, ℕ, List, ◌++◌, map, slice_get, Some, ◌∙◌}
use Rattle.std.specs.List.{All}
use Rattle.std.specs.List.Sorted.{IsNonDecreasingBy}
use Rattle.ad_base.specs.declared.book.Entry.{Entry}
use Rattle.ad_base.specs.declared.image.Image.{Image}
use Rattle.ad_base.specs.Ledger.{IsLedger, IsUnmappedOnce, made_mappings}
use Rattle.ad_core.specs.Turn.{IsLawful}
use Rattle.ad_relate.specs.ClearHistory.{RepliesAsReplayed}
use Rattle.ad_relate.proofs.ClearHistory.{replies}
use Rattle.ad_lines.specs.declared.ready.ReadyStep.{ReadyStep}
use Rattle.ad_lines.specs.LineRun.{ModuleState}
use Rattle.ad_lines.specs.LineLaws.{AreSteps, calls_of_module, run_of_seed, step_of}
use Rattle.ad_lines.specs.Opening.{AreLoaded, opening_drawn, opening_mappings, opening_run}
use Rattle.ad_lines.specs.Room.{images_of}
use Rattle.ad_lines.proofs.BookRuns.{HasLawfulBook, steps-rise, entries-rise, entries-of-run, lawful-run}
use Rattle.ad_lines.proofs.Elements.{all-read, all-reads}
use Rattle.ad_lines.proofs.Kept.{keeps-run}
use Rattle.ad_lines.proofs.Opened.{opening-empty, opening-lawful, opening-there}
use Rattle.ad_lines.proofs.OpenedApart.{opening-placed}
use Rattle.ad_lines.proofs.PlacedApart.{IsPlacedModule, placed-run}
use Rattle.ad_lines.proofs.Stale.{sound-run}
use Rattle.ad_lines.proofs.ListReads.{all-each}

module _ (seed workers fuel : ℕ) (images : List Image) (steps : List ReadyStep) (loaded : AreLoaded seed workers images) (are : AreSteps images workers steps) where
  pub images-stay : images_of (run_of_seed seed workers images fuel steps) ≡ images
  images-stay = (keeps-run fuel (opening_run workers images (opening_drawn seed workers images)) steps).images ∙ (opening-there seed workers images loaded).images_are

  pub books-lawful : All (λ (m : ModuleState). IsLawful m.image fuel m.book) (run_of_seed seed workers images fuel steps).modules
  books-lawful = (lawful-run images workers fuel (opening_run workers images (opening_drawn seed workers images)) steps are.runnable (opening-lawful seed workers images loaded fuel)).books

  pub calls-made : (number : ℕ) (m : ModuleState) → slice_get (run_of_seed seed workers images fuel steps).modules number ≡ Some m → map (step_of number) m.book.entries ≡ calls_of_module number steps
  calls-made number m there = entries-of-run images workers fuel (opening_run workers images (opening_drawn seed workers images)) steps number m are.runnable (opening-there seed workers images loaded) (opening-empty seed workers images loaded number) there

  pub calls-rise : All (λ (m : ModuleState). IsNonDecreasingBy (λ (e : Entry). e.line) m.book.entries) (run_of_seed seed workers images fuel steps).modules
  calls-rise =
      let s = run_of_seed seed workers images fuel steps in
      all-reads (λ (m : ModuleState). IsNonDecreasingBy (λ (e : Entry). e.line) m.book.entries) s.modules
      (λ number m there. entries-rise number m.book.entries (calls_of_module number steps) (calls-made number m there) (steps-rise number steps are.rising))

  pub clear-replies : All (λ (m : ModuleState). RepliesAsReplayed m.image fuel m.book.entries) (run_of_seed seed workers images fuel steps).modules
  clear-replies =
      let start = opening_run workers images (opening_drawn seed workers images) in
      let s = run_of_seed seed workers images fuel steps in
      let placed = (placed-run fuel start steps (opening-placed seed workers images loaded)).modules_are in
      all-reads (λ (m : ModuleState). RepliesAsReplayed m.image fuel m.book.entries) s.modules
      (λ k m e.
      let p = all-read (IsPlacedModule s.placement.drawn.places) s.modules k m placed e in
      replies m.image fuel m.book p.whole (all-read (HasLawfulBook fuel) s.modules k m books-lawful e) p.entries p.offsets)

  pub rows-are-ledger : IsLedger (opening_mappings workers images (opening_drawn seed workers images).places ++ made_mappings (run_of_seed seed workers images fuel steps).placement.moves) (run_of_seed seed workers images fuel steps).placement.rows
  rows-are-ledger = (sound-run seed workers fuel images loaded steps are).sound.ledger

  pub unmapped-once : All IsUnmappedOnce (run_of_seed seed workers images fuel steps).placement.rows
  unmapped-once = all-each IsUnmappedOnce (run_of_seed seed workers images fuel steps).placement.rows (sound-run seed workers fuel images loaded steps are).sound.once
