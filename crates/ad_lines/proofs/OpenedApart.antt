-- The places of the opening lie apart.
use Rattle.std.proofs.Common.{◌≡◌, ◌≢◌, ℕ, List, slice_get, Some, sym, ap, subst, arith}
use Rattle.std.specs.List.{All}
use Rattle.std.proofs.lemmas.List.Elements.{All-nil}
use Rattle.ad_base.specs.declared.book.Entry.{Entry}
use Rattle.ad_base.specs.declared.image.Image.{Image}
use Rattle.ad_base.specs.declared.ledger.Kind.TheVariants.{Code, Fixed, Stack}
use Rattle.ad_base.specs.declared.place.Place.{Place}
use Rattle.ad_base.specs.Image.{IsWhole}
use Rattle.ad_relate.specs.ClearHistory.{AreOffsets, entry_places}
use Rattle.ad_relate.specs.Stands.{IsApart}
use Rattle.ad_lines.specs.LineRun.{ModuleState}
use Rattle.ad_lines.specs.Opening.{AreLoaded, Request, opening_drawn, opening_mappings, opening_modules, opening_run, places_of_kind, stack_request}
use Rattle.ad_lines.proofs.Asked.{code_request, fixed_request}
use Rattle.ad_lines.proofs.Elements.{all-read, all-reads, contains-read}
use Rattle.ad_lines.proofs.Opened.{opened-at}
use Rattle.ad_lines.proofs.Opens.{apart-for, drawn-as, fixed-for, part-for, stack-for}
use Rattle.ad_lines.proofs.PlacedApart.{ArePlaced, IsPlacedModule, IsStackPlace}

-- a module asks for two places
two-requests : (n : ℕ) (i : Image) → code_request (n, i) ≢ fixed_request (n, i)
two-requests n i e = let kinds : Code ≡ Fixed = ap (λ (r : Request). r.kind) e in absurd cc

module _ (seed workers : ℕ) (images : List Image) (loaded : AreLoaded seed workers images) where
  opened-stack : (k : ℕ) (p : Place) → slice_get (places_of_kind Stack (opening_mappings workers images (opening_drawn seed workers images).places)) k ≡ Some p → IsStackPlace p
  opened-stack k p e =
      let for_stack = stack-for seed workers images loaded k p e in
      let is = drawn-as seed workers images loaded for_stack.at (stack_request k) p for_stack.asked for_stack.there in
      record { place = is.place; size = is.pages; for_stacks = is.region_from }

  opened-module : (k : ℕ) (m : ModuleState) → slice_get (opening_modules images (places_of_kind Code (opening_mappings workers images (opening_drawn seed workers images).places))) k ≡ Some m
      → IsPlacedModule (opening_drawn seed workers images).places m
  opened-module k m e =
      let places = (opening_drawn seed workers images).places in
      let o = opened-at images (places_of_kind Code (opening_mappings workers images places)) k m e in
      let code = part-for seed workers images loaded k m.image m.movable o.image_there o.part_there in
      let fixed = fixed-for seed workers images loaded k m.image o.image_there in
      let is = drawn-as seed workers images loaded code.at (code_request (k, m.image)) m.movable code.asked code.there in
      record {
        whole = all-read IsWhole images k m.image loaded.whole o.image_there;
        offsets = all-read AreOffsets images k m.image loaded.offsets o.image_there;
        movable = record {
          for_modules = record { place = is.place; for_modules = omega (arith, is.region_to) };
          size = is.pages;
          from_fixed = apart-for seed workers images loaded (code_request (k, m.image)) (fixed_request (k, m.image)) m.movable m.image.fixed code fixed (two-requests k m.image);
        };
        fixed_drawn = contains-read places fixed.at m.image.fixed fixed.there;
        entries = subst (λ es. All (λ (x : Entry). IsApart m.image (entry_places x)) es) (ap (λ b. b.entries) (sym o.opens)) (All-nil (λ (x : Entry). IsApart m.image (entry_places x)));
      }

  pub opening-placed : ArePlaced (opening_run workers images (opening_drawn seed workers images))
  unfolding opening_run
  opening-placed =
      let places = (opening_drawn seed workers images).places in
      let mappings = opening_mappings workers images places in
      record {
        modules_are = all-reads (IsPlacedModule places) (opening_modules images (places_of_kind Code mappings)) opened-module;
        stacks_are = all-reads IsStackPlace (places_of_kind Stack mappings) opened-stack;
      }
