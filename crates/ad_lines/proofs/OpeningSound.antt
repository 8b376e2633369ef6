-- The opening is sound: each module and each stack lies at a mapped place of its pages.
use Rattle.std.proofs.Common.{◌≡◌, ℕ, ◌≤◌, List, [], ◌∷◌, length, map, slice_get, Some, ap, arith}
use Rattle.std.specs.List.{All}
use Rattle.std.proofs.lemmas.List.Elements.{All-cons, All-head, All-nil, All-same, All-tail}
use Rattle.std.proofs.lemmas.Option.{slice_get_within}
use Rattle.ad_base.specs.declared.image.Image.{Image}
use Rattle.ad_base.specs.declared.ledger.Kind.TheVariants.{Code, Stack}
use Rattle.ad_base.specs.declared.place.Place.{Place}
use Rattle.ad_base.specs.Image.{IsWhole, movable_pages}
use Rattle.ad_core.specs.Turn.{opening_contents}
use Rattle.ad_lines.specs.declared.line_run.ModuleRun.{ModuleRun}
use Rattle.ad_lines.specs.LineRun.{ModuleState}
use Rattle.ad_lines.specs.Opening.{AreLoaded, Request, opening_drawn, opening_mappings, opening_modules, opening_requests, places_of_kind, stack_request}
use Rattle.ad_lines.specs.Room.{module_state}
use Rattle.ad_lines.specs.Private.Places.{IsMapped, IsModuleRun, IsSound, IsStackRun}
use Rattle.ad_lines.proofs.Asked.{code_request}
use Rattle.ad_lines.proofs.Elements.{all-read, all-reads}
use Rattle.ad_lines.proofs.Opened.{opened-at}
use Rattle.ad_lines.proofs.Opens.{IsDrawnFor, drawn-as, part-for, stack-for}

-- a module of the opening
record IsOpened (count : ℕ) (m : ModuleState) : Type 0 where
  whole : IsWhole m.image
  opens : m.book ≡ opening_contents m.image
  mapped_at : IsMapped count m.movable
  pages_are : m.movable.pages ≡ movable_pages m.image

runs : (count : ℕ) (ms : List ModuleRun) → All (IsOpened count) (map module_state ms) → All (IsModuleRun count) ms
runs count [] h = All-nil (IsModuleRun count)
runs count (m ∷ ms) h =
    let first = All-head (IsOpened count) (module_state m) (map module_state ms) h in
    let is : IsModuleRun count m = record {
      whole = first.whole;
      lengths = record { movable = ap (λ b. length b.writable) first.opens; immovable = ap (λ b. length b.fixed) first.opens };
      mapped = first.mapped_at;
      pages = first.pages_are;
    } in
    All-cons (IsModuleRun count) m ms is (runs count ms (All-tail (IsOpened count) (module_state m) (map module_state ms) h))

module _ (seed workers : ℕ) (images : List Image) (loaded : AreLoaded seed workers images) (count : ℕ) (few : length (opening_drawn seed workers images).places ≤ count) where
  -- a place that was drawn has the number of its row
  drawn-mapped : (r : Request) (p : Place) → IsDrawnFor (opening_requests workers images) (opening_drawn seed workers images).places r p → IsMapped count p
  drawn-mapped r p d =
      let is = drawn-as seed workers images loaded d.at r p d.asked d.there in
      record { place = is.place; number = omega (arith, is.mapping, slice_get_within (opening_drawn seed workers images).places d.at p d.there, few) }

  module-opens : (n : ℕ) (m : ModuleState) → slice_get (opening_modules images (places_of_kind Code (opening_mappings workers images (opening_drawn seed workers images).places))) n ≡ Some m → IsOpened count m
  module-opens n m e =
      let is = opened-at images (places_of_kind Code (opening_mappings workers images (opening_drawn seed workers images).places)) n m e in
      let movable = part-for seed workers images loaded n m.image m.movable is.image_there is.part_there in
      record {
        whole = all-read IsWhole images n m.image loaded.whole is.image_there;
        opens = is.opens;
        mapped_at = drawn-mapped (code_request (n, m.image)) m.movable movable;
        pages_are = (drawn-as seed workers images loaded movable.at (code_request (n, m.image)) m.movable movable.asked movable.there).pages;
      }

  stack-opens : (n : ℕ) (p : Place) → slice_get (places_of_kind Stack (opening_mappings workers images (opening_drawn seed workers images).places)) n ≡ Some p → IsStackRun count p
  stack-opens n p e =
      let is = stack-for seed workers images loaded n p e in
      record {
        mapped = drawn-mapped (stack_request n) p is;
        pages = (drawn-as seed workers images loaded is.at (stack_request n) p is.asked is.there).pages;
      }

  pub opening-sound : (ms : List ModuleRun) (stacks : List Place)
      → map module_state ms ≡ opening_modules images (places_of_kind Code (opening_mappings workers images (opening_drawn seed workers images).places))
      → stacks ≡ places_of_kind Stack (opening_mappings workers images (opening_drawn seed workers images).places) → IsSound count ms stacks
  opening-sound ms stacks modules_are stacks_are =
      let mappings = opening_mappings workers images (opening_drawn seed workers images).places in
      let modules = opening_modules images (places_of_kind Code mappings) in
      record {
        modules_are = runs count ms (All-same (IsOpened count) (map module_state ms) modules modules_are (all-reads (IsOpened count) modules module-opens));
        stacks_are = All-same (IsStackRun count) stacks (places_of_kind Stack mappings) stacks_are (all-reads (IsStackRun count) (places_of_kind Stack mappings) stack-opens);
      }
