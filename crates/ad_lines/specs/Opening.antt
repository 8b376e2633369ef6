-- What a run begins with: the modules that were loaded, and the places that were drawn for them.
use Rattle.std.specs.Prelude.{◌≡◌, ℕ, ◌≤◌, List, [], ◌∷◌, ◌++◌, length, map, All}
use Rattle.std.specs.List.{enumerate_from, filter, flat_map, range_with_len, zip}
use Rattle.ad_base.specs.declared.image.Image.{Image}
use Rattle.ad_base.specs.declared.layout.TheConstants.{MODULES, STACK_PAGES, WORKERS}
use Rattle.ad_base.specs.declared.ledger.Kind.{Kind}
use Rattle.ad_base.specs.declared.ledger.Kind.TheVariants.{Code, Fixed, Stack}
use Rattle.ad_base.specs.declared.ledger.Row.{Row}
use Rattle.ad_base.specs.declared.place.Place.{Place}
use Rattle.ad_base.specs.Image.{fixed_pages, movable_pages, IsWhole}
use Rattle.ad_base.specs.Ledger.{Mapping, is_same_kind}
use Rattle.ad_core.specs.Turn.{opening_contents}
use Rattle.ad_place.specs.Choice.{Drawn, drawn_from}
use Rattle.ad_relate.specs.ClearHistory.{AreOffsets}
use Rattle.ad_lines.specs.LineRun.{ModuleState, RunState, new_row}

-- what a place is asked for: what is to lie there, whose it is, and of how many pages
pub record Request : Type 0 where
  pub kind : Kind
  pub who : ℕ
  pub pages : ℕ

-- the kind and the pages that the place is drawn for
abbrev pub drawn_for : Request → Kind × ℕ
drawn_for r = (r.kind, r.pages)

-- a worker asks for a stack
abbrev pub stack_request : ℕ → Request
stack_request worker = record { kind = Stack; who = worker; pages = STACK_PAGES }

-- a module, by its number and its image, asks for its immovable part and for its movable one
abbrev pub module_requests : ℕ × Image → List Request
module_requests (number, i) = record { kind = Fixed; who = number; pages = fixed_pages i } ∷ record { kind = Code; who = number; pages = movable_pages i } ∷ []

-- What is asked for before the first line, in order: a stack for each worker, and the parts of each module.
abbrev pub opening_requests : ℕ → List Image → List Request
opening_requests workers images = map stack_request (range_with_len 0 workers) ++ flat_map module_requests (enumerate_from 0 images)

-- what is drawn at a seed for these
unfoldable pub opening_drawn : ℕ → ℕ → List Image → Drawn
opening_drawn seed workers images = drawn_from (record { seed = seed; places = [] }) (map drawn_for (opening_requests workers images))

-- what was asked for lies at a place
abbrev pub opening_mapping : Request × Place → Mapping
opening_mapping (r, p) = record { kind = r.kind; who = r.who; place = p; line = 0 }

-- all mappings before the first line, of so many workers and of modules of these images, where these places were drawn
abbrev pub opening_mappings : ℕ → List Image → List Place → List Mapping
opening_mappings workers images places = map opening_mapping (zip (opening_requests workers images) places)

-- the places of the mappings of a kind
abbrev pub places_of_kind : Kind → List Mapping → List Place
places_of_kind kind mappings = map (λ (m : Mapping). m.place) (filter (λ (m : Mapping). is_same_kind kind m.kind) mappings)

-- a module of an image before its first call, with its movable part at a place
abbrev pub opening_module : Image × Place → ModuleState
opening_module (i, movable) = record { image = i; movable = movable; book = opening_contents i }

-- the modules of these images before their first calls, with their movable parts at these places
abbrev pub opening_modules : List Image → List Place → List ModuleState
opening_modules images parts = map opening_module (zip images parts)

-- the row of a mapping that was made before the first line
abbrev pub row_of : Mapping → Row
row_of m = new_row m.kind m.who m.place

-- the run before its first line: of so many workers, on modules of these images, at the places that were drawn
unfoldable pub opening_run : ℕ → List Image → Drawn → RunState
opening_run workers images drawn =
    let mappings = opening_mappings workers images drawn.places in
    record {
      modules = opening_modules images (places_of_kind Code mappings);
      stacks = places_of_kind Stack mappings;
      placement = record { drawn = drawn; moves = []; rows = map row_of mappings };
    }

-- Images of modules that were loaded in order, beside so many workers: each is whole, its exports lie at offsets of 64
-- bits, and its immovable part lies where the seed puts it.
pub record AreLoaded (seed workers : ℕ) (images : List Image) : Type 0 where
  pub some_worker : 1 ≤ workers
  pub few_workers : workers ≤ WORKERS
  pub few_modules : length images ≤ MODULES
  pub whole : All IsWhole images
  pub offsets : All AreOffsets images
  pub fixed : map (λ (i : Image). i.fixed) images ≡ places_of_kind Fixed (opening_mappings workers images (opening_drawn seed workers images).places)
