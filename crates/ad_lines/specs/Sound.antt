-- What holds of a run of lines, in whatever order its calls and moves were made.
use Rattle.std.specs.Prelude.{◌≡◌, ℕ, ◌==◌, Bool, false, List, ◌++◌, map, All, slice_get, Some}
use Rattle.std.specs.List.{AllZip, filter, flat_map}
use Rattle.ad_base.specs.declared.book.Entry.{Entry}
use Rattle.ad_base.specs.declared.image.Image.{Image}
use Rattle.ad_base.specs.declared.ledger.Moved.{Moved}
use Rattle.ad_base.specs.declared.ledger.Row.{Row}
use Rattle.ad_base.specs.declared.place.Place.{Place}
use Rattle.ad_base.specs.Book.{Contents}
use Rattle.ad_base.specs.Ledger.{IsLedger, IsUnmappedOnce, Mapping, made_mappings}
use Rattle.ad_core.specs.Turn.{IsLawful}
use Rattle.ad_lines.specs.declared.ready.ReadyStep.{ReadyStep}
use Rattle.ad_lines.specs.declared.ready.ReadyStep.TheVariants as ready
use Rattle.ad_lines.specs.LineLaws.{calls_of_module, draw_of, move_request, move_requests, step_of}
use Rattle.ad_lines.specs.Opening.{drawn_for, opening_requests}
use Rattle.ad_place.specs.Choice.{places_of}
use Rattle.ad_relate.specs.ClearHistory.{RepliesAsReplayed}

-- what is run: the seed that places are drawn from, the workers, the images of the modules, the fuel of a call, and the steps
pub record Lines : Type 0 where
  pub seed : ℕ
  pub workers : ℕ
  pub images : List Image
  pub fuel : ℕ
  pub steps : List ReadyStep

-- what came of it: what the books of the modules hold, what came of the moves, and a row for each mapping
pub record Outcome : Type 0 where
  pub books : List Contents
  pub moves : List Moved
  pub rows : List Row

-- the places that the seed chooses for the opening and for these moves
abbrev pub chosen_places : Lines → List Moved → List Place
chosen_places l moves = places_of l.seed (map drawn_for (opening_requests l.workers l.images) ++ flat_map (draw_of l.images) moves)

-- a step by which a worker calls
abbrev pub is_by : ℕ → ReadyStep → Bool
is_by worker (ready.Call line caller «module» export args) = caller == worker
is_by worker (ready.Move line modules) = false
is_by worker (ready.Stack line caller) = false

-- a place without the number of its frames, which the seed doesn't choose
abbrev pub unframed : Place → Place
unframed p = record p { frame = 0 }

-- the entries of a worker, in order
abbrev pub entries_by : ℕ → List Entry → List Entry
entries_by worker entries = filter (λ (x : Entry). x.worker == worker) entries

-- What holds of a run, where these mappings were made before the first of its lines.
pub record IsSoundRun (opening : List Mapping) (l : Lines) (o : Outcome) : Type 0 where
  -- turns of the plain machine reach each book
  pub lawful : AllZip (λ (i : Image) (b : Contents). IsLawful i l.fuel b) l.images o.books
  -- the calls of a worker in a module's book are those that the steps ask for, in order
  pub calls : (number worker : ℕ) (b : Contents) → slice_get o.books number ≡ Some b
      → map (step_of number) (entries_by worker b.entries) ≡ filter (is_by worker) (calls_of_module number l.steps)
  -- the clear calls of a book reply as the symbolic machine does
  pub clear : AllZip (λ (i : Image) (b : Contents). RepliesAsReplayed i l.fuel b.entries) l.images o.books
  -- the moves are those that the steps ask for, in order
  pub moves_are : map move_request o.moves ≡ flat_map move_requests l.steps
  -- each mapping lies at the next place that the seed chooses, but for the number of its frames
  pub places : map (λ (r : Row). unframed r.place) o.rows ≡ map unframed (chosen_places l o.moves)
  -- the rows are the ledger of the opening and of what the moves made
  pub ledger : IsLedger (opening ++ made_mappings o.moves) o.rows
  -- what was retired was unmapped once
  pub unmapped : All IsUnmappedOnce o.rows
