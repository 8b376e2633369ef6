-- The run of a script's lines on one thread. A call is made by the plain machine at the present places of its module and
-- of its worker's stack. A line that moves a module or gives a worker a fresh stack replaces a place, and unmaps
-- the old one.
use Rattle.std.specs.Prelude.{ℕ, List, [], ◌∷◌, ◌++◌, fold, length, map, nat_lt, ◌==◌, slice_get, slice_set, unwrap_or, if◌then◌else◌}
use Rattle.std.specs.Option.{is_some, option_map_or}
use Rattle.ad_base.specs.declared.image.Image.{Image}
use Rattle.ad_base.specs.declared.layout.TheConstants.{MAPPINGS}
use Rattle.ad_base.specs.declared.ledger.Kind.{Kind}
use Rattle.ad_base.specs.declared.ledger.Kind.TheVariants as kinds
use Rattle.ad_base.specs.declared.ledger.MoveEnd.{MoveEnd}
use Rattle.ad_base.specs.declared.ledger.MoveEnd.TheVariants.{Made, Spent}
use Rattle.ad_base.specs.declared.ledger.Moved.{Moved}
use Rattle.ad_base.specs.declared.ledger.Row.{Row}
use Rattle.ad_base.specs.declared.place.Place.{Place}
use Rattle.ad_base.specs.Book.{Contents}
use Rattle.ad_base.specs.Ledger.{made_place}
use Rattle.ad_base.specs.Count.{risen}
use Rattle.ad_call.specs.declared.call.Call.{Call}
use Rattle.ad_call.specs.Call.{after_call}
use Rattle.ad_place.specs.Choice.{Drawn, next_place, with_next}
use Rattle.ad_lines.specs.declared.ready.ReadyStep.{ReadyStep}
use Rattle.ad_lines.specs.declared.ready.ReadyStep.TheVariants as steps

-- a module: its image, where its movable part lies, and what its book holds
pub record ModuleState : Type 0 where
  pub image : Image
  pub movable : Place
  pub book : Contents

-- the places that were drawn, what came of the lines that move something, and a row for each mapping so far, in
-- order of number
pub record Placement : Type 0 where
  pub drawn : Drawn
  pub moves : List Moved
  pub rows : List Row

-- what the lines so far have come to: the modules, and the stacks of the workers, each in order of their numbers
pub record RunState : Type 0 where
  pub modules : List ModuleState
  pub stacks : List Place
  pub placement : Placement

-- The run once a worker called an export of a module. Where there is no such module or worker, nothing is done.
abbrev pub with_call : ℕ → RunState → ℕ → ℕ → ℕ → ℕ → List ℕ → RunState
with_call fuel s line worker number export args =
    option_map_or (λ m. option_map_or (λ stack.
    let call : Call = record { line = line; worker = worker; export = export; under = m.movable; stack = stack } in
    record s { modules = slice_set s.modules number (record m { book = after_call m.image fuel m.book call args }) })
    (slice_get s.stacks worker) s)
    (slice_get s.modules number) s

-- what comes of a line that moves something: it is spent exactly where all mapping numbers are given away
abbrev pub move_end : Drawn → Kind → ℕ → MoveEnd
move_end d kind pages = if nat_lt (length d.places) MAPPINGS then Made (next_place d kind pages) else Spent

-- a place that was made replaces the old one
abbrev pub place_after : Place → MoveEnd → Place
place_after old end = unwrap_or (made_place end) old

-- what was drawn once a move came to an end: a move that is made draws one place
abbrev pub drawn_after : Drawn → Kind → ℕ → MoveEnd → Drawn
drawn_after d kind pages end = if is_some (made_place end) then with_next d kind pages else d

-- the row of a mapping that no line has retired yet
abbrev pub new_row : Kind → ℕ → Place → Row
new_row kind who p = record { mapping = p.mapping; kind = kind; who = who; place = p; line = 0; unmaps = 0 }

-- the row of the mapping of this number is retired by a line, and unmapped once more; every other stays
abbrev pub retired : ℕ → ℕ → Row → Row
retired number line r = if r.mapping == number then record r { line = line; unmaps = risen r.unmaps } else r

-- the mappings once a place of a module or of a worker was replaced by another
abbrev pub replaced : List Row → ℕ → Kind → ℕ → Place → Place → List Row
replaced rows line kind who old new = map (retired old.mapping line) rows ++ new_row kind who new ∷ []

-- what a line that moves something, which lies at the old place, makes of the places
unfoldable pub after_move : Placement → ℕ → Kind → ℕ → Place → Placement
after_move p line kind who old =
    let end = move_end p.drawn kind old.pages in
    record {
      drawn = drawn_after p.drawn kind old.pages end;
      moves = p.moves ++ record { line = line; kind = kind; who = who; end = end } ∷ [];
      rows = option_map_or (λ new. replaced p.rows line kind who old new) (made_place end) p.rows;
    }

-- the run once a line moved a module
abbrev pub with_module_moved : ℕ → RunState → ℕ → RunState
with_module_moved line s number =
    option_map_or (λ m. record s {
      modules = slice_set s.modules number (record m { movable = place_after m.movable (move_end s.placement.drawn kinds.Code m.movable.pages) });
      placement = after_move s.placement line kinds.Code number m.movable;
    }) (slice_get s.modules number) s

-- the run once a line gave a worker a fresh stack
abbrev pub with_fresh_stack : ℕ → RunState → ℕ → RunState
with_fresh_stack line s worker =
    option_map_or (λ stack. record s {
      stacks = slice_set s.stacks worker (place_after stack (move_end s.placement.drawn kinds.Stack stack.pages));
      placement = after_move s.placement line kinds.Stack worker stack;
    }) (slice_get s.stacks worker) s

-- what a step makes of the run, for so many steps of each call at most
unfoldable pub after_step : ℕ → RunState → ReadyStep → RunState
after_step fuel s (steps.Call line worker «module» export args) = with_call fuel s line worker «module» export args
after_step fuel s (steps.Move line modules) = fold (with_module_moved line) s modules
after_step fuel s (steps.Stack line worker) = with_fresh_stack line s worker

-- what steps make of it, in order
abbrev pub line_run : ℕ → RunState → List ReadyStep → RunState
line_run fuel s steps = fold (after_step fuel) s steps
