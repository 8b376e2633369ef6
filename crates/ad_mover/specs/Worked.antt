-- A worked account of the mover: the one module of a table of two frames is moved in lines 2, 3 and 4.
use Rattle.std.specs.Prelude.{ℕ, List, [], ◌∷◌}
use Rattle.ad_base.specs.declared.ledger.Kind.TheVariants as kinds
use Rattle.ad_base.specs.declared.ledger.MoveEnd.{MoveEnd}
use Rattle.ad_base.specs.declared.ledger.MoveEnd.TheVariants as ends
use Rattle.ad_base.specs.declared.ledger.Moved.{Moved}
use Rattle.ad_base.specs.declared.place.Place.{Place}
use Rattle.ad_maps.specs.declared.shape.Shape.{Shape}
use Rattle.ad_maps.specs.declared.view.Deed.{Deed}
use Rattle.ad_maps.specs.declared.view.Deed.TheVariants as deed
use Rattle.ad_mover.specs.Moves.{Moving}
use Rattle.ad_place.specs.Choice.{Drawn, next_place, with_next}
use Rattle.ad_script.specs.declared.script.Step.{Step}
use Rattle.ad_script.specs.declared.script.Step.TheVariants as steps

-- the module is opened at this place, with mapping 1 in frame 0
abbrev pub worked_opening : Place
worked_opening = record { region = 2; start = 1; pages = 4; mapping = 1; frame = 0 }

abbrev pub worked_shape : Shape
worked_shape = record { slots = 1; frames = 2; workers = 1; modules = record { place = worked_opening; cells = [] } ∷ [] }

-- what is drawn at a seed before the first line, once a move was made, and once two were
abbrev pub worked_drawn : ℕ → Drawn
worked_drawn seed = record { seed = seed; places = worked_opening ∷ [] }

abbrev pub worked_drawn_once : ℕ → Drawn
worked_drawn_once seed = with_next (worked_drawn seed) kinds.Code 4

abbrev pub worked_drawn_twice : ℕ → Drawn
worked_drawn_twice seed = with_next (worked_drawn_once seed) kinds.Code 4

-- where mappings 2 and 3 lie: at the next place that is drawn, in the frame that has no owner
abbrev pub worked_second : ℕ → Place
worked_second seed = record (next_place (worked_drawn seed) kinds.Code 4) { frame = 1 }

abbrev pub worked_third : ℕ → Place
worked_third seed = record (next_place (worked_drawn_once seed) kinds.Code 4) { frame = 0 }

-- the line that moves the module, and what came of it
abbrev pub worked_line : ℕ → Step
worked_line line = steps.Move line (0 ∷ [])

abbrev pub worked_moved : ℕ → MoveEnd → Moved
worked_moved line end = record { line = line; kind = kinds.Code; who = 0; end = end }

-- line 2 makes mapping 2 in frame 1; somebody is inside mapping 1 still, so that line 3 finds both frames owned; line 4 finds
-- frame 0 without owner, makes mapping 3 in it, and unmaps mapping 2, which nobody is inside
abbrev pub worked_lines : List Step
worked_lines = worked_line 2 ∷ worked_line 3 ∷ worked_line 4 ∷ []

abbrev pub worked_deeds : ℕ → List Deed
worked_deeds seed =
    deed.Look 0 1 ∷ deed.Look 1 0 ∷ deed.Map 0 (worked_second seed) ∷ deed.Switch 0 (worked_second seed) ∷ deed.Retire 1 2
    ∷ deed.Look 0 1 ∷ deed.Look 1 2
    ∷ deed.Look 0 0 ∷ deed.Map 0 (worked_third seed) ∷ deed.Switch 0 (worked_third seed) ∷ deed.Retire 2 4 ∷ deed.Unmap 2
    ∷ []

-- the mover before the first line, and behind the last one
abbrev pub worked_start : ℕ → Moving
worked_start seed = record { drawn = worked_drawn seed; deeds = []; current = 1 ∷ []; refreshes = []; moves = [] }

abbrev pub worked_end : ℕ → Moving
worked_end seed = record {
  drawn = worked_drawn_twice seed;
  deeds = worked_deeds seed;
  current = 3 ∷ [];
  refreshes = [];
  moves = worked_moved 2 (ends.Made (worked_second seed)) ∷ worked_moved 3 (ends.Busy 2) ∷ worked_moved 4 (ends.Made (worked_third seed)) ∷ [];
}
