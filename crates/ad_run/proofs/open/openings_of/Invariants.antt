use Rattle.std.proofs.Common.{◌≡◌, map, take}
use Rattle.std.specs.List.{enumerate_from, zip}
use Rattle.ad_run.specs.Opened.{opening_for}
use Rattle.ad_run.proofs.open.openings_of.Given as goal

-- the modules of the images so far
abbrev pub invariant-loop-module : goal.invariant-loop-module
invariant-loop-module l = l.openings.items ≡ take l.«module» (map (opening_for l.frames) (zip (enumerate_from 0 l.images) l.parts))
