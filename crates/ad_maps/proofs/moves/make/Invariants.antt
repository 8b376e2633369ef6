use Rattle.ad_maps.specs.Private.Tells.{nothing_known}
use Rattle.ad_maps.proofs.moves.make.Given as goal

abbrev pub ghosts-take : goal.ghosts-take
ghosts-take a = record { shape = nothing_known; number = 0; made = a.made }
