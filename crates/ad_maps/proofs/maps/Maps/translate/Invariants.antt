use Rattle.ad_maps.specs.Private.Tells.{nothing_known, nothing_made}
use Rattle.ad_maps.proofs.maps.Maps.translate.Given as goal

abbrev pub ghosts-page : goal.ghosts-page
ghosts-page a = record { shape = nothing_known; number = a.va; made = nothing_made }
