use Rattle.ad_maps.specs.Private.Tells.{nothing_made}
use Rattle.ad_maps.proofs.maps.Maps.enter.Given as goal

abbrev pub ghosts-read : goal.ghosts-read
ghosts-read a = record { shape = a.table.now.shared.key; number = a.module; made = nothing_made }
