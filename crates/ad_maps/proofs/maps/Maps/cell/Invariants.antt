use Rattle.ad_maps.specs.Private.Tells.{nothing_made}
use Rattle.ad_maps.proofs.maps.Maps.cell.Given as goal

abbrev pub ghosts-entry : goal.ghosts-entry
ghosts-entry a = record { shape = a.table.now.shared.key; number = a.entry; made = nothing_made }
