use Rattle.ad_maps.proofs.maps.Maps.switch.Given as goal

abbrev pub ghosts-switch : goal.ghosts-switch
ghosts-switch a = record { shape = a.table.now.shared.key; number = 0; made = a.made }
