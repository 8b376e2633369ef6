use Rattle.ad_stacks.proofs.stacks.replace.Given as goal

abbrev pub ghosts-record : goal.ghosts-record
ghosts-record a = record { given = a.given }
