use Rattle.ad_turns.proofs.turns.Turns.give.Given as goal

abbrev pub ghosts-note : goal.ghosts-note
ghosts-note a = record { after = a.book.now }
