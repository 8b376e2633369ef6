use Rattle.ad_turns.proofs.Openings.{words_law, opened_law, dealt_law}
use Rattle.ad_turns.proofs.laws.law_opening.Goals as goal

pub returns-clause-words : goal.returns-clause-words
returns-clause-words c = words_law

pub returns-clause-opened : goal.returns-clause-opened
returns-clause-opened c = opened_law

pub returns-clause-dealt : goal.returns-clause-dealt
returns-clause-dealt c = dealt_law
