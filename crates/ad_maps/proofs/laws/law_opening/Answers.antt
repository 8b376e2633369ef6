use Rattle.ad_maps.proofs.OpeningLaws.{dealt_law, opened_law}
use Rattle.ad_maps.proofs.OpeningWords.{opening_words_law}
use Rattle.ad_maps.proofs.laws.law_opening.Goals as goal

pub returns-clause-words : goal.returns-clause-words
returns-clause-words c = opening_words_law

pub returns-clause-opened : goal.returns-clause-opened
returns-clause-opened c = opened_law

pub returns-clause-dealt : goal.returns-clause-dealt
returns-clause-dealt c = dealt_law
