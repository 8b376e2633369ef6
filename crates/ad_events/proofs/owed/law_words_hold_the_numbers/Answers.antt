use Rattle.ad_events.specs.OwedLaws.{NothingBelowZero, WordsFit}
use Rattle.ad_events.proofs.OwedLaws.{after_every_run, nothing_below_zero, words_fit}
use Rattle.ad_events.proofs.owed.law_words_hold_the_numbers.Goals as goal

pub returns-clause-differences : goal.returns-clause-differences
returns-clause-differences c = after_every_run NothingBelowZero nothing_below_zero

pub returns-clause-sums : goal.returns-clause-sums
returns-clause-sums c = after_every_run WordsFit words_fit
