use Rattle.ad_kit.proofs.Readable.{IsObject-written}
use Rattle.ad_kit.proofs.Taken.{IsReadable-from}
use Rattle.ad_kit.proofs.laws.law_round_trip.Goals as goal

pub returns-clause-read : goal.returns-clause-read
returns-clause-read c = IsObject-written

pub returns-clause-no_other : goal.returns-clause-no_other
returns-clause-no_other c = λ ss ys o w fit read. IsReadable-from ss ys w fit o read
