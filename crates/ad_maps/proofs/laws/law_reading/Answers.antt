use Rattle.ad_maps.proofs.Readings.{reading_law}
use Rattle.ad_maps.proofs.laws.law_reading.Goals as goal

pub returns : goal.returns
returns c = reading_law
