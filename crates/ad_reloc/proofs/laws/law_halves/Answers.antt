use Rattle.ad_reloc.proofs.OnePair.{same_high, same_low, some_halves}
use Rattle.ad_reloc.proofs.laws.law_halves.Goals as goal

pub returns : goal.returns
returns c = record { high = same_high; low = same_low; some = some_halves }
