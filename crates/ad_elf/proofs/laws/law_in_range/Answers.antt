use Rattle.ad_elf.proofs.InRange.{IsInRange-from}
use Rattle.ad_elf.proofs.laws.law_in_range.Goals as goal

pub returns : goal.returns
returns c = IsInRange-from
