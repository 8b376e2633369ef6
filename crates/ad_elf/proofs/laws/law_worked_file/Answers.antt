use Rattle.ad_elf.proofs.Computed.{IsObject-sum, IsRefused-cut, IsRefused-empty}
use Rattle.ad_elf.proofs.laws.law_worked_file.Goals as goal

pub returns : goal.returns
returns c = record { object = IsObject-sum; cut = IsRefused-cut; empty = IsRefused-empty }
