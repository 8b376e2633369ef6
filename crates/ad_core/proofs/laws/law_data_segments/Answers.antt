use Rattle.std.proofs.Common.{refl}
use Rattle.ad_core.proofs.laws.law_data_segments.Goals as goal

pub returns : goal.returns
returns c = record { fixed = λ i book under stack. refl; writable = λ i book under stack. refl }
