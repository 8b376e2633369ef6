use Rattle.std.proofs.Common.{None, Some, refl}
use Rattle.ad_symbolic.proofs.laws.law_replay_makes_calls.Goals as goal

pub returns : goal.returns
returns c image fuel None a more = refl
returns c image fuel (Some kept) a more = refl
