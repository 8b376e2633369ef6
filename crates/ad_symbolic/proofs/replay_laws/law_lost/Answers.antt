use Rattle.std.proofs.Common.{◌≤◌, sym, subst}
use Rattle.ad_symbolic.specs.Replay.{replay}
use Rattle.ad_symbolic.proofs.Histories.{clear-counted, length-replay, longest-is, lost-is, replay-in-order}
use Rattle.ad_symbolic.proofs.replay_laws.law_lost.Goals as goal

pub returns : goal.returns
returns c = record {
  each = length-replay;
  lost = λ image fuel calls k answer. lost-is (replay image fuel calls) k answer (replay-in-order image fuel calls);
  clear_history = λ image fuel calls n within. longest-is (replay image fuel calls) n (subst (λ long. n ≤ long) (sym (length-replay image fuel calls)) within);
  clear_answers = λ image fuel calls. clear-counted (replay image fuel calls) (replay-in-order image fuel calls);
}
