use Rattle.std.proofs.Common.{drop}
use Rattle.ad_run.specs.Calls.{HaveDraws, PerformsAll}
use Rattle.ad_wrapper.specs.declared.hands.Hands.{Hands}
use Rattle.ad_wrapper.specs.Fits.{AreHandsOf}
use Rattle.ad_run.proofs.worker.make_calls.Given as goal

-- the hands are the worker's, there are draws for the calls that are left, and with them all calls are made
abbrev pub invariant-loop-call : goal.invariant-loop-call
invariant-loop-call g l = record {
  of_worker : AreHandsOf l.shared l.hands;
  draws : HaveDraws l.hands.turn_seat.left (drop l.call-index l.calls);
  made : (last : Hands) → PerformsAll l.shared l.hands (drop l.call-index l.calls) last → PerformsAll l.shared l.initial.hands l.calls last;
}
