use Rattle.ad_events.specs.ReclaimLaws.{GoneIsZeroed, LeaveReturns, LeftByOwnSteps, RetireReturns}
use Rattle.ad_events.proofs.ReclaimLaws.{gone_is_zeroed, leave_returns, left_by_own_steps, retire_returns}
use Rattle.ad_events.proofs.ReclaimRuns.{after_every_run}
use Rattle.ad_events.proofs.reclaim.law_nothing_is_left.Goals as goal

pub returns-clause-gone : goal.returns-clause-gone
returns-clause-gone c = after_every_run GoneIsZeroed gone_is_zeroed

pub returns-clause-leave : goal.returns-clause-leave
returns-clause-leave c = after_every_run LeaveReturns leave_returns

pub returns-clause-retire : goal.returns-clause-retire
returns-clause-retire c = after_every_run RetireReturns retire_returns

pub returns-clause-own : goal.returns-clause-own
returns-clause-own c = after_every_run LeftByOwnSteps left_by_own_steps
