-- What a worker needs for its calls, and what it has once they are made.
use Rattle.std.specs.Prelude.{◌≡◌, List, map, Some}
use Rattle.std.specs.List.{range_with_len}
use Rattle.ad_lines.specs.Sound.{Lines}
use Rattle.ad_run.specs.declared.threads.Job.{Job}
use Rattle.ad_run.specs.Calls.{calls_of_worker, AreThere, HaveDraws, PerformsAll}
use Rattle.ad_run.specs.Opened.{AreAllNewHands}
use Rattle.ad_wrapper.specs.declared.hands.Hands.{Hands}
use Rattle.ad_wrapper.specs.declared.shared.Shared.{Shared}
use Rattle.ad_wrapper.specs.Fits.{AreHandsOf}

-- A worker is ready: it has its seats in these tables in hand, what its calls name is there, and it may make as many draws.
pub record IsReady (s : Shared) (job : Job) : Type 0 where
  pub hands : Hands
  pub has : job.hands ≡ Some hands
  pub of_worker : AreHandsOf s hands
  pub there : AreThere s.images job.calls.items
  pub draws : HaveDraws hands.turn_seat.left job.calls.items

-- One worker for each of the lines, in order: it has new hands, and its calls are those that the steps make it make.
pub record AreNewJobs (s : Shared) (l : Lines) (jobs : List Job) : Type 0 where
  pub hands : List Hands
  pub have : map (λ (j : Job). j.hands) jobs ≡ map (λ (h : Hands). Some h) hands
  pub new : AreAllNewHands s l hands
  pub calls : map (λ (j : Job). j.calls.items) jobs ≡ map (λ w. calls_of_worker w l.steps) (range_with_len 0 l.workers)

-- A worker has made its calls.
pub record HasWorked (s : Shared) (before after : Job) : Type 0 where
  pub first : Hands
  pub last : Hands
  pub had : before.hands ≡ Some first
  pub has : after.hands ≡ Some last
  pub made : PerformsAll s first before.calls.items last
  pub of_worker : AreHandsOf s last
