-- Computed examples of the joined machine: a schedule through all its steps, the story of one retired mapping, and wrong
-- machines, each of which breaks a law.
use Rattle.std.specs.Prelude.{ℕ, List, [], ◌∷◌, ◌++◌, Some}
use Rattle.ad_events.specs.declared.event.Event.{Event}
use Rattle.ad_events.specs.declared.event.Event.TheVariants as event
use Rattle.ad_events.specs.Functions.{changed}
use Rattle.ad_events.specs.World.{effect}
use Rattle.ad_events.specs.Owed as owing
use Rattle.ad_events.specs.Owed.{inside_of}
use Rattle.ad_events.specs.OwedExamples.{settle_early, push_late, leave_owing_entry}
use Rattle.ad_events.specs.Reclaim.{Agent, Worker, Mover, ReclaimState, Step, Enter, Read, Leave, Pay, Map, Switch, Retire, Open, Push, Settle, Unmap, after, reclaim_opening, reclaim_run}

-- ---- a schedule

-- Two slots; workers 0 and 1 on slot 0, worker 2 on slot 1; module 0 has mapping 1, module 1 has mapping 2. Worker 1 enters
-- between the list and the open of batch 1, and leaves between those of batch 2
abbrev pub opening_of_three : ReclaimState
opening_of_three = reclaim_opening 2 3 (1 ∷ 2 ∷ [])

-- mapping 3 takes the place of 1, which is listed in batch 1; all three workers are inside when the batch is pushed
abbrev pub first_batch : List Step
first_batch =
    Enter 0 0 ∷ Read 0 0 1 ∷ Enter 2 1 ∷ Read 2 1 2 ∷ Map 0 3 ∷ Switch 0 3 ∷ Retire 1 ∷ Enter 1 0 ∷ Read 1 0 3
    ∷ Open ∷ Push 0 ∷ Settle 0 ∷ Push 1 ∷ Settle 1 ∷ []

-- workers 0 and 1 leave and pay; mapping 4 takes the place of 2, which is listed in batch 2; worker 1 enters again
abbrev pub second_batch : List Step
second_batch =
    Leave 0 ∷ Map 1 4 ∷ Pay 0 ∷ Switch 1 4 ∷ Retire 2 ∷ Leave 1 ∷ Pay 1 ∷ Open ∷ Enter 1 0 ∷ Read 1 1 4
    ∷ Push 0 ∷ Push 1 ∷ Settle 1 ∷ Settle 0 ∷ []

-- worker 2 leaves, brings batch 1 to zero and unmaps mapping 1; worker 1 does the same with batch 2 and mapping 2
abbrev pub paid_batches : List Step
paid_batches = Leave 2 ∷ Pay 2 ∷ Unmap 1 (Worker 2) ∷ Pay 2 ∷ Leave 1 ∷ Pay 1 ∷ Unmap 2 (Worker 1) ∷ []

-- nobody is inside when mappings 3 and 4 are listed in batch 3: the mover brings it to zero and unmaps them
abbrev pub third_batch : List Step
third_batch =
    Map 0 5 ∷ Switch 0 5 ∷ Map 1 6 ∷ Switch 1 6 ∷ Retire 3 ∷ Retire 4 ∷ Open ∷ Push 0 ∷ Settle 0 ∷ Push 1 ∷ Settle 1
    ∷ Unmap 3 Mover ∷ Unmap 4 Mover ∷ []

abbrev pub schedule : List Step
schedule = first_batch ++ second_batch ++ paid_batches ++ third_batch

-- what its steps of what is owed answer: an enter, an open and a leave the last batch pushed on the slot (0 for an open), a
-- push the number inside, a settle and a pay what they leave. Of batch 1, in the first two lines, two shares less the first
-- are left with two seats owing, then three owe, then two, then one; of batch 2, in the second line, two shares less the
-- second with one owing, then two owe. In the third line worker 2 pays both, and worker 1 batch 2. In the fourth the mover
-- settles batch 3, which nobody owes
abbrev pub schedule_answers : List ℕ
schedule_answers =
    0 ∷ 0 ∷ 0 ∷ 0 ∷ 2 ∷ 4294967298 ∷ 1 ∷ 3
    ∷ 1 ∷ 2 ∷ 1 ∷ 1 ∷ 0 ∷ 1 ∷ 1 ∷ 1 ∷ 4294967297 ∷ 2
    ∷ 2 ∷ 0 ∷ 1 ∷ 2 ∷ 0
    ∷ 0 ∷ 0 ∷ 4294967296 ∷ 0 ∷ 0 ∷ []

-- ---- one retired mapping

-- One slot and one worker; module 0 has mapping 1. The worker is inside mapping 1 when mapping 2 takes its place
abbrev pub opening_of_one : ReclaimState
opening_of_one = reclaim_opening 1 1 (1 ∷ [])

abbrev pub retired_inside : List Step
retired_inside = Enter 0 0 ∷ Read 0 0 1 ∷ Map 0 2 ∷ Switch 0 2 ∷ Retire 1 ∷ Open ∷ Push 0 ∷ Settle 0 ∷ []

-- it leaves, pays the batch, and unmaps the mapping
abbrev pub then_left : List Step
then_left = Leave 0 ∷ Pay 0 ∷ Unmap 1 (Worker 0) ∷ []

-- ---- wrong machines

-- the state after an event that no step of the joined machine is, and with another state of what is owed
abbrev pub with_event : ReclaimState → Event → ReclaimState
with_event j e = record { world = effect j.world e; owed = j.owed; batch = j.batch; zeroed = j.zeroed }

abbrev pub with_owed : ReclaimState → owing.State → ReclaimState
with_owed j w = record { world = j.world; owed = w; batch = j.batch; zeroed = j.zeroed }

-- and with agent a noted as who brought batch b to zero
abbrev pub with_zeroed : ReclaimState → ℕ → Agent → ReclaimState
with_zeroed j b a = record { world = j.world; owed = j.owed; batch = j.batch; zeroed = changed j.zeroed b (Some a) }

-- a switch that unmaps the old mapping straight away
abbrev pub unmapped_at_switch : ReclaimState
unmapped_at_switch = reclaim_run opening_of_one (Enter 0 0 ∷ Read 0 0 1 ∷ Map 0 2 ∷ Switch 0 2 ∷ Unmap 1 Mover ∷ [])

-- a mover that settles before it pushes, by a number that it loaded before the worker entered
abbrev pub settled_before_push : ReclaimState
settled_before_push =
    let opened = reclaim_run opening_of_one (Enter 0 0 ∷ Read 0 0 1 ∷ Map 0 2 ∷ Switch 0 2 ∷ Retire 1 ∷ Open ∷ []) in
    with_zeroed (with_owed opened (push_late (settle_early opened.owed 1 0 (inside_of opening_of_one.owed 0)) 1 0)) 1 Mover

-- a leave that pays also the batch of its entry number: worker 1 enters after the push, and pays for worker 0
abbrev pub opening_of_two : ReclaimState
opening_of_two = reclaim_opening 1 2 (1 ∷ [])

abbrev pub owed_by_one : ReclaimState
owed_by_one = reclaim_run opening_of_two (retired_inside ++ Enter 1 0 ∷ Read 1 0 2 ∷ [])

abbrev pub paid_too_much : ReclaimState
paid_too_much = after (with_owed (with_event owed_by_one (event.Leave 1)) (leave_owing_entry owed_by_one.owed 1 0 1)) (Pay 1)

-- a leave that unmaps without having paid, while worker 1 is inside the mapping too
abbrev pub freed_unpaid : ReclaimState
freed_unpaid = reclaim_run opening_of_two (Enter 1 0 ∷ Read 1 0 1 ∷ retired_inside ++ Leave 0 ∷ Unmap 1 (Worker 0) ∷ [])

-- a leave that puts the batch that it brought to zero on a list for later, and returns
abbrev pub put_off : List Step
put_off = retired_inside ++ Leave 0 ∷ Pay 0 ∷ []

-- two agents that both unmap the mapping of one batch
abbrev pub freed_twice : List Step
freed_twice = retired_inside ++ then_left ++ Unmap 1 Mover ∷ []

-- an unmap of a mapping of another batch: worker 0 is inside mapping 2 of batch 2, and the mover has brought batch 1 to zero
abbrev pub freed_another : ReclaimState
freed_another =
    reclaim_run opening_of_one
    (Map 0 2 ∷ Switch 0 2 ∷ Retire 1 ∷ Open ∷ Push 0 ∷ Settle 0 ∷ Enter 0 0 ∷ Read 0 0 2 ∷ Map 0 3 ∷ Switch 0 3 ∷ Retire 2 ∷ Open ∷ Push 0 ∷ Settle 0 ∷ Unmap 2 Mover ∷ [])

-- a worker that reads before its slot's number is raised, so that the mover finds nobody inside
abbrev pub read_uncounted : ReclaimState
read_uncounted = with_event (with_event opening_of_one (event.Enter 0)) (event.Read 0 0 1)

abbrev pub unmapped_uncounted : ReclaimState
unmapped_uncounted = reclaim_run read_uncounted (Map 0 2 ∷ Switch 0 2 ∷ Retire 1 ∷ Open ∷ Push 0 ∷ Settle 0 ∷ Unmap 1 Mover ∷ [])

-- a worker that pays before it leaves
abbrev pub paid_inside : ReclaimState
paid_inside =
    let inside = reclaim_run opening_of_one retired_inside in
    with_zeroed (with_owed inside (owing.put_count inside.owed 1 0)) 1 (Worker 0)

-- a mover that settles one slot fewer, of two, and returns
abbrev pub settled_short : ReclaimState
settled_short = reclaim_run (reclaim_opening 2 1 (1 ∷ [])) (Map 0 2 ∷ Switch 0 2 ∷ Retire 1 ∷ Open ∷ Push 0 ∷ Settle 0 ∷ Push 1 ∷ [])
