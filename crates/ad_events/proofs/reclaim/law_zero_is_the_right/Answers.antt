use Rattle.ad_events.specs.ReclaimLaws.{WhoZeroedMayUnmap, NotedByMaker, NotedStays, OnlyWhoZeroedUnmaps, ZeroIsNoted}
use Rattle.ad_events.proofs.ReclaimLaws.{each_brought_once, who_zeroed_may_unmap, noted_by_maker, noted_stays, only_who_zeroed_unmaps, zero_is_noted}
use Rattle.ad_events.proofs.ReclaimRuns.{after_every_run}
use Rattle.ad_events.proofs.reclaim.law_zero_is_the_right.Goals as goal

pub returns-clause-noted : goal.returns-clause-noted
returns-clause-noted c = after_every_run ZeroIsNoted zero_is_noted

pub returns-clause-maker : goal.returns-clause-maker
returns-clause-maker c = after_every_run NotedByMaker noted_by_maker

pub returns-clause-once : goal.returns-clause-once
returns-clause-once c = each_brought_once

pub returns-clause-stays : goal.returns-clause-stays
returns-clause-stays c = after_every_run NotedStays noted_stays

pub returns-clause-may : goal.returns-clause-may
returns-clause-may c = after_every_run WhoZeroedMayUnmap who_zeroed_may_unmap

pub returns-clause-only : goal.returns-clause-only
returns-clause-only c = after_every_run OnlyWhoZeroedUnmaps only_who_zeroed_unmaps
