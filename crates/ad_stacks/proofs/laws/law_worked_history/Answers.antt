use Rattle.std.proofs.Common.{refl, lit<, lit≤}
use Rattle.ad_stacks.specs.Ledger.{by_number}
use Rattle.ad_stacks.specs.StackPlace.{IsStackPlace}
use Rattle.ad_stacks.specs.Worked.{worked_place}
use Rattle.ad_stacks.proofs.laws.law_worked_history.Goals as goal

first : IsStackPlace (worked_place 1)
first = record {
  place = record { region_from = lit≤ tt; region_to = lit< tt; page_before = lit≤ tt; some_page = lit≤ tt; page_behind = lit< tt; mapping_from = lit≤ tt; mapping_to = lit≤ tt; frame_to = lit< tt };
  for_stacks = lit≤ tt;
  size = refl;
  no_frame = refl;
}

second : IsStackPlace (worked_place 2)
second = record {
  place = record { region_from = lit≤ tt; region_to = lit< tt; page_before = lit≤ tt; some_page = lit≤ tt; page_behind = lit< tt; mapping_from = lit≤ tt; mapping_to = lit≤ tt; frame_to = lit< tt };
  for_stacks = lit≤ tt;
  size = refl;
  no_frame = refl;
}

pub returns-clause-lawful : goal.returns-clause-lawful
returns-clause-lawful c = (refl, (record { lane = lit< tt; place = second; above = (lit< tt, tt); from_line = lit< tt }, (record { is_in = refl; free = refl }, (record { next = refl; place = first; fresh = refl; first = refl }, tt))))

pub returns-clause-ledger : goal.returns-clause-ledger
returns-clause-ledger c = (record { number = refl; kind = refl; who = refl; place = refl; line = refl }, (record { number = refl; kind = refl; who = refl; place = refl; line = refl }, refl))

pub returns-clause-order : goal.returns-clause-order
unfolding by_number
returns-clause-order c = refl
