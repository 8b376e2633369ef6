use Rattle.ad_turns.proofs.Worked.{worked_reached, first_left_out, last_left_out, first_twice, last_twice}
use Rattle.ad_turns.proofs.laws.law_worked_end.Goals as goal

pub returns-clause-reached : goal.returns-clause-reached
returns-clause-reached c = worked_reached

pub returns-clause-first_left_out : goal.returns-clause-first_left_out
returns-clause-first_left_out c = first_left_out

pub returns-clause-last_left_out : goal.returns-clause-last_left_out
returns-clause-last_left_out c = last_left_out

pub returns-clause-first_twice : goal.returns-clause-first_twice
returns-clause-first_twice c = first_twice

pub returns-clause-last_twice : goal.returns-clause-last_twice
returns-clause-last_twice c = last_twice
