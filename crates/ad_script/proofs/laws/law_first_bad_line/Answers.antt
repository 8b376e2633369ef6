use Rattle.ad_script.proofs.FirstBad.{first_bad_line, refused_there}
use Rattle.ad_script.proofs.laws.law_first_bad_line.Goals as goal

pub returns-clause-refused : goal.returns-clause-refused
returns-clause-refused c = first_bad_line

pub returns-clause-first : goal.returns-clause-first
returns-clause-first c = refused_there
