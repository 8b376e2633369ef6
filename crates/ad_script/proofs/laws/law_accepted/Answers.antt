use Rattle.ad_script.proofs.Accepted.{is_script, script_is}
use Rattle.ad_script.proofs.laws.law_accepted.Goals as goal

pub returns-clause-says : goal.returns-clause-says
returns-clause-says c = is_script

pub returns-clause-read : goal.returns-clause-read
returns-clause-read c = script_is
