use Rattle.ad_relate.proofs.Runs.{call-outcome, run-outcome}
use Rattle.ad_relate.proofs.laws.law_run.Goals as goal

pub returns : goal.returns
returns c = record { run = run-outcome; call = call-outcome }
