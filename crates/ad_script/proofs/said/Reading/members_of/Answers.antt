use Rattle.std.proofs.Common.{◌∙◌, sym, ap}
use Rattle.std.specs.Option.{is_some}
use Rattle.ad_script.specs.Private.Seen.{said_seen}
use Rattle.ad_script.specs.Script.{is_loaded}
use Rattle.ad_script.proofs.Lists.{all_at}
use Rattle.ad_script.proofs.said.Reading.members_of.Goals as goal

pub returns-in_err-module_number : goal.returns-in_err-module_number
returns-in_err-module_number c = rw c.from_residual.ensures (all_at (is_loaded (said_seen c.args.self.now)) c.args.names.now c.loop-name.name-index _ c.loop-name-test.true (ap is_some (sym c.module_number.ensures ∙ c.in_err-module_number.was)))
