use Rattle.ad_command.specs.declared.trouble.Trouble.TheVariants.{Memory}
use Rattle.ad_command.specs.Loading.{script_built}
use Rattle.ad_command.proofs.Chains.{serves-memory}
use Rattle.ad_command.proofs.Loads.{handed_on, script-made}
use Rattle.ad_command.proofs.load.script_built.Goals as goal

pub returns-in_err-text-clause-serves : goal.returns-in_err-text-clause-serves
returns-in_err-text-clause-serves c = λ o.
    let same = handed_on c.from_residual.result Memory c.from_residual.ensures.1 in
    rw same (serves-memory o (script_built c.args.number))

pub returns-clause-serves : goal.returns-clause-serves
returns-clause-serves c = λ o.
    let said = rw (c.deref.ensures.value, c.in_ok-text.ensures) at c.parse_script.ensures in
    script-made o c.args.number c.parse_script.result said.script said.fault
