use Rattle.ad_command.specs.declared.trouble.Trouble.TheVariants.{Memory}
use Rattle.ad_command.specs.Loading.{built_of}
use Rattle.ad_command.proofs.Chains.{serves-memory}
use Rattle.ad_command.proofs.Loads.{handed_on, module-made}
use Rattle.ad_command.proofs.load.plan_built.Goals as goal

pub returns-in_err-file : goal.returns-in_err-file
returns-in_err-file c = λ o.
    let same = handed_on c.from_residual.result Memory c.from_residual.ensures.1 in
    rw same (serves-memory o (built_of c.args.name.now))

pub returns : goal.returns
returns c = λ o.
    let said = rw (c.deref.ensures.value, c.in_ok-file.ensures) at c.parse_module.ensures in
    module-made o c.args.name.now c.parse_module.result said.planned said.fault
