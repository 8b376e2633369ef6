use Rattle.ad_command.specs.Command.{command}
use Rattle.ad_command.proofs.Chains.{one_answer}
use Rattle.ad_command.proofs.laws.law_one_answer.Goals as goal

pub returns : goal.returns
returns c = λ files words names more due other g h. one_answer files (command words) names more due other g h
