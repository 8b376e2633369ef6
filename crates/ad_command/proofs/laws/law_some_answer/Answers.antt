use Rattle.ad_command.specs.Command.{command}
use Rattle.ad_command.proofs.SomeAnswer.{some-answer}
use Rattle.ad_command.proofs.laws.law_some_answer.Goals as goal

pub returns : goal.returns
returns c = λ files words. some-answer files (command words)
