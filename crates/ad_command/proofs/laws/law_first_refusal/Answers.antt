use Rattle.ad_command.proofs.FirstRefusal.{command-export, command-large-module, command-large-script, command-large-shown, command-module, command-script, command-shown, no-command}
use Rattle.ad_command.proofs.laws.law_first_refusal.Goals as goal

pub returns-clause-words : goal.returns-clause-words
returns-clause-words c = no-command

pub returns-clause-large_script : goal.returns-clause-large_script
returns-clause-large_script c = command-large-script

pub returns-clause-script : goal.returns-clause-script
returns-clause-script c = λ files words operand seed line cause on short is. command-script files words operand seed on line cause short is

pub returns-clause-large_module : goal.returns-clause-large_module
returns-clause-large_module c = λ files words operand seed s linked l more images on script loads right long.
    command-large-module files words operand seed on s script linked l more images loads right long

pub returns-clause-module : goal.returns-clause-module
returns-clause-module c = λ files words operand seed s linked l more images r on script loads right refused.
    command-module files words operand seed on s script linked l more images loads right r refused

pub returns-clause-export : goal.returns-clause-export
returns-clause-export c = λ files words operand seed s images line on script right unready.
    command-export files words operand seed on s script images line right unready

pub returns-clause-large_shown : goal.returns-clause-large_shown
returns-clause-large_shown c = command-large-shown

pub returns-clause-shown : goal.returns-clause-shown
returns-clause-shown c = λ files words operand r said refused. command-shown files words operand said r refused
