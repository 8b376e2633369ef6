use Rattle.ad_command.proofs.Worked.{a-refused-line, no-lines, no-operand, no-script, no-task, other-option, too-many-slots}
use Rattle.ad_command.proofs.laws.law_worked_chains.Goals as goal

pub returns-clause-task : goal.returns-clause-task
returns-clause-task c = no-task

pub returns-clause-operand : goal.returns-clause-operand
returns-clause-operand c = no-operand

pub returns-clause-lines : goal.returns-clause-lines
returns-clause-lines c = no-lines

pub returns-clause-no_script : goal.returns-clause-no_script
returns-clause-no_script c = no-script

pub returns-clause-slots : goal.returns-clause-slots
returns-clause-slots c = too-many-slots

pub returns-clause-other_option : goal.returns-clause-other_option
returns-clause-other_option c = other-option

pub returns-clause-script : goal.returns-clause-script
returns-clause-script c = a-refused-line
