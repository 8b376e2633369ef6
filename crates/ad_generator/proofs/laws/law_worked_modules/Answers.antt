use Rattle.ad_generator.proofs.Worked.{built_file-sum, script_text-worked, steps-worked}
use Rattle.ad_generator.proofs.laws.law_worked_modules.Goals as goal

pub returns : goal.returns
returns c = record { sum = built_file-sum; script = script_text-worked; steps = steps-worked }
