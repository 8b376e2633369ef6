use Rattle.ad_run.proofs.Asked.{calls-ask-for-all, lawful-data}
use Rattle.ad_run.proofs.laws.law_calls_ask_for_all.Goals as goal

pub returns-clause-asked : goal.returns-clause-asked
returns-clause-asked c = λ slots frames l script o closed to_run ran. calls-ask-for-all slots frames l script o closed to_run ran

pub returns-clause-data : goal.returns-clause-data
returns-clause-data c = λ i fuel b lawful. lawful-data i fuel b lawful
