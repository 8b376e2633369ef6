use Rattle.ad_run.proofs.Stale.{nothing-elsewhere, own-addresses}
use Rattle.ad_run.proofs.Traps.{trapped-elsewhere}
use Rattle.ad_run.proofs.laws.law_stale_addresses.Goals as goal

pub returns-clause-apart : goal.returns-clause-apart
returns-clause-apart c = λ slots frames l script o closed to_run ran. own-addresses slots frames l script o closed to_run ran

pub returns-clause-nothing : goal.returns-clause-nothing
returns-clause-nothing c = λ slots frames l script o closed to_run ran. nothing-elsewhere slots frames l script o closed to_run ran

pub returns-clause-turns : goal.returns-clause-turns
returns-clause-turns c = λ slots frames l script o closed to_run ran. trapped-elsewhere slots frames l script o closed to_run ran
