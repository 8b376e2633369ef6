use Rattle.ad_events.proofs.WorkedRow.{lawful as lawful_here}
use Rattle.ad_events.proofs.laws.law_worked_row_is_lawful.Goals as goal

pub returns : goal.returns
returns c = record { lawful = lawful_here }
