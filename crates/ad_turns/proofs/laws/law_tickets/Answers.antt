use Rattle.ad_turns.proofs.DrawLaws.{tickets_law}
use Rattle.ad_turns.proofs.laws.law_tickets.Goals as goal

pub returns : goal.returns
returns c = tickets_law
