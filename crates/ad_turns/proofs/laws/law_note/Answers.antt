use Rattle.ad_turns.proofs.TurnLaws.{note_law}
use Rattle.ad_turns.proofs.laws.law_note.Goals as goal

pub returns : goal.returns
returns c = note_law
