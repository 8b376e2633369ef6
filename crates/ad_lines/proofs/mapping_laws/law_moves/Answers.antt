use Rattle.ad_lines.proofs.Drawing.{ends-are, moves-made, moves-rise, parts-are, places-are, stacks-are}
use Rattle.ad_lines.proofs.Stale.{sound-run}
use Rattle.ad_lines.proofs.mapping_laws.law_moves.Goals as goal

pub returns-clause-moves : goal.returns-clause-moves
returns-clause-moves c = λ seed workers fuel images steps loaded are. moves-made seed workers fuel images steps loaded are

pub returns-clause-order : goal.returns-clause-order
returns-clause-order c = λ seed workers fuel images steps loaded are. moves-rise seed workers fuel images steps loaded are

pub returns-clause-ends : goal.returns-clause-ends
returns-clause-ends c = λ seed workers fuel images steps loaded are. ends-are seed workers fuel images steps loaded are

pub returns-clause-places : goal.returns-clause-places
returns-clause-places c = λ seed workers fuel images steps loaded are. places-are seed workers fuel images steps loaded are

pub returns-clause-few : goal.returns-clause-few
returns-clause-few c = λ seed workers fuel images steps loaded are. (sound-run seed workers fuel images loaded steps are).sound.few

pub returns-clause-parts : goal.returns-clause-parts
returns-clause-parts c = λ seed workers fuel images steps loaded are. parts-are seed workers fuel images steps loaded are

pub returns-clause-stacks : goal.returns-clause-stacks
returns-clause-stacks c = λ seed workers fuel images steps loaded are. stacks-are seed workers fuel images steps loaded are
