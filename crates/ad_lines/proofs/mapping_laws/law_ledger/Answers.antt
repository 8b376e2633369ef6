use Rattle.ad_base.specs.Ledger.{IsUnmappedOnce}
use Rattle.ad_lines.specs.LineLaws.{run_of_seed}
use Rattle.ad_lines.proofs.ListReads.{all-each}
use Rattle.ad_lines.proofs.Stale.{sound-run}
use Rattle.ad_lines.proofs.mapping_laws.law_ledger.Goals as goal

pub returns-clause-ledger : goal.returns-clause-ledger
returns-clause-ledger c = λ seed workers fuel images steps loaded are. (sound-run seed workers fuel images loaded steps are).sound.ledger

pub returns-clause-unmapped : goal.returns-clause-unmapped
returns-clause-unmapped c = λ seed workers fuel images steps loaded are.
    all-each IsUnmappedOnce (run_of_seed seed workers images fuel steps).placement.rows (sound-run seed workers fuel images loaded steps are).sound.once

pub returns-clause-places : goal.returns-clause-places
returns-clause-places c = λ seed workers fuel images steps loaded are. (sound-run seed workers fuel images loaded steps are).sound.places
