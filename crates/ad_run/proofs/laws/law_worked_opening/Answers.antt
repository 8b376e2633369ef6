use Rattle.std.proofs.Common.{refl}
use Rattle.rand_core.specs.Steps.{u32_at}
use Rattle.rand_chacha.specs.Block.{block_word, column_round, diagonal_round, double_rounds, quarter_round}
use Rattle.ad_lines.specs.Opening.{opening_drawn}
use Rattle.ad_place.specs.Choice.{next_place, random_word, regions_from, unused_region}
use Rattle.ad_run.proofs.laws.law_worked_opening.Goals as goal

pub returns-clause-mappings : goal.returns-clause-mappings
unfolding opening_drawn next_place unused_region regions_from random_word u32_at block_word double_rounds diagonal_round column_round quarter_round
returns-clause-mappings c = refl

pub returns-clause-modules : goal.returns-clause-modules
unfolding opening_drawn next_place unused_region regions_from random_word u32_at block_word double_rounds diagonal_round column_round quarter_round
returns-clause-modules c = refl
