use Rattle.ad_isa.proofs.OneRow.{decoded_is_word}
use Rattle.ad_isa.proofs.laws.law_table.Goals as goal

pub returns : goal.returns
returns c = decoded_is_word
