use Rattle.ad_stacks.proofs.InOrder.{in_order}
use Rattle.ad_stacks.proofs.laws.law_rows_in_order.Goals as goal

pub returns : goal.returns
returns c = in_order
