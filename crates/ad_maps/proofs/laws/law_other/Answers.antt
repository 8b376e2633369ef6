use Rattle.ad_maps.proofs.WorkerLaws.{page_law, cell_law}
use Rattle.ad_maps.proofs.MoverLaws.{look_law, take_law, fill_law}
use Rattle.ad_maps.proofs.FreeLaws.{member_law, give_law}
use Rattle.ad_maps.proofs.OpenLaw.{open_law, push_law, settle_law}
use Rattle.ad_maps.proofs.PayLaw.{pay_law}
use Rattle.ad_maps.proofs.SeatLaws.{split_law, join_law}
use Rattle.ad_maps.proofs.laws.law_other.Goals as goal

pub returns : goal.returns
returns c = record { page = page_law; cell = cell_law; look = look_law; take = take_law; fill = fill_law; opened = open_law; push = push_law; settle = settle_law; pay = pay_law; member = member_law; give = give_law; split = split_law; join = join_law }
