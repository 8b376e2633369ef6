use Rattle.ad_maps.proofs.Pinned.{own_pages_law, own_cells_law}
use Rattle.ad_maps.proofs.laws.law_own_pages.Goals as goal

pub returns : goal.returns
returns c = record { pages = own_pages_law; cells = own_cells_law }
