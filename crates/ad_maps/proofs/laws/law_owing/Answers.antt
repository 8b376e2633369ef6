use Rattle.ad_maps.proofs.OwingLaws.{pinned_law, counts_law, worker_owes_nothing_law, mover_owes_nothing_law, quiet_law}
use Rattle.ad_maps.proofs.laws.law_owing.Goals as goal

pub returns : goal.returns
returns c = record { pinned = pinned_law; counts = counts_law; worker = worker_owes_nothing_law; mover = mover_owes_nothing_law; quiet = quiet_law }
