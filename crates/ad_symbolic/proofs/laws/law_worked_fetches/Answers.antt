use Rattle.std.proofs.Common.{refl}
use Rattle.ad_symbolic.specs.AddressSpace.{fetched_value}
use Rattle.ad_symbolic.proofs.laws.law_worked_fetches.Goals as goal

pub returns : goal.returns
unfolding fetched_value
returns c = record {
  denied = λ i. refl;
  misaligned = λ i. refl;
  behind = λ i. refl;
  far_behind = λ i. refl;
  a_page_behind = λ i. refl;
  before = λ i. refl;
  far_before = λ i. refl;
  below_all_places = λ i. refl;
  above_all_places = λ i. refl;
}
