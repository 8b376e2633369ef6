use Rattle.ad_relate.proofs.Comparisons.{holds-stand}
use Rattle.ad_relate.proofs.Values.{aligned, conjunction-stands, difference-stands, other-stands, sum-stands}
use Rattle.ad_relate.proofs.laws.law_values.Goals as goal

pub returns : goal.returns
returns c = record {
  sum = sum-stands;
  difference = difference-stands;
  conjunction = conjunction-stands;
  other = other-stands;
  comparison = holds-stand;
  alignment = aligned;
}
