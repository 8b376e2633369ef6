use Rattle.ad_generator.proofs.Linked.{each_image}
use Rattle.ad_generator.proofs.laws.law_images.Goals as goal

pub returns : goal.returns
returns c = each_image
