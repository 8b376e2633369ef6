use Rattle.ad_parts.proofs.Fitted.{law_order, law_sections, law_symbols}
use Rattle.ad_parts.proofs.laws.law_areas.Goals as goal

pub returns : goal.returns
returns c = record { order = law_order; sections = law_sections; symbols = law_symbols }
