use Rattle.std.proofs.Common.{◌∙◌}
use Rattle.ad_reloc.proofs.Indexes.{place-within}
use Rattle.ad_reloc.proofs.index.Index.place.Goals as goal

pub returns-clause-small : goal.returns-clause-small
returns-clause-small c = place-within c.self.inside.symbols.now c.args.symbol c.copied.result c.self.told.1 (c.copied.ensures ∙ c.get.ensures.value ∙ c.self.invariant.each_one c.args.symbol)
