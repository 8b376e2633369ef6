use Rattle.std.proofs.Common.{sym, ◌∙◌}
use Rattle.ad_reloc.proofs.Low.{resolved_low}
use Rattle.ad_reloc.proofs.linking.Linking.word_of.Goals as goal

pub address_of-requires : goal.address_of-requires
address_of-requires c =
    resolved_low c.args.self.now.layout.now.sizes c.args.self.now.layout.now.spots c.args.self.now.object.now.symbols c.args.symbol c.in-Some.resolved c.requires.small c.requires.symbols (sym c.resolve.ensures ∙ c.in-Some.is)
