use Rattle.std.proofs.Common.{sym, ◌∙◌}
use Rattle.ad_reloc.proofs.Low.{resolved_low}
use Rattle.ad_reloc.proofs.linking.Linking.offset_of.Goals as goal

pub movable_offset-requires : goal.movable_offset-requires
movable_offset-requires c =
    resolved_low c.args.self.now.layout.now.sizes c.args.self.now.layout.now.spots c.args.self.now.object.now.symbols c.args.symbol c.in-Some.resolved c.requires.small c.requires.symbols (sym c.resolve.ensures ∙ c.in-Some.is)
