use Rattle.std.proofs.Common.{◌∙◌}
use Rattle.ad_parts.proofs.Fitted.{law_order, law_sections, law_symbols}
use Rattle.ad_reloc.proofs.Linkable.{begin_in_areas, sizes_small}
use Rattle.ad_reloc.proofs.applicable.link.Goals as goal

pub returns-clause-link : goal.returns-clause-link
returns-clause-link c =
    let o = c.args.object.now in
    let l = c.args.layout.now in
    record {
      order = law_order o l c.requires.range c.requires.laid;
      symbols = law_symbols o l c.requires.range c.requires.laid;
      spots = begin_in_areas l.sizes o.sections l.spots (law_sections o l c.requires.range c.requires.laid);
      small = sizes_small o l c.args.tables.now c.requires.laid c.requires.tables;
      highs = c.in_ok-of-3.ensures ∙ c.as_slice-3.ensures;
    }
