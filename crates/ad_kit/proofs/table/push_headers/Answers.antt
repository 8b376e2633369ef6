use Rattle.std.proofs.Common.{◌≡◌, ◌+◌, ◌-◌, flat_map, length, take, sym, ◌∙◌, arith}
use Rattle.ad_kit.specs.ObjectFile.{names_of, section_names}
use Rattle.ad_kit.proofs.Numbers.{place_of_relas, place_of_section}
use Rattle.ad_kit.proofs.table.push_headers.Goals as goal

pub header_of-requires-clause-name : goal.header_of-requires-clause-name
header_of-requires-clause-name c =
    let ss = c.args.sections.now in
    let at : c.len-number.result - 1 ≡ length (flat_map names_of (take c.args.k ss)) = omega (arith, c.len-number.ensures, c.requires.number, c.args.headers.now.ok.0) in
    c.entry-name.ensures ∙ (place_of_section ss (section_names ss) c.args.names.now c.args.k (c.len-number.result - 1) c.index-sections-k.result c.requires.names c.requires.below c.index-sections-k.is at).1

pub rela_header-requires-clause-name : goal.rela_header-requires-clause-name
rela_header-requires-clause-name c =
    let ss = c.args.sections.now in
    let at : c.len-number.result ≡ length (flat_map names_of (take c.args.k ss)) + 1 = omega (arith, c.len-number.ensures, c.requires.number, c.args.headers.now.ok.0) in
    c.entry-name-then-has_relas.ensures ∙ (place_of_relas ss (section_names ss) c.args.names.now c.args.k c.len-number.result c.index-sections-k.result c.requires.names c.requires.below c.index-sections-k.is (sym c.has_relas.ensures ∙ c.if-has_relas.true) at).1
