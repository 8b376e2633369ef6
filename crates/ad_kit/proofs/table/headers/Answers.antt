use Rattle.std.proofs.Common.{◌≡◌, ℕ, ◌+◌, ◌-◌, List, [], ◌∷◌, codes, length, flat_map, ap, ap₂, ◌∙◌, arith}
use Rattle.ad_kit.specs.ObjectFile.{end_of, headers_behind, names_of, null_header, place, section_names, strings_header, symbols_header, to_names, to_strings}
use Rattle.ad_kit.proofs.Numbers.{place_of_last, three_more}
use Rattle.ad_kit.proofs.table.headers.Goals as goal

pub returns-clause-headers : goal.returns-clause-headers
returns-clause-headers c =
    let ss = c.args.sections.now in
    let ys = c.args.symbols.now in
    let us = section_names ss in
    let last = c.section_count-table.result - 1 in
    let one : last + 1 ≡ length (flat_map names_of ss) + 1 = omega (arith, c.section_count-table.ensures.count) in
    let two : last + 2 ≡ length (flat_map names_of ss) + 2 = omega (arith, c.section_count-table.ensures.count) in
    let second : c.entry-name-2.result ≡ place us (codes ".strtab") = c.entry-name-2.ensures ∙ (place_of_last ss us c.as_slice-2.result.now (last + 1) 1 (c.as_slice-2.ensures.value ∙ c.requires.names.places) one (omega arith)).1 in
    let third : c.entry-name-3.result ≡ place us (codes ".shstrtab") = c.entry-name-3.ensures ∙ (place_of_last ss us c.as_slice-3.result.now (last + 2) 2 (c.as_slice-3.ensures.value ∙ c.requires.names.places) two (omega arith)).1 in
    let of_strings = c.strings_header.ensures ∙ ap₂ (λ (n at : ℕ). strings_header n at (length c.args.strings.now.bytes.items)) second c.requires.places.strings ∙ ap (λ (b : List ℕ). strings_header (place us (codes ".strtab")) (end_of (to_strings ss ys)) (length b)) c.requires.strings.bytes in
    let of_names = c.strings_header-2.ensures ∙ ap₂ (λ (n at : ℕ). strings_header n at (length c.args.names.now.bytes.items)) third c.requires.places.names ∙ ap (λ (b : List ℕ). strings_header (place us (codes ".shstrtab")) (end_of (to_names ss ys)) (length b)) c.requires.names.bytes in
    three_more (null_header ∷ headers_behind ss [] ss) _ _ _ _ _ _ _ (symbols_header ss ys) _ _ c.in_ok-headers.ensures.headers c.in_ok-push.ensures.items c.in_ok-push-2.ensures.items c.in_ok-push-3.ensures.items c.symbols_header.ensures of_strings of_names
