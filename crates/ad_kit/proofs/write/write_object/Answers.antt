use Rattle.std.proofs.Common.{◌≡◌, ℕ, ◌+◌, List, ◌++◌, ◌<◌, flat_map, length, subst, take, sum_by, sym, ap, ap₂, ◌∙◌, arith}
use Rattle.ad_kit.specs.ObjectFile.{end_of, file_header, header, header_of, headers, null_header, number, object_file}
use Rattle.std.specs.List.{All}
use Rattle.std.proofs.lemmas.List.Elements.{All-from_get_or, All-same}
use Rattle.ad_elf.specs.Refusals.{IsObject}
use Rattle.ad_kit.specs.ReadBack.{IsSectionFit, no_section, number_behind, object_of, section_behind}
use Rattle.ad_kit.specs.Private.Written.{IsHeaderFit}
use Rattle.ad_kit.specs.declared.header.Header.{Header}
use Rattle.ad_kit.specs.declared.object.KitSection.{KitSection}
use Rattle.ad_kit.specs.declared.object.KitSymbol.{KitSymbol}
use Rattle.ad_kit.proofs.Counted.{header_given, length-headers}
use Rattle.ad_kit.proofs.Headed.{number_small}
use Rattle.ad_kit.proofs.Readable.{IsObject-written}
use Rattle.ad_kit.proofs.Numbers.{header_names-short, names-short}
use Rattle.ad_kit.proofs.write.write_object.Goals as goal

pub strings_of-requires : goal.strings_of-requires
strings_of-requires c =
    let same = ap (λ (ns : List (List ℕ)). sum_by (λ (n : List ℕ). length n + 1) ns) (c.as_slice.ensures.value ∙ c.in_ok-all_names.ensures) in
    omega (arith, same, header_names-short c.args.sections.now, c.requires.short_names, c.requires.few)

pub strings_of-requires-2 : goal.strings_of-requires-2
strings_of-requires-2 c =
    let same = ap (λ (ns : List (List ℕ)). sum_by (λ (n : List ℕ). length n + 1) ns) (c.as_slice-2.ensures.value ∙ c.in_ok-all_strings.ensures) in
    omega (arith, same, names-short c.args.symbols.now, c.requires.short_names, c.requires.few)

pub returns-clause-bytes : goal.returns-clause-bytes
unfolding object_file
returns-clause-bytes c =
    let bytes = c.in_ok-places.ensures.bytes in
    let count : c.len.result ≡ number c.args.sections.now + 3 = omega (arith, c.len.ensures, c.in_ok-headers.ensures.count, c.in_ok-headers.headers.ok.0) in
    let table = c.end_of.ensures.value ∙ ap end_of (c.as_slice-3.ensures.value ∙ bytes) in
    let first = c.in_ok-put_file_header.ensures ∙ ap (λ (z : List ℕ). z ++ file_header c.end_of.result c.len.result) c.new-file.ensures.items ∙ ap₂ file_header table count in
    let second = c.in_ok-append.ensures.items ∙ ap₂ (λ (a b : List ℕ). a ++ b) first bytes in
    c.in_ok-put_headers.ensures.bytes ∙ ap₂ (λ (a : List ℕ) (hs : List Header). a ++ flat_map header hs) second (c.as_slice-4.ensures.value ∙ c.in_ok-headers.ensures.headers)

-- the numbers of a section fit where those of its header do
section_fits : (ss : List KitSection) (ys : List KitSymbol) → All IsHeaderFit (headers ss ys) → (k : ℕ) → k < length ss → IsSectionFit (section_behind ss k)
unfolding header_of
section_fits ss ys fit k below =
    let inside : number_behind ss k < length (headers ss ys) = omega (arith, length-headers ss ys, number_small ss k below) in
    let here : IsHeaderFit (header_of ss (take k ss) (section_behind ss k)) = subst IsHeaderFit (header_given ss ys k below) (fit (number_behind ss k) null_header inside) in
    record { typ = here.typ; flags = here.flags; size = here.size }

pub returns-clause-fit : goal.returns-clause-fit
returns-clause-fit c =
    let ss = c.args.sections.now in
    let ys = c.args.symbols.now in
    let all = All-same IsHeaderFit (headers ss ys) _ (sym (c.as_slice-4.ensures.value ∙ c.in_ok-headers.ensures.headers)) c.in_ok-put_headers.ensures.fit in
    record {
      sections = All-from_get_or IsSectionFit ss no_section (section_fits ss ys all);
      relas = c.in_ok-places.ensures.relas;
      symbols = c.in_ok-places.ensures.symbols;
      file = omega (arith, ap length (returns-clause-bytes c), c.put_headers.new.file.ok.0, c.put_headers.new.file.small);
    }

pub returns-clause-read : goal.returns-clause-read
returns-clause-read c = λ good. subst (λ (file : List ℕ). IsObject file (object_of c.args.sections.now c.args.symbols.now)) (sym (returns-clause-bytes c)) (IsObject-written c.args.sections.now c.args.symbols.now c.requires (returns-clause-fit c) good)
