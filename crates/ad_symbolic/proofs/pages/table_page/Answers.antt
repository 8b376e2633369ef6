use Rattle.std.proofs.Common.{◌≡◌, ◌∙◌, IfOk, ap, subst, arith}
use Rattle.std.specs.List.{flat_map}
use Rattle.std.proofs.lemmas.List.{take_all}
use Rattle.byteorder.specs.Endian.{little_bytes}
use Rattle.ad_base.specs.declared.layout.TheConstants.{PAGE_BYTES}
use Rattle.ad_base.specs.Image.{zeros}
use Rattle.ad_symbolic.specs.AddressSpace.{numbers_of}
use Rattle.ad_symbolic.proofs.Filled.{filled}
use Rattle.ad_symbolic.proofs.pages.table_page.Goals as goal

pub returns-clause-items : goal.returns-clause-items
unfolding zeros
returns-clause-items c =
    let l = c.loop-word in
    let words = c.args.words.now in
    let same =
    c.as_slice.ensures.value ∙ c.in_ok-resize.ensures.items
    ∙ filled PAGE_BYTES l.bytes.len l.bytes.items (flat_map (little_bytes 8) words) 0 (l.invariant.0 ∙ ap (flat_map (little_bytes 8)) (take_all l.word-index words c.loop-word-test.false)) l.bytes.ok.0 (omega (arith, l.invariant.1, c.requires, l.auto.word-index-end)) in
    subst (λ xs. IfOk c.numbers.result (λ v. v.items ≡ numbers_of xs)) same c.numbers.ensures.items
