use Rattle.std.proofs.Common.{◌≡◌, ◌∙◌, ◌<◌, ◌≤◌, ap, arith, is_some, take, rules, sym, tests, length, length-take}
use Rattle.std.specs.List.{before_first, list_any, position_or_len}
use Rattle.std.proofs.lemmas.Iterator.{YieldsList-from_slice}
use Rattle.std.proofs.lemmas.Iterator.Search.{position_from_yields_List}
use Rattle.std.proofs.lemmas.List.{length-take-le}
use Rattle.ad_elf.specs.File.{has_string, is_zero, string_at}
use Rattle.ad_elf.proofs.Ends.{first_among, is_some-found, some_place}
use Rattle.ad_elf.proofs.strings.string_at.Goals as goal

pub returns-in_err-end-clause-there : goal.returns-in_err-end-clause-there
unfolding has_string
returns-in_err-end-clause-there c =
    let found = position_from_yields_List is_zero _ _ c.position.result c.position.ensures.ran (YieldsList-from_slice c.first_bytes.result.now cc) (λ x b q k. search (rules, tests)) in
    let bytes = c.first_bytes.ensures ∙ ap (take 4097) c.strings_from-from.ensures in
    ap is_some c.from_residual.ensures ∙ ap is_some (sym c.in_err-end.was) ∙ is_some-found is_zero c.first_bytes.result.now c.position.result found ∙ ap (list_any is_zero) bytes

pub slice_bounds-result-end : goal.slice_bounds-result-end
slice_bounds-result-end c =
    let found = position_from_yields_List is_zero _ _ c.position.result c.position.ensures.ran (YieldsList-from_slice c.first_bytes.result.now cc) (λ x b q k. search (rules, tests)) in
    let here = some_place is_zero c.first_bytes.result.now c.position.result c.in_ok-end.end c.in_ok-end.was found in
    let inside : c.in_ok-end.end ≤ length c.strings_from-from.result.now = omega (arith, here.0, here.1, ap length c.first_bytes.ensures, length-take 4097 c.strings_from-from.result.now) in
    sym (length-take-le c.in_ok-end.end c.strings_from-from.result.now inside)

pub returns-clause-there : goal.returns-clause-there
unfolding has_string
returns-clause-there c =
    let found = position_from_yields_List is_zero _ _ c.position.result c.position.ensures.ran (YieldsList-from_slice c.first_bytes.result.now cc) (λ x b q k. search (rules, tests)) in
    let bytes = c.first_bytes.ensures ∙ ap (take 4097) c.strings_from-from.ensures in
    ap is_some (sym c.in_ok-end.was) ∙ is_some-found is_zero c.first_bytes.result.now c.position.result found ∙ ap (list_any is_zero) bytes

pub returns-clause-string : goal.returns-clause-string
unfolding string_at
returns-clause-string c =
    let from = c.strings_from-from.result.now in
    let found = position_from_yields_List is_zero _ _ c.position.result c.position.ensures.ran (YieldsList-from_slice c.first_bytes.result.now cc) (λ x b q k. search (rules, tests)) in
    let here = some_place is_zero c.first_bytes.result.now c.position.result c.in_ok-end.end c.in_ok-end.was found in
    let bytes : c.first_bytes.result.now ≡ take 4097 from = c.first_bytes.ensures in
    let inside : position_or_len is_zero (take 4097 from) < length (take 4097 from) = (rw bytes at here.1) in
    let place : c.in_ok-end.end ≡ position_or_len is_zero from = here.0 ∙ ap (position_or_len is_zero) bytes ∙ first_among is_zero 4097 from inside in
    ap (λ n. take n from) place ∙ ap (before_first is_zero) c.strings_from-from.ensures
