use Rattle.std.proofs.Common.{◌≡◌, List, [], ap, ap₂, find, inr, not, subst, sym, ◌∙◌}
use Rattle.std.specs.Option.{option_map}
use Rattle.ad_elf.specs.declared.object.Section.{Section}
use Rattle.ad_parts.specs.Layout.{ends, sizes, spots, spots_behind}
use Rattle.ad_parts.specs.Ends.{AreEnds, AreShort, is_aligned}
use Rattle.ad_parts.proofs.Arranged.{section_row-alignment, section_row-pages, option_map_none}
use Rattle.ad_parts.proofs.Fitted.{spots_lie}
use Rattle.ad_parts.proofs.Laid.{AreEnds-is, aligned_from}
use Rattle.ad_parts.proofs.arrange.lay_out.Goals as goal

pub returns-in-Some-clause-refused : goal.returns-in-Some-clause-refused
returns-in-Some-clause-refused c =
    let same = ap (λ (ss : List Section). option_map (λ (s : Section). s.index) (find (λ s. not (is_aligned s)) ss)) (sym c.as_slice-sections.ensures) in
    inr (section_row-alignment c.args.object.now c.in-Some.number (same ∙ sym c.first_misaligned.ensures ∙ c.in-Some.is))

pub ends_of-requires-clause-aligned : goal.ends_of-requires-clause-aligned
ends_of-requires-clause-aligned c = aligned_from c.as_slice-sections.result.now (option_map_none (λ (s : Section). s.index) _ (sym c.first_misaligned.ensures ∙ c.in_default.is))

pub returns-in-Err-clause-refused : goal.returns-in-Err-clause-refused
returns-in-Err-clause-refused c =
    let none = option_map_none (λ (s : Section). s.index) _ (sym c.first_misaligned.ensures ∙ c.in_default.is) in
    let aligned = ap (λ (ss : List Section). find (λ s. not (is_aligned s)) ss) (sym c.as_slice-sections.ensures) ∙ none in
    let ends = subst (λ (ss : List Section). AreEnds ss c.ends_of.result) c.as_slice-sections.ensures c.ends_of.ensures.ends in
    inr (section_row-pages c.args.object.now c.ends_of.result c.in-Err.pages aligned ends c.in-Err.ensures.over)

pub spots_of-requires-clause-aligned : goal.spots_of-requires-clause-aligned
spots_of-requires-clause-aligned c = aligned_from c.as_slice-sections.result.now (option_map_none (λ (s : Section). s.index) _ (sym c.first_misaligned.ensures ∙ c.in_default.is))

pub returns-clause-lie : goal.returns-clause-lie
returns-clause-lie c =
    let are = subst (λ (ss : List Section). AreEnds ss c.ends_of.result) c.as_slice-sections.ensures c.ends_of.ensures.ends in
    let short = subst (λ (ss : List Section). AreShort ss c.ends_of.result) c.as_slice-sections.ensures c.ends_of.ensures.short in
    let lie = spots_lie c.args.object.now c.ends_of.result c.requires are short c.in-Ok.ensures.over in
    let same : c.in_ok-spots.spots.items ≡ spots c.args.object.now.sections =
    c.in_ok-spots.ensures
    ∙ ap₂ (λ z ss. spots_behind z [] ss) (c.in-Ok.ensures.fine ∙ ap sizes (AreEnds-is c.args.object.now.sections c.ends_of.result are)) c.as_slice-sections.ensures in
    let sized : c.in-Ok.sizes ≡ sizes (ends c.args.object.now.sections) = c.in-Ok.ensures.fine ∙ ap sizes (AreEnds-is c.args.object.now.sections c.ends_of.result are) in
    rw (same, sized) lie
