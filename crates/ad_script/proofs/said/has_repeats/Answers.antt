use Rattle.std.proofs.Common.{◌∙◌, sym}
use Rattle.ad_script.proofs.Lists.{no_repeats, repeats_found, repeats_later}
use Rattle.ad_script.proofs.said.has_repeats.Goals as goal

pub returns-then-is_among : goal.returns-then-is_among
returns-then-is_among c =
    sym (sym c.loop-rest.invariant ∙ repeats_found c.loop-rest.rest.now _ c.in-len1-up.len_at_least (sym c.is_among.ensures ∙ c.if-is_among.true))

pub loop-rest-preserved : goal.loop-rest-preserved
loop-rest-preserved c =
    repeats_later c.loop-rest.rest.now _ c.in-len1-up.len_at_least (sym c.is_among.ensures ∙ c.if-is_among.false) ∙ c.loop-rest.invariant

pub returns : goal.returns
returns c = sym (sym c.loop-rest.invariant ∙ no_repeats c.loop-rest.rest.now c.in_default.len_below)
