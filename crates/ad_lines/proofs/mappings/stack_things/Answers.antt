use Rattle.std.proofs.Common.{[], ◌∷◌, ◌++◌, ◌∙◌, ap, sym, arith}
use Rattle.std.proofs.lemmas.List.FromFn.{map-range_with_len_more}
use Rattle.ad_lines.specs.Private.Places.{stack_thing}
use Rattle.ad_lines.proofs.mappings.stack_things.Goals as goal

pub loop-who-preserved : goal.loop-who-preserved
loop-who-preserved c =
    let who = c.loop-who.who in
    c.in_ok-push.ensures.items ∙ ap (λ xs. xs ++ stack_thing who ∷ []) c.loop-who.invariant ∙ sym (map-range_with_len_more stack_thing 0 who who (omega arith))
