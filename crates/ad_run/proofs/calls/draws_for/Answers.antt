use Rattle.std.proofs.Common.{◌∷◌, [], ◌++◌, ◌∙◌, sym, arith}
use Rattle.std.proofs.lemmas.List.FromFn.{map-range_with_len_more}
use Rattle.ad_run.specs.Calls.{calls_at}
use Rattle.ad_run.proofs.calls.draws_for.Goals as goal

pub loop-module-preserved : goal.loop-module-preserved
loop-module-preserved c =
    c.in_ok-push.ensures.items
    ∙ (λ j. c.loop-module.invariant j ++ c.calls_at.ensures j ∷ [])
    ∙ sym (map-range_with_len_more (λ m. calls_at m c.args.calls.now) 0 c.loop-module.«module» c.loop-module.«module» (omega arith))
