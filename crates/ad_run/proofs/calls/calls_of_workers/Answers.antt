use Rattle.std.proofs.Common.{◌+◌, ◌∷◌, [], ◌++◌, ◌∙◌, ap, length, map, sym, arith}
use Rattle.std.proofs.lemmas.List.{length_push, map_push}
use Rattle.std.proofs.lemmas.List.FromFn.{map-range_with_len_more}
use Rattle.ad_run.specs.Calls.{calls_of_worker}
use Rattle.ad_run.proofs.calls.calls_of_workers.Goals as goal

pub loop-worker-preserved : goal.loop-worker-preserved
loop-worker-preserved c =
    let l = c.loop-worker in
    let calls = c.in_ok-calls_of_worker.field-0 in
    record {
      count = ap length c.in_ok-push.ensures.items ∙ length_push l.lists.items calls ∙ ap (λ n. n + 1) l.invariant.count;
      calls =
          ap (map (λ list. list.items)) c.in_ok-push.ensures.items
          ∙ map_push (λ list. list.items) l.lists.items calls
          ∙ (λ j. l.invariant.calls j ++ c.in_ok-calls_of_worker.ensures j ∷ [])
          ∙ sym (map-range_with_len_more (λ w. calls_of_worker w c.args.steps.now) 0 l.worker l.worker (omega arith));
    }
