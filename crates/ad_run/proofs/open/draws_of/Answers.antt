use Rattle.std.proofs.Common.{ℕ, List, ◌∷◌, [], ◌++◌, ◌∙◌, Vec, Global, ap, length, map, refl, sym, take}
use Rattle.std.specs.List.{range_with_len}
use Rattle.std.proofs.lemmas.List.{map_push}
use Rattle.std.proofs.lemmas.Option.{slice_get_read}
use Rattle.ad_lines.proofs.Zips.{take-next}
use Rattle.ad_run.specs.Calls.{calls_at}
use Rattle.ad_wrapper.specs.declared.hands.Ready.{Ready}
use Rattle.ad_run.proofs.open.draws_of.Goals as goal

pub loop-list-preserved : goal.loop-list-preserved
loop-list-preserved c =
    let l = c.loop-list in
    let n = l.list-index in
    let lists = c.args.calls.now in
    let list = c.list-item.result in
    let draws : Vec Ready Global → List ℕ = λ xs. map (λ m. calls_at m xs.items) (range_with_len 0 c.args.modules) in
    let there = slice_get_read lists (length lists) n list refl c.loop-list-test.true c.list-item.is in
    let drawn = c.in_ok-draws_for.ensures ∙ ap (λ (calls : List Ready). map (λ m. calls_at m calls) (range_with_len 0 c.args.modules)) c.as_slice.ensures.value in
    c.in_ok-push.ensures.items
    ∙ (λ j. l.invariant j ++ drawn j ∷ [])
    ∙ sym (ap (map draws) (take-next lists n list there) ∙ map_push draws (take n lists) list)
