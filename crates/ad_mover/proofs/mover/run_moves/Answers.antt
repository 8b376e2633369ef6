use Rattle.std.proofs.Common.{◌≡◌, ◌+◌, ◌≤◌, List, [], ◌∷◌, ◌++◌, get_or, take, sym, ap, ◌∙◌, subst, arith}
use Rattle.std.specs.List.{sum_by}
use Rattle.std.proofs.lemmas.List.{take_more}
use Rattle.std.proofs.lemmas.List.Sums.{sum_by_more, sum_by_more_le}
use Rattle.ad_script.specs.declared.script.Step.{Step}
use Rattle.ad_mover.specs.Moves.{MakesSteps}
use Rattle.ad_mover.specs.Seen.{moves_of, moving}
use Rattle.ad_mover.proofs.Lines.{keeps-more, makes-more}
use Rattle.ad_mover.proofs.mover.run_moves.Goals as goal

pub make_step-requires-clause-done : goal.make_step-requires-clause-done
make_step-requires-clause-done g c =
    let steps = c.args.steps.now in
    let i = c.loop-step.step-index in
    let part : sum_by moves_of (take i steps) + moves_of (get_or steps i c.step-item.result) ≤ sum_by moves_of steps = sum_by_more_le moves_of steps i c.step-item.result c.loop-step-test.true in
    let is : moves_of c.step-item.result ≡ moves_of (get_or steps i c.step-item.result) = ap moves_of c.step-item.is in
    let so_far = c.loop-step.invariant.done in
    let room = c.loop-step.invariant.room.done_room in
    let all = c.requires.done in
    omega arith

pub loop-step-preserved : goal.loop-step-preserved
loop-step-preserved g c =
    let shape = c.args.shared.now.maps.shape in
    let steps = c.args.steps.now in
    let i = c.loop-step.step-index in
    let so_far = c.loop-step.invariant in
    let next = c.make_step.ensures in
    let taken : take (i + 1) steps ≡ take i steps ++ c.step-item.result ∷ [] = take_more steps i c.step-item.result c.loop-step-test.true ∙ ap (λ (s : Step). take i steps ++ s ∷ []) (sym c.step-item.is) in
    let sum : sum_by moves_of (take (i + 1) steps) ≡ sum_by moves_of (take i steps) + moves_of (get_or steps i c.step-item.result) = sum_by_more moves_of steps i c.step-item.result c.loop-step-test.true in
    let is : moves_of c.step-item.result ≡ moves_of (get_or steps i c.step-item.result) = ap moves_of c.step-item.is in record {
      made = subst (λ (list : List Step). MakesSteps shape list (moving c.args.mover) (moving c.make_step.new.mover)) (sym taken)
          (makes-more shape (take i steps) c.step-item.result (moving c.args.mover) (moving c.loop-step.mover) (moving c.make_step.new.mover) so_far.made next.made);
      mover = next.mover;
      outs = next.outs;
      done = let old = so_far.done in let new = next.done in omega arith;
      room = keeps-more c.args.mover c.loop-step.mover c.make_step.new.mover so_far.room next.room;
    }
