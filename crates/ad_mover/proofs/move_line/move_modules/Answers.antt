use Rattle.std.proofs.Common.{◌≡◌, ℕ, ◌+◌, List, [], ◌∷◌, ◌++◌, length, take, refl, sym, ap, ◌∙◌, subst, arith}
use Rattle.std.proofs.lemmas.List.{take_more}
use Rattle.ad_maps.specs.declared.view.Deed.{Deed}
use Rattle.ad_mover.specs.Moves.{MovesModules}
use Rattle.ad_mover.specs.Seen.{moving}
use Rattle.ad_maps.specs.Seen.{retires_of}
use Rattle.ad_mover.proofs.Lines.{keeps-more, moves-more}
use Rattle.ad_mover.proofs.move_line.move_modules.Goals as goal

pub loop-index-init : goal.loop-index-init
loop-index-init c = record {
  moved = (ap (retires_of c.args.line) c.requires.outs, refl);
  seats = c.requires.seats;
  drawn = c.requires.drawn;
  few = let none = ap length c.requires.outs in omega arith;
  done = omega arith;
  room = record { who = refl; lanes = refl; outs_room = omega arith; done_room = refl };
}

pub loop-index-preserved : goal.loop-index-preserved
loop-index-preserved c =
    let shape = c.args.shared.now.maps.shape in
    let line = c.args.line in
    let so_far = c.loop-index.invariant in
    let next = c.move_module.ensures in
    let taken : take (c.loop-index.index + 1) c.args.modules.now ≡ take c.loop-index.index c.args.modules.now ++ c.get.result ∷ [] =
    take_more c.args.modules.now c.loop-index.index 0 (let long = c.len-index-end.ensures.value in let low = c.loop-index-test.true in omega arith) ∙ ap (λ (m : ℕ). take c.loop-index.index c.args.modules.now ++ m ∷ []) (sym c.get.ensures) in
    let more = moves-more shape line (take c.loop-index.index c.args.modules.now) c.get.result (moving c.args.mover.now) (moving c.loop-index.mover) (moving c.move_module.new.mover) (retires_of line c.loop-index.mover.outs.items) next.moved.retires so_far.moved next.moved.moved in
    record {
      moved = subst (λ (ms : List ℕ). MovesModules shape line ms (moving c.args.mover.now) (retires_of line c.move_module.new.mover.outs.items) (moving c.move_module.new.mover)) (sym taken)
          (subst (λ (rs : List Deed). MovesModules shape line (take c.loop-index.index c.args.modules.now ++ c.get.result ∷ []) (moving c.args.mover.now) rs (moving c.move_module.new.mover)) (sym next.moved.out) more);
      seats = next.seats;
      drawn = next.drawn;
      few = let old = so_far.few in let new = next.few in omega arith;
      done = let old = so_far.done in let new = next.done in omega arith;
      room = keeps-more c.args.mover.now c.loop-index.mover c.move_module.new.mover so_far.room next.room;
    }
