use Rattle.std.proofs.Common.{List, ◌+◌, arith, subst, sym, ◌∙◌}
use Rattle.ad_maps.specs.declared.view.Made.{Made}
use Rattle.ad_maps.specs.Private.Trials.{MayMove}
use Rattle.ad_maps.proofs.Trials.{none-out}
use Rattle.ad_maps.proofs.tests.open_moving.Goals as goal

pub returns-clause-may : goal.returns-clause-may
returns-clause-may c =
    let o = c.in_ok-maps.ensures in
    let modules = o.modules in
    subst (λ (gs : List Made). MayMove c.in_ok-maps.maps c.in_ok-maps.mover gs (1 + c.args.modules)) (sym c.new-outs.ensures.items) (record {
      table = o.table;
      frames = let f = o.frames in let few = c.requires.frames.1 in omega arith;
      pages = λ m low. o.pages m (omega arith);
      cells = λ m low. o.cells m (omega arith);
      currents = o.currents ∙ sym o.modules;
      current = λ m low. (let same = o.current m (omega arith) in omega arith);
      above = o.above;
      region = λ x there. (let l = o.region x there in omega arith);
      outs = none-out c.in_ok-maps.mover.outs;
    })
