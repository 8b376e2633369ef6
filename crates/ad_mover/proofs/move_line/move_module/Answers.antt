use Rattle.std.proofs.Common.{refl, sym, subst}
use Rattle.ad_mover.specs.Moves.{retired_by}
use Rattle.ad_mover.specs.Seen.{moving, HasDrawn}
use Rattle.ad_mover.proofs.Lines.{came-to, drawn-outcome}
use Rattle.ad_mover.proofs.move_line.move_module.Goals as goal

pub returns-clause-moved : goal.returns-clause-moved
returns-clause-moved c =
    let shape = c.args.shared.now.maps.shape in
    let comes = c.try_module-end.ensures.comes in record {
      retires = retired_by c.args.line c.args.module c.args.mover.now.seat.current comes.outcome;
      moved = record {
        outcome = comes.outcome;
        may = comes.may;
        is = came-to shape c.args.line c.args.module c.args.mover.now c.try_module-end.new.mover c.try_module-end.result c.push_reserved.new.self.items comes c.try_module-end.ensures.others c.push_reserved.ensures.items;
        out = refl;
      };
      out = comes.out c.args.line;
    }

pub returns-clause-drawn : goal.returns-clause-drawn
returns-clause-drawn c =
    let shape = c.args.shared.now.maps.shape in
    let openings = c.args.shared.now.stacks.openings in
    let comes = c.try_module-end.ensures.comes in
    subst (HasDrawn shape openings) (sym (came-to shape c.args.line c.args.module c.args.mover.now c.try_module-end.new.mover c.try_module-end.result c.push_reserved.new.self.items comes c.try_module-end.ensures.others c.push_reserved.ensures.items))
    (drawn-outcome shape openings c.args.line c.args.module (moving c.args.mover.now) comes.outcome c.requires.drawn comes.may)
