use Rattle.std.proofs.Common.{ap, refl, ◌∙◌}
use Rattle.ad_maps.specs.Steps.{but_all}
use Rattle.ad_mover.specs.Seen.{moving}
use Rattle.ad_mover.proofs.Drawing.{drawn-retired}
use Rattle.ad_mover.proofs.Lines.{but-all-itself}
use Rattle.ad_mover.proofs.move_line.move_line.Goals as goal

pub returns-clause-mover : goal.returns-clause-mover
returns-clause-mover g c =
    let middle = c.move_modules.new.mover in
    let seats = c.move_modules.ensures.seats in
    let retired = c.retire.ensures in record {
      in_maps = retired.table ∙ seats.in_maps;
      in_stacks = seats.in_stacks;
      no_fresh = retired.fresh ∙ seats.no_fresh;
      no_out = retired.outs ∙ (ap (but_all middle.outs.items) seats.outs ∙ but-all-itself middle.outs.items seats.differ);
      at_rest = retired.owing_nothing;
      drawn = drawn-retired c.args.shared.now.maps.shape c.args.shared.now.stacks.openings (moving middle) (record (moving middle) { deeds = c.retire.new.mover.deeds; current = c.retire.new.mover.current }) middle.outs.items c.args.line c.move_modules.ensures.drawn refl retired.deeds refl retired.current;
    }
