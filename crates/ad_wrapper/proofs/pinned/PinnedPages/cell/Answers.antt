use Rattle.std.proofs.Common.{false, Some, ap, ◌∙◌}
use Rattle.ad_maps.specs.declared.view.Act.TheVariants.{Cell}
use Rattle.ad_maps.specs.MapPlace.{cells_of}
use Rattle.ad_wrapper.specs.Asking.{asking}
use Rattle.ad_wrapper.proofs.Asking.{asking-more}
use Rattle.ad_wrapper.proofs.pinned.PinnedPages.cell.Goals as goal

pub returns-clause-asked : goal.returns-clause-asked
returns-clause-asked c =
    let e = ap asking c.cell.ensures.acts ∙ asking-more c.args.self.now.inside.seat.acts (Cell c.args.entry) in
    λ j. record {
      place = c.cell.ensures.place j;
      cells = cells_of c.args.self.now.maps.now.shape (c.cell.ensures.of_module j);
      origin = record { table = c.cell.ensures.table j; worker = c.cell.ensures.worker j; acts = (e j).begun; at_rest = false };
      asked = Some (e j).asked;
    }
