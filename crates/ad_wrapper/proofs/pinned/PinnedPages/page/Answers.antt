use Rattle.std.proofs.Common.{false, Some}
use Rattle.ad_maps.specs.MapPlace.{cells_of}
use Rattle.ad_wrapper.proofs.Asking.{asking-page}
use Rattle.ad_wrapper.proofs.pinned.PinnedPages.page.Goals as goal

pub returns-clause-asked : goal.returns-clause-asked
returns-clause-asked c =
    let e = asking-page c.args.self.now.inside.seat.acts c.translate.new.inside.seat.acts c.args.va c.translate.ensures.asked c.translate.ensures.not_asked in
    λ j. record {
      place = c.translate.ensures.place j;
      cells = cells_of c.args.self.now.maps.now.shape (c.translate.ensures.of_module j);
      origin = record { table = c.translate.ensures.table j; worker = c.translate.ensures.worker j; acts = (e j).begun; at_rest = false };
      asked = Some (e j).asked;
    }
