use Rattle.std.proofs.Common.{◌≡◌, List, [], ◌∷◌, ◌++◌, refl, sym, ap, ◌∙◌, subst}
use Rattle.ad_base.specs.declared.image.Image.{Image}
use Rattle.ad_base.specs.declared.ledger.Kind.TheVariants as kinds
use Rattle.ad_base.specs.Image.{movable_pages}
use Rattle.ad_maps.specs.declared.view.Made.{Made}
use Rattle.ad_maps.specs.MapPlace.{cells_of, opening_of}
use Rattle.ad_maps.specs.Steps.{but}
use Rattle.ad_mover.specs.Seen.{moving}
use Rattle.ad_mover.proofs.Lines.{but-itself, differ-more, Differ}
use Rattle.ad_mover.proofs.Rooms.{above-made, apart-made, at-image}
use Rattle.ad_place.specs.Choice.{next_place, with_next}
use Rattle.ad_mover.proofs.move_line.place_in.Goals as goal

pub map-mapped-requires-clause-above : goal.map-mapped-requires-clause-above
map-mapped-requires-clause-above c = above-made c.args.shared.now.maps.shape c.args.shared.now.stacks.openings (moving c.args.mover.now) c.requires.drawn c.next-place.result.mapping c.next-place.ensures.mapping

pub map-mapped-requires-clause-region : goal.map-mapped-requires-clause-region
map-mapped-requires-clause-region c = apart-made c.args.shared.now.maps.shape c.args.shared.now.stacks.openings (moving c.args.mover.now) c.requires.drawn c.next-place.result.region c.next-place.ensures.fresh

pub map-mapped-requires-clause-cells : goal.map-mapped-requires-clause-cells
map-mapped-requires-clause-cells c =
    let shape = c.args.shared.now.maps.shape in
    c.as_slice-2.ensures
    ∙ (at-image (λ (i : Image). i.cells ≡ cells_of shape c.args.module) c.args.shared.now.images c.as_slice.result.now c.args.module c.index-as_slice-module.result c.as_slice.ensures c.requires.in_range c.index-as_slice-module.is (c.requires.fits.cells c.args.module)
    ∙ ap (cells_of shape) (sym c.requires.room.of_module))

pub returns-clause-place : goal.returns-clause-place
returns-clause-place c =
    let shape = c.args.shared.now.maps.shape in
    let pages : c.movable_pages.result ≡ (opening_of shape c.args.module).place.pages =
    c.movable_pages.ensures ∙ at-image (λ (i : Image). movable_pages i ≡ (opening_of shape c.args.module).place.pages) c.args.shared.now.images c.as_slice.result.now c.args.module c.index-as_slice-module.result c.as_slice.ensures c.requires.in_range c.index-as_slice-module.is (c.requires.fits.pages c.args.module) in
    let drawn : c.next-place.result ≡ next_place c.args.mover.now.placer kinds.Code (opening_of shape c.args.module).place.pages = c.next-place.ensures.drawn ∙ ap (next_place c.args.mover.now.placer kinds.Code) pages in
    λ i. record (drawn i) { frame = c.frame.ensures i }

pub returns-clause-placer : goal.returns-clause-placer
returns-clause-placer c =
    let shape = c.args.shared.now.maps.shape in
    c.next-place.ensures.after
    ∙ ap (with_next c.args.mover.now.placer kinds.Code) (c.movable_pages.ensures
    ∙ at-image (λ (i : Image). movable_pages i ≡ (opening_of shape c.args.module).place.pages) c.args.shared.now.images c.as_slice.result.now c.args.module c.index-as_slice-module.result c.as_slice.ensures c.requires.in_range c.index-as_slice-module.is (c.requires.fits.pages c.args.module))

pub returns-clause-seats : goal.returns-clause-seats
returns-clause-seats c =
    let seats = c.requires.seats in
    let made = c.map-mapped.ensures in
    let switched = c.switch-out.ensures in
    let out = c.switch-out.result in
    let same = made.outs ∙ seats.outs in record {
      in_maps = switched.table ∙ (made.table ∙ seats.in_maps);
      in_stacks = seats.in_stacks;
      no_fresh = switched.fresh ∙ (ap (but c.map-mapped.result.place.mapping) (made.fresh ∙ ap (λ (gs : List Made). gs ++ c.map-mapped.result ∷ []) seats.no_fresh) ∙ but-itself c.map-mapped.result c.map-mapped.result.place.mapping refl);
      at_rest = switched.at_rest ∙ (made.at_rest ∙ seats.at_rest);
      outs = switched.outs ∙ (ap (λ (gs : List Made). gs ++ out ∷ []) same ∙ sym c.push_reserved.ensures.items);
      differ = subst Differ (sym c.push_reserved.ensures.items) (differ-more c.map-mapped.new.mover.outs c.args.mover.now.outs.items out same seats.differ switched.new);
    }
