use Rattle.std.proofs.Common.{◌∙◌, refl, ap, Some, None}
use Rattle.ad_base.specs.declared.place.Place.{Place}
use Rattle.ad_base.specs.Segments.{Store}
use Rattle.ad_call.specs.Private.InPieces.{segments_in}
use Rattle.ad_call.proofs.Asks.{asked-page, asked-region}
use Rattle.ad_call.proofs.PiecesAt.{held-at, there}
use Rattle.ad_call.proofs.Reached.{stored-none, stored-region}
use Rattle.ad_call.proofs.access.store_any.Goals as goal

pub returns-then-at-eq1-clause-segments : goal.returns-then-at-eq1-clause-segments
returns-then-at-eq1-clause-segments g c = (stored-region c.args.size (segments_in c.args.pieces.now) c.args.at c.requires.aligned c.args.value c.if-at-eq1.true, refl)

pub returns-then-at-eq1-clause-pages : goal.returns-then-at-eq1-clause-pages
returns-then-at-eq1-clause-pages g c =
    let b = c.args.pieces.now in
    let before = g.P.Pages.view c.args.pages.now in
    asked-region b.image.now b.under b.stack c.args.at c.args.size c.requires.aligned before before Store c.if-at-eq1.true

pub locate-requires-clause-sized : goal.locate-requires-clause-sized
locate-requires-clause-sized g c = ap (λ (p : Place). p.pages) c.requires.place ∙ c.args.pieces.now.sized

pub store-requires-clause-spot : goal.store-requires-clause-spot
store-requires-clause-spot g c =
    there c.args.pieces.now (g.P.Pages.view c.args.pages.now).place c.args.at c.locate.result (Some c.in-Some.spot) c.requires.place c.locate.ensures.spot c.in-Some.is

pub returns-in-Some-clause-pages : goal.returns-in-Some-clause-pages
returns-in-Some-clause-pages g c =
    let b = c.args.pieces.now in
    asked-page b.image.now b.under b.stack c.args.at c.args.size c.requires.aligned (g.P.Pages.view c.args.pages.now) (g.P.Pages.view c.locate.new.pages) Store refl c.if-at-eq1.false c.locate.ensures.pages

pub returns-in-None-clause-segments : goal.returns-in-None-clause-segments
returns-in-None-clause-segments g c =
    let b = c.args.pieces.now in
    let is = there b (g.P.Pages.view c.args.pages.now).place c.args.at c.locate.result None c.requires.place c.locate.ensures.spot c.in-None.is in
    (stored-none c.args.size (segments_in b) c.args.at c.requires.aligned c.args.value c.if-at-eq1.false (held-at b c.args.at None is), refl)

pub returns-in-None-clause-pages : goal.returns-in-None-clause-pages
returns-in-None-clause-pages g c =
    let b = c.args.pieces.now in
    asked-page b.image.now b.under b.stack c.args.at c.args.size c.requires.aligned (g.P.Pages.view c.args.pages.now) (g.P.Pages.view c.locate.new.pages) Store refl c.if-at-eq1.false c.locate.ensures.pages
