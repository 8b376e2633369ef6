use Rattle.std.proofs.Common.{◌≡◌, ◌<◌, ◌∙◌, sym, ap, Some, None, Ok, length, arith}
use Rattle.ad_base.specs.declared.place.Place.{Place}
use Rattle.ad_base.specs.Layout.{size_of}
use Rattle.ad_base.specs.Segments.{Load}
use Rattle.ad_call.specs.Private.InPieces.{segments_in}
use Rattle.ad_call.proofs.Asks.{asked-missing, asked-number, asked-region}
use Rattle.ad_call.proofs.PiecesAt.{bytes_in, held-at, length-in, there}
use Rattle.ad_call.proofs.Reached.{loaded-none, loaded-region, loaded-some, offset-aligned}
use Rattle.ad_call.proofs.access.load_any.Goals as goal

pub returns-then-at-eq1-clause-found : goal.returns-then-at-eq1-clause-found
returns-then-at-eq1-clause-found g c = loaded-region c.args.size (segments_in c.args.pieces.now) c.args.at c.requires.aligned c.if-at-eq1.true

pub returns-then-at-eq1-clause-pages : goal.returns-then-at-eq1-clause-pages
returns-then-at-eq1-clause-pages g c =
    let b = c.args.pieces.now in
    let before = g.P.Pages.view c.args.pages.now in
    asked-region b.image.now b.under b.stack c.args.at c.args.size c.requires.aligned before before Load c.if-at-eq1.true

pub locate-requires-clause-sized : goal.locate-requires-clause-sized
locate-requires-clause-sized g c = ap (λ (p : Place). p.pages) c.requires.place ∙ c.args.pieces.now.sized

pub number-requires-clause-aligned : goal.number-requires-clause-aligned
number-requires-clause-aligned g c =
    let b = c.args.pieces.now in
    let spot = c.in-Some.spot in
    let is = there b (g.P.Pages.view c.args.pages.now).place c.args.at c.locate.result (Some spot) c.requires.place c.locate.ensures.spot c.in-Some.is in
    offset-aligned c.args.size c.args.at c.requires.size c.requires.aligned (bytes_in b) (segments_in b) spot (held-at b c.args.at (Some spot) is)

pub number-requires-clause-inside : goal.number-requires-clause-inside
number-requires-clause-inside g c =
    let b = c.args.pieces.now in
    let spot = c.in-Some.spot in
    let is = there b (g.P.Pages.view c.args.pages.now).place c.args.at c.locate.result (Some spot) c.requires.place c.locate.ensures.spot c.in-Some.is in
    let below : spot.offset < length (bytes_in b spot.role) = (held-at b c.args.at (Some spot) is).2 in
    let long : length (bytes_in b spot.role) ≡ size_of b.image.now spot.role = length-in b spot.role in
    omega arith

pub returns-in-Some-clause-found : goal.returns-in-Some-clause-found
returns-in-Some-clause-found g c =
    let b = c.args.pieces.now in
    let spot = c.in-Some.spot in
    let is = there b (g.P.Pages.view c.args.pages.now).place c.args.at c.locate.result (Some spot) c.requires.place c.locate.ensures.spot c.in-Some.is in
    loaded-some c.args.size (segments_in b) c.args.at c.requires.aligned (bytes_in b) spot c.if-at-eq1.false (held-at b c.args.at (Some spot) is) ∙ ap Ok (sym c.number.ensures.found)

pub returns-in-Some-clause-pages : goal.returns-in-Some-clause-pages
returns-in-Some-clause-pages g c =
    let b = c.args.pieces.now in
    let spot = c.in-Some.spot in
    let is = there b (g.P.Pages.view c.args.pages.now).place c.args.at c.locate.result (Some spot) c.requires.place c.locate.ensures.spot c.in-Some.is in
    asked-number b.image.now b.under b.stack c.args.at c.args.size c.requires.aligned (g.P.Pages.view c.args.pages.now) (g.P.Pages.view c.number.new.pages) (g.P.Pages.view c.locate.new.pages) spot c.if-at-eq1.false is
    c.locate.ensures.pages c.number.ensures.pages

pub returns-in-None-clause-found : goal.returns-in-None-clause-found
returns-in-None-clause-found g c =
    let b = c.args.pieces.now in
    let is = there b (g.P.Pages.view c.args.pages.now).place c.args.at c.locate.result None c.requires.place c.locate.ensures.spot c.in-None.is in
    loaded-none c.args.size (segments_in b) c.args.at c.requires.aligned c.if-at-eq1.false (held-at b c.args.at None is)

pub returns-in-None-clause-pages : goal.returns-in-None-clause-pages
returns-in-None-clause-pages g c =
    let b = c.args.pieces.now in
    let is = there b (g.P.Pages.view c.args.pages.now).place c.args.at c.locate.result None c.requires.place c.locate.ensures.spot c.in-None.is in
    asked-missing b.image.now b.under b.stack c.args.at c.args.size c.requires.aligned (g.P.Pages.view c.args.pages.now) (g.P.Pages.view c.locate.new.pages) c.if-at-eq1.false is c.locate.ensures.pages
