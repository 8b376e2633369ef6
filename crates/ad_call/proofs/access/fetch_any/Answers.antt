use Rattle.std.proofs.Common.{◌≡◌, ℕ, ◌+◌, ◌%◌, ◌≤◌, ◌∙◌, inl, inr, refl, sym, ap, Some, None, length, arith}
use Rattle.ad_base.specs.declared.layout.TheConstants.{FETCH_BYTES}
use Rattle.ad_base.specs.declared.place.Place.{Place}
use Rattle.ad_base.specs.Layout.{size_of}
use Rattle.ad_base.specs.Segments.{Fetch}
use Rattle.ad_call.specs.declared.pieces.Pieces.{Pieces}
use Rattle.ad_call.specs.declared.spot.Spot.{Spot}
use Rattle.ad_call.specs.Private.InPieces.{segments_in}
use Rattle.ad_call.specs.Private.Spots.{spot_at}
use Rattle.ad_call.proofs.Asks.{asked-page, asked-region}
use Rattle.ad_call.proofs.PiecesAt.{bytes_in, fits-at, held-at, length-in, there}
use Rattle.ad_call.proofs.Reached.{fetched-gate, fetched-none, fetched-region, fetched-some}
use Rattle.ad_call.proofs.access.fetch_any.Goals as goal

-- a word lies inside its piece
word-inside : (b : Pieces) (at : ℕ) (spot : Spot) → at % FETCH_BYTES ≡ 0 → spot_at b.image.now b.under b.stack at ≡ Some spot → spot.offset + FETCH_BYTES ≤ size_of b.image.now spot.role
word-inside b at spot aligned is =
    let inside : spot.offset + FETCH_BYTES ≤ length (bytes_in b spot.role) = fits-at b FETCH_BYTES at spot (inr (inr (inl refl))) aligned is in
    let long : length (bytes_in b spot.role) ≡ size_of b.image.now spot.role = length-in b spot.role in
    omega arith

pub returns-then-at-eq-GATE-clause-found : goal.returns-then-at-eq-GATE-clause-found
returns-then-at-eq-GATE-clause-found g c = sym (fetched-gate (segments_in c.args.pieces.now) c.args.at c.if-at-eq-GATE.true)

pub returns-then-at-eq-GATE-clause-pages : goal.returns-then-at-eq-GATE-clause-pages
returns-then-at-eq-GATE-clause-pages g c =
    let b = c.args.pieces.now in
    let before = g.P.Pages.view c.args.pages.now in
    asked-region b.image.now b.under b.stack c.args.at FETCH_BYTES c.requires.aligned before before Fetch (omega (arith, c.if-at-eq-GATE.true))

pub returns-then-at-eq1-clause-found : goal.returns-then-at-eq1-clause-found
returns-then-at-eq1-clause-found g c = c.service_at.ensures ∙ sym (fetched-region (segments_in c.args.pieces.now) c.args.at c.requires.aligned c.if-at-eq-GATE.false c.if-at-eq1.true)

pub returns-then-at-eq1-clause-pages : goal.returns-then-at-eq1-clause-pages
returns-then-at-eq1-clause-pages g c =
    let b = c.args.pieces.now in
    let before = g.P.Pages.view c.args.pages.now in
    asked-region b.image.now b.under b.stack c.args.at FETCH_BYTES c.requires.aligned before before Fetch c.if-at-eq1.true

pub locate-requires-clause-sized : goal.locate-requires-clause-sized
locate-requires-clause-sized g c = ap (λ (p : Place). p.pages) c.requires.place ∙ c.args.pieces.now.sized

pub word-requires : goal.word-requires
word-requires g c =
    word-inside c.args.pieces.now c.args.at c.in-Some.spot c.requires.aligned
    (there c.args.pieces.now (g.P.Pages.view c.args.pages.now).place c.args.at c.locate.result (Some c.in-Some.spot) c.requires.place c.locate.ensures.spot c.in-Some.is)

pub returns-in-Some-clause-found : goal.returns-in-Some-clause-found
returns-in-Some-clause-found g c =
    let b = c.args.pieces.now in
    let spot = c.in-Some.spot in
    let is = there b (g.P.Pages.view c.args.pages.now).place c.args.at c.locate.result (Some spot) c.requires.place c.locate.ensures.spot c.in-Some.is in
    let inside = word-inside b c.args.at spot c.requires.aligned is in
    c.word.ensures
    ∙ sym (fetched-some (segments_in b) c.args.at c.requires.aligned c.if-at-eq-GATE.false b.image.now b.under b.bytes.stack b.bytes.fixed b.bytes.writable spot c.if-at-eq1.false inside (held-at b c.args.at (Some spot) is))

pub returns-in-Some-clause-pages : goal.returns-in-Some-clause-pages
returns-in-Some-clause-pages g c =
    let b = c.args.pieces.now in
    asked-page b.image.now b.under b.stack c.args.at FETCH_BYTES c.requires.aligned (g.P.Pages.view c.args.pages.now) (g.P.Pages.view c.locate.new.pages) Fetch refl c.if-at-eq1.false c.locate.ensures.pages

pub returns-in-None-clause-found : goal.returns-in-None-clause-found
returns-in-None-clause-found g c =
    let b = c.args.pieces.now in
    let is = there b (g.P.Pages.view c.args.pages.now).place c.args.at c.locate.result None c.requires.place c.locate.ensures.spot c.in-None.is in
    sym (fetched-none (segments_in b) c.args.at c.requires.aligned c.if-at-eq-GATE.false c.if-at-eq1.false (held-at b c.args.at None is))

pub returns-in-None-clause-pages : goal.returns-in-None-clause-pages
returns-in-None-clause-pages g c =
    let b = c.args.pieces.now in
    asked-page b.image.now b.under b.stack c.args.at FETCH_BYTES c.requires.aligned (g.P.Pages.view c.args.pages.now) (g.P.Pages.view c.locate.new.pages) Fetch refl c.if-at-eq1.false c.locate.ensures.pages
