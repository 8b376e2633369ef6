use Rattle.std.proofs.Common.{◌≡◌, ◌≢◌, ◌+◌, ◌-◌, ◌≤◌, ◌∙◌, inl, inr, refl, sym, ap, length, [], if◌then◌else◌, Some, arith}
use Rattle.ad_base.specs.declared.layout.TheConstants.{FETCH_BYTES, GATE}
use Rattle.ad_base.specs.declared.role.Role.TheVariants.{Code}
use Rattle.ad_base.specs.Layout.{size_of}
use Rattle.ad_base.specs.Place.{base_of}
use Rattle.ad_base.specs.Segments.{Fetch, told}
use Rattle.ad_call.specs.declared.spot.Spot.{Spot}
use Rattle.ad_call.specs.Asked.{page_asked}
use Rattle.ad_call.specs.Private.InPieces.{segments_in}
use Rattle.ad_call.specs.View.{with_asked}
use Rattle.ad_call.proofs.Asks.{asked-page, kept}
use Rattle.ad_call.proofs.PiecesAt.{bytes_in, clear-text-at, fits-at, held-at, length-in, text-spot}
use Rattle.ad_call.proofs.Reached.{fetched-some}
use Rattle.ad_call.proofs.Spotted.{movable-at}
use Rattle.ad_call.proofs.bus.ModuleBusBus.fetch.Goals as goal

pub returns-then-offset-self-clause-found : goal.returns-then-offset-self-clause-found
returns-then-offset-self-clause-found g c =
    let b = c.args.self.now.pieces in
    let at = c.args.at in
    let behind = (clear-text-at b at c.ranges.at.fits c.if-offset-self.true).behind in
    let spot : Spot = record { role = Code; offset = at - base_of b.under } in
    let is = text-spot b at c.ranges.at.fits c.if-offset-self.true in
    let fits : spot.offset + FETCH_BYTES ≤ length (bytes_in b Code) = fits-at b FETCH_BYTES at spot (inr (inr (inl refl))) c.requires is in
    let long : length (bytes_in b Code) ≡ size_of b.image.now Code = length-in b Code in
    let inside : spot.offset + FETCH_BYTES ≤ size_of b.image.now Code = omega (arith, fits, long) in
    let away : at ≢ GATE = λ e. behind (omega (arith, e)) in
    c.fetch_text.ensures.word
    ∙ sym (fetched-some (segments_in b) at c.requires away b.image.now b.under b.bytes.stack b.bytes.fixed b.bytes.writable spot behind inside (held-at b at (Some spot) is))

pub returns-then-offset-self-clause-track : goal.returns-then-offset-self-clause-track
returns-then-offset-self-clause-track g c =
    let b = c.args.self.now.pieces in
    let at = c.args.at in
    let behind = (clear-text-at b at c.ranges.at.fits c.if-offset-self.true).behind in
    let spot : Spot = record { role = Code; offset = at - base_of b.under } in
    let there = movable-at b.image.now b.under b.stack at spot (text-spot b at c.ranges.at.fits c.if-offset-self.true) refl in
    let before = g.P.Pages.view c.args.self.now.pages in
    let after = g.P.Pages.view c.fetch_text.new.pages in
    let own = c.fetch_text.ensures.pages ∙ ap (λ b. with_asked before (if b then [] else page_asked at)) (sym there.apart) in
    let pages = asked-page b.image.now b.under b.stack at FETCH_BYTES c.requires before after Fetch refl behind own in
    (λ j. record { image = b.image.now; under = b.under; stack = b.stack; origin = (pages j).origin; asked = (pages j).asked })
    ∙ sym (kept (told Fetch FETCH_BYTES at) (record { image = b.image.now; under = b.under; stack = b.stack; origin = before.origin; asked = before.asked }))
