use Rattle.std.proofs.Common.{◌≡◌, ◌++◌, ◌∙◌, [], ap, refl, rules, sym}
use Rattle.std.specs.Prelude.{unwrap_or}
use Rattle.std.proofs.lemmas.List.Elements.{All-get_or}
use Rattle.std.proofs.lemmas.Option.{get_or_from_slice_get, slice_get_within}
use Rattle.ad_base.specs.declared.book.Book.{Book}
use Rattle.ad_base.specs.Book.{contents_of}
use Rattle.ad_base.specs.Image.{IsWhole}
use Rattle.ad_call.specs.declared.call.Call.{Call}
use Rattle.ad_call.specs.Asked.{asked_in_call}
use Rattle.ad_call.specs.Call.{after_call, HasData}
use Rattle.ad_wrapper.specs.Asking.{asking}
use Rattle.ad_wrapper.specs.Performed.{call_for}
use Rattle.ad_wrapper.proofs.Asking.{acts-grew}
use Rattle.ad_wrapper.proofs.stages.run.Goals as goal

pub run_call-pages-requires-clause-whole : goal.run_call-pages-requires-clause-whole
run_call-pages-requires-clause-whole c =
    let images = c.args.shared.now.images in
    let m = c.args.step.now.«module» in
    let image = c.image_of-image.result.now in
    let loaded = c.image_of-image.ensures in
    rw (← get_or_from_slice_get images m image image loaded) (All-get_or IsWhole images m image (slice_get_within images m image loaded) c.requires.fits.whole)

pub returns : goal.returns
returns c =
    let before = c.args.under in
    let step = c.args.step.now in
    let image = c.image_of-image.result.now in
    let fuel = c.args.shared.now.fuel in
    let ran = c.run_call-pages in
    let call : Call = record { line = step.line; worker = before.worker; export = step.export; under = c.place.result; stack = c.place-2.result } in
    let asked = asked_in_call image fuel (contents_of c.book.result.now) call step.args in
    let asked-same : asked ≡ asked_in_call image fuel (contents_of before.held.book) (call_for before.worker step before.inside.place before.stack.place) step.args =
    λ j. asked_in_call image fuel (contents_of (c.book.ensures.value j)) (call_for before.worker step (c.place.ensures j) (c.place-2.ensures.value j)) step.args in
    let called-same : after_call image fuel (contents_of c.book.result.now) call step.args ≡ after_call image fuel (contents_of before.held.book) (call_for before.worker step before.inside.place before.stack.place) step.args =
    λ j. after_call image fuel (contents_of (c.book.ensures.value j)) (call_for before.worker step (c.place.ensures j) (c.place-2.ensures.value j)) step.args in
    let origin = ap (λ v. v.origin) ran.ensures.pages in
    let given : HasData image before.held.book.writable before.held.book.fixed = search rules in
    record {
      image = image;
      loaded = c.image_of-image.ensures;
      has_data = given;
      worker = refl;
      table = ap (λ seat. seat.table) origin;
      seat_worker = ap (λ seat. seat.worker) origin;
      acts = acts-grew before.inside.seat.acts ran.result.inside.seat.acts _ (ap (λ seat. seat.acts) origin) (ap (λ v. unwrap_or v.asked []) ran.ensures.pages ∙ ap (λ list. (asking before.inside.seat.acts).asked ++ list) asked-same);
      stack = refl;
      turn = refl;
      called = ran.ensures.after ∙ called-same;
      room = ran.ensures.room ∙ ap (λ (b : Book). b.history.room) c.book.ensures.value;
      lengths = record {
        writable = ran.ensures.data.movable ∙ sym given.movable;
        fixed = ran.ensures.data.immovable ∙ sym given.immovable;
      };
    }
