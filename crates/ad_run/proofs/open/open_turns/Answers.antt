use Rattle.std.proofs.Common.{◌≡◌, ◌∙◌, length, refl, subst, arith}
use Rattle.std.specs.Result.{IfOk}
use Rattle.ad_lines.specs.Sound.{Lines}
use Rattle.ad_run.proofs.OpeningTurns.{AreNewBooks, all-empty, all-wide, as-many-draws, drawn-of, has-room}
use Rattle.ad_run.proofs.open.open_turns.Goals as goal

pub open-requires-clause-workers_to : goal.open-requires-clause-workers_to
open-requires-clause-workers_to c =
    let l : Lines = record { seed = 0; workers = length c.args.calls.now; images = c.args.images.now; fuel = 0; steps = c.args.steps.now } in
    let new : AreNewBooks l c.in_ok-books.books.items = record { contents = c.in_ok-books.ensures.contents; rooms = c.in_ok-books.ensures.room } in
    let many = as-many-draws l c.in_ok-books.books.items new c.deref.result.now (drawn-of l c.args.calls.now refl c.requires.calls c.deref.result.now (c.deref.ensures.value ∙ c.in_ok-draws.ensures)) in
    omega (arith, many, c.requires.few_workers)

pub open-requires-clause-wide : goal.open-requires-clause-wide
open-requires-clause-wide c =
    let l : Lines = record { seed = 0; workers = length c.args.calls.now; images = c.args.images.now; fuel = 0; steps = c.args.steps.now } in
    let new : AreNewBooks l c.in_ok-books.books.items = record { contents = c.in_ok-books.ensures.contents; rooms = c.in_ok-books.ensures.room } in
    all-wide l c.in_ok-books.books.items new c.deref.result.now (drawn-of l c.args.calls.now refl c.requires.calls c.deref.result.now (c.deref.ensures.value ∙ c.in_ok-draws.ensures))

pub open-requires-clause-empty : goal.open-requires-clause-empty
open-requires-clause-empty c =
    let l : Lines = record { seed = 0; workers = length c.args.calls.now; images = c.args.images.now; fuel = 0; steps = c.args.steps.now } in
    let new : AreNewBooks l c.in_ok-books.books.items = record { contents = c.in_ok-books.ensures.contents; rooms = c.in_ok-books.ensures.room } in
    all-empty l c.in_ok-books.books.items new c.deref.result.now (drawn-of l c.args.calls.now refl c.requires.calls c.deref.result.now (c.deref.ensures.value ∙ c.in_ok-draws.ensures))

pub open-requires-clause-room : goal.open-requires-clause-room
open-requires-clause-room c =
    let l : Lines = record { seed = 0; workers = length c.args.calls.now; images = c.args.images.now; fuel = 0; steps = c.args.steps.now } in
    let new : AreNewBooks l c.in_ok-books.books.items = record { contents = c.in_ok-books.ensures.contents; rooms = c.in_ok-books.ensures.room } in
    has-room l c.in_ok-books.books.items new c.deref.result.now (drawn-of l c.args.calls.now refl c.requires.calls c.deref.result.now (c.deref.ensures.value ∙ c.in_ok-draws.ensures))

pub returns-clause-calls : goal.returns-clause-calls
returns-clause-calls c =
    let l : Lines = record { seed = 0; workers = length c.args.calls.now; images = c.args.images.now; fuel = 0; steps = c.args.steps.now } in
    subst (λ draws. IfOk c.open.result (λ opened. opened.0.calls ≡ draws)) (drawn-of l c.args.calls.now refl c.requires.calls c.deref.result.now (c.deref.ensures.value ∙ c.in_ok-draws.ensures)) c.open.ensures.calls
