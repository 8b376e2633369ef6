use Rattle.ad_lines.specs.Opening.{opening_drawn, opening_run}
use Rattle.ad_lines.proofs.BookRuns.{entry-of-call}
use Rattle.ad_lines.proofs.Opened.{opening-empty, opening-there}
use Rattle.ad_lines.proofs.RunLaws.{books-lawful, calls-made, calls-rise, images-stay}
use Rattle.ad_lines.proofs.book_laws.law_books.Goals as goal

pub returns-clause-images : goal.returns-clause-images
returns-clause-images c = images-stay

pub returns-clause-lawful : goal.returns-clause-lawful
returns-clause-lawful c = books-lawful

pub returns-clause-calls : goal.returns-clause-calls
returns-clause-calls c = calls-made

pub returns-clause-order : goal.returns-clause-order
returns-clause-order c = calls-rise

pub returns-clause-places : goal.returns-clause-places
returns-clause-places c seed workers fuel images before after line worker number export args loaded are earlier now stack was on is =
    entry-of-call images workers fuel (opening_run workers images (opening_drawn seed workers images)) before after line worker number export args earlier now stack are.runnable (opening-there seed workers images loaded) (opening-empty seed workers images loaded number) was on is
