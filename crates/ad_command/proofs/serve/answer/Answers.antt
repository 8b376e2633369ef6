use Rattle.std.proofs.Common.{◌≡◌, Err, Ok, refl, subst, sym}
use Rattle.ad_command.specs.Command.{Work}
use Rattle.ad_command.specs.Ending.{IsDone}
use Rattle.ad_command.specs.Private.Asked.{IsMade, prepared_ending}
use Rattle.ad_command.specs.Served.{Leaves, LeavesDone, LeavesNothing}
use Rattle.ad_command.proofs.serve.answer.Goals as goal

pub returns-in-Ok-clause-leaves : goal.returns-in-Ok-clause-leaves
returns-in-Ok-clause-leaves g c end made =
    let before = g.K.Sink.output c.args.out.now in
    let after = g.K.Sink.output c.written.new.out in
    let p = c.in-Ok.prepared in
    let is : (w : Work) × (end ≡ Ok w) × IsDone w (prepared_ending p) = subst (IsMade IsDone end) c.in-Ok.is made in
    let left : LeavesDone before after c.written.result is.0 = record {
      text = p.text.items;
      done = subst (IsDone is.0) (sym c.written.ensures.ending) is.2;
      written = c.written.ensures.writes;
    } in
    subst (Leaves before after c.written.result) (sym is.1) left

pub returns-in-Err-clause-leaves : goal.returns-in-Err-clause-leaves
returns-in-Err-clause-leaves g c end made =
    let before = g.K.Sink.output c.args.out.now in
    let said = c.refused.ensures in
    let is : end ≡ Err c.in-Err.trouble = subst (IsMade IsDone end) c.in-Err.is made in
    let left : LeavesNothing before before c.refused.result c.in-Err.trouble = record {
      reason = said.fault;
      no_book = said.books;
      no_move = said.moves;
      no_row = said.ledger;
      no_table = said.no_table;
      nothing_written = refl;
    } in
    subst (Leaves before before c.refused.result) (sym is) left
