use Rattle.std.proofs.Common.{subst, ℕ}
use Rattle.std.proofs.lemmas.Result.{IfOk-weaker}
use Rattle.std.specs.Mem.Slots.{slots_items}
use Rattle.ad_maps.specs.Private.Handles.{plan_of}
use Rattle.ad_maps.specs.Private.Numbered.{SayLinedRows}
use Rattle.ad_maps.proofs.Ended.{ended_of}
use Rattle.ad_maps.proofs.close.ended.Goals as goal

pub rows_of-rows-requires-clause-directory : goal.rows_of-rows-requires-clause-directory
rows_of-rows-requires-clause-directory c = (ended_of _ (plan_of c.args.mover.me.0) c.args.seats.items _ _ (slots_items c.close_with-words.result.words) _ c.close_with-words.ensures.values.2 c.gather.ensures.back c.requires.workers c.requires.rest c.requires.freed).directory

pub rows_of-rows-requires-clause-members : goal.rows_of-rows-requires-clause-members
rows_of-rows-requires-clause-members c = (ended_of _ (plan_of c.args.mover.me.0) c.args.seats.items _ _ (slots_items c.close_with-words.result.words) _ c.close_with-words.ensures.values.2 c.gather.ensures.back c.requires.workers c.requires.rest c.requires.freed).members

pub returns : goal.returns
returns c =
    let e = ended_of _ (plan_of c.args.mover.me.0) c.args.seats.items _ _ (slots_items c.close_with-words.result.words) _ c.close_with-words.ensures.values.2 c.gather.ensures.back c.requires.workers c.requires.rest c.requires.freed in
    IfOk-weaker c.rows_of-rows.result _ _ (λ rows h. e.rows rows.items (subst (λ (n : ℕ). SayLinedRows n (slots_items c.close_with-words.result.words) rows.items) c.requires.frames h)) c.rows_of-rows.ensures
