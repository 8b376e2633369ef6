use Rattle.std.proofs.Common.{List, IfOk, Result, Ok, Err, sym, ap, subst}
use Rattle.std.specs.Mem.Slots.{slots_items}
use Rattle.std.specs.List.{All}
use Rattle.ad_base.specs.declared.ledger.Row.{Row}
use Rattle.ad_base.specs.Ledger.{IsUnmappedOnce}
use Rattle.ad_stacks.specs.Ledger.{AreRows, HaveRows}
use Rattle.ad_stacks.specs.Private.Handles.{plan_of}
use Rattle.ad_stacks.specs.Seen.{OpenStacks, MoverSeen}
use Rattle.ad_stacks.proofs.Ended.{ended_of}
use Rattle.ad_stacks.proofs.stacks.Stacks.close.Goals as goal

if_ok : {A E : Type 0} (P Q : A → Type 0) → ((x : A) → P x → Q x) → (r : Result A E) → IfOk r P → IfOk r Q
if_ok P Q f (Ok x) h = f x h
if_ok P Q f (Err e) h = h

pub rows_of-rows-requires-clause-records : goal.rows_of-rows-requires-clause-records
rows_of-rows-requires-clause-records c = (ended_of _ c.args.self.openings c.args.mover.refreshes c.args.seats.items _ _ (plan_of c.mover.inside.seat.me.0) (slots_items c.close_with-closed.result.words) _ c.close_with-closed.ensures.values.2
    c.gather.ensures.view c.mover.invariant.0.stage (ap (λ (o : OpenStacks). o.openings) c.self.view_is) (ap (λ (m : MoverSeen). m.refreshes) c.mover.view_is) c.requires.seats.count).records

pub returns-clause-rows : goal.returns-clause-rows
returns-clause-rows c = if_ok _ _ (λ rows h. subst (λ (xs : List Row). AreRows c.args.self.openings c.args.mover.refreshes xs) (sym h) (ended_of _ c.args.self.openings c.args.mover.refreshes c.args.seats.items _ _ (plan_of c.mover.inside.seat.me.0) (slots_items c.close_with-closed.result.words) _ c.close_with-closed.ensures.values.2
    c.gather.ensures.view c.mover.invariant.0.stage (ap (λ (o : OpenStacks). o.openings) c.self.view_is) (ap (λ (m : MoverSeen). m.refreshes) c.mover.view_is) c.requires.seats.count).rows) c.rows_of-rows.result c.rows_of-rows.ensures

pub returns-clause-unmapped : goal.returns-clause-unmapped
returns-clause-unmapped c = if_ok _ _ (λ rows h. subst (λ (xs : List Row). All IsUnmappedOnce xs) (sym h) (ended_of _ c.args.self.openings c.args.mover.refreshes c.args.seats.items _ _ (plan_of c.mover.inside.seat.me.0) (slots_items c.close_with-closed.result.words) _ c.close_with-closed.ensures.values.2
    c.gather.ensures.view c.mover.invariant.0.stage (ap (λ (o : OpenStacks). o.openings) c.self.view_is) (ap (λ (m : MoverSeen). m.refreshes) c.mover.view_is) c.requires.seats.count).once) c.rows_of-rows.result c.rows_of-rows.ensures

pub returns-clause-taken : goal.returns-clause-taken
returns-clause-taken c = if_ok _ _ (λ rows h. subst (λ (xs : List Row). HaveRows xs c.args.seats.items) (sym h) (ended_of _ c.args.self.openings c.args.mover.refreshes c.args.seats.items _ _ (plan_of c.mover.inside.seat.me.0) (slots_items c.close_with-closed.result.words) _ c.close_with-closed.ensures.values.2
    c.gather.ensures.view c.mover.invariant.0.stage (ap (λ (o : OpenStacks). o.openings) c.self.view_is) (ap (λ (m : MoverSeen). m.refreshes) c.mover.view_is) c.requires.seats.count).taken) c.rows_of-rows.result c.rows_of-rows.ensures

pub returns-clause-history : goal.returns-clause-history
returns-clause-history c = (ended_of _ c.args.self.openings c.args.mover.refreshes c.args.seats.items _ _ (plan_of c.mover.inside.seat.me.0) (slots_items c.close_with-closed.result.words) _ c.close_with-closed.ensures.values.2
    c.gather.ensures.view c.mover.invariant.0.stage (ap (λ (o : OpenStacks). o.openings) c.self.view_is) (ap (λ (m : MoverSeen). m.refreshes) c.mover.view_is) c.requires.seats.count).history
