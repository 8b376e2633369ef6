use Rattle.std.proofs.Common.{List, [], ap, sym, subst, arith}
use mathlib.Core.Option.{none}
use Rattle.std.specs.Mem.Slots.{slots_items}
use Rattle.atomic_table.specs.Table.{step}
use Rattle.ad_base.specs.declared.book.Book.{Book}
use Rattle.ad_turns.specs.declared.view.Doing.TheVariants.{Dealer}
use Rattle.ad_turns.specs.Merged.{AreReached, HaveAllLengths}
use Rattle.ad_turns.specs.Seen.{OpenTurns}
use Rattle.ad_turns.proofs.Allowed.{allows_enter}
use Rattle.ad_turns.proofs.Ended.{ended_of}
use Rattle.ad_turns.proofs.turns.Turns.close.Goals as goal

pub load_new_seat-gatherer-requires : goal.load_new_seat-gatherer-requires
load_new_seat-gatherer-requires c =
    let table = c.self.inside.table.shared in
    let words = c.self.invariant in
    (omega arith, allows_enter table.key.books.value.items table.key.calls.value.items table.table_id.slots (step table.table_id.slots 0 0 0 none) (Dealer 0 table.key.calls.value.items, []))

pub books_of-requires-clause-each : goal.books_of-requires-clause-each
books_of-requires-clause-each c = (ended_of _ c.args.self.openings _ c.args.self.calls c.args.seats.items _ _ (slots_items c.close_with-closed.result.words) (slots_items c.close_with-closed.result.slots) c.close_with-closed.ensures.values.2
    c.gather.ensures.gatherer c.gather.ensures.turns (ap (λ (o : OpenTurns). o.openings) c.self.view_is) (ap (λ (o : OpenTurns). o.calls) c.self.view_is) c.requires.seats.count).each

pub returns-clause-reached : goal.returns-clause-reached
returns-clause-reached c = subst (λ (bs : List Book). AreReached c.args.self.openings bs c.args.seats.items) (sym c.books_of.ensures) (ended_of _ c.args.self.openings _ c.args.self.calls c.args.seats.items _ _ (slots_items c.close_with-closed.result.words) (slots_items c.close_with-closed.result.slots) c.close_with-closed.ensures.values.2
    c.gather.ensures.gatherer c.gather.ensures.turns (ap (λ (o : OpenTurns). o.openings) c.self.view_is) (ap (λ (o : OpenTurns). o.calls) c.self.view_is) c.requires.seats.count).reached

pub returns-clause-lengths : goal.returns-clause-lengths
returns-clause-lengths c = subst (λ (bs : List Book). HaveAllLengths c.args.self.openings bs) (sym c.books_of.ensures) (ended_of _ c.args.self.openings _ c.args.self.calls c.args.seats.items _ _ (slots_items c.close_with-closed.result.words) (slots_items c.close_with-closed.result.slots) c.close_with-closed.ensures.values.2
    c.gather.ensures.gatherer c.gather.ensures.turns (ap (λ (o : OpenTurns). o.openings) c.self.view_is) (ap (λ (o : OpenTurns). o.calls) c.self.view_is) c.requires.seats.count).lengths

pub returns-clause-turns : goal.returns-clause-turns
returns-clause-turns c = (ended_of _ c.args.self.openings _ c.args.self.calls c.args.seats.items _ _ (slots_items c.close_with-closed.result.words) (slots_items c.close_with-closed.result.slots) c.close_with-closed.ensures.values.2
    c.gather.ensures.gatherer c.gather.ensures.turns (ap (λ (o : OpenTurns). o.openings) c.self.view_is) (ap (λ (o : OpenTurns). o.calls) c.self.view_is) c.requires.seats.count).turns
