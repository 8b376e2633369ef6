use Rattle.std.proofs.Common.{◌≡◌, ◌<◌, ℕ, Bool, false, List, [], ◌∷◌, ◌++◌, Option, length, get_or, slice_set, arith, ◌∙◌, ap, sym, subst}
use mathlib.Core.Option.{some}
use lib.ListN.{get_elem?}
use Rattle.std.specs.Mem.Slots.{slots_items, slots_filled}
use Rattle.std.proofs.lemmas.List.{get_or-set_same, get_or-set_other}
use Rattle.ad_base.specs.declared.book.Book.{Book}
use Rattle.ad_turns.specs.Private.Handles.{book_in}
use Rattle.ad_turns.proofs.Changed.{either_way}
use Rattle.ad_turns.proofs.Closing.{books_more, slot_full}
use Rattle.ad_turns.proofs.close.books_of.Goals as goal

pub unwrap-book-requires : goal.unwrap-book-requires
unwrap-book-requires c =
    let i = c.loop-module.invariant in
    let at = subst (λ (xs : List (Option Book)). get_elem? xs c.loop-module.module ≡ some c.take.result) i.items c.take.ensures.value in
    let count = c.args.closed.slots.ok.0 in
    let test = c.loop-module-test.true in
    let end = c.slot_count-module-end.ensures in
    slot_full (slots_items c.args.closed.slots) c.loop-module.module c.take.result c.requires.each at (omega arith)

pub loop-module-preserved : goal.loop-module-preserved
loop-module-preserved c =
    let i = c.loop-module.invariant in
    let n = c.loop-module.module in
    let filled = slots_filled c.loop-module.closed.slots in
    let at = subst (λ (xs : List (Option Book)). get_elem? xs c.loop-module.module ≡ some c.take.result) i.items c.take.ensures.value in
    let now = c.take.ensures.others.1 in
    let inside = (let count = c.loop-module.closed.slots.ok.1 in let same = i.count in let test = c.loop-module-test.true in let end = c.slot_count-module-end.ensures in let low : n < length filled = omega arith in low) in record {
      items = c.take.ensures.others.0 ∙ i.items;
      count = c.take.ensures.others.2 ∙ i.count;
      full = λ k l low. ap (λ (bs : List Bool). get_or bs k false) now ∙ (get_or-set_other filled n k false false (λ e. omega arith) ∙ i.full k (omega arith) low);
      taken = λ k l. ap (λ (bs : List Bool). get_or bs k false) now ∙ either_way k n
          (λ e. ap (λ (j : ℕ). get_or (slice_set filled n false) j false) e ∙ get_or-set_same filled n false false inside)
          (λ ne. get_or-set_other filled n k false false ne ∙ i.taken k (omega arith));
      books = c.push_reserved.ensures.items ∙ (ap (λ (b : Book). c.loop-module.books.items ++ b ∷ []) (c.into_book.ensures ∙ ap book_in (sym c.unwrap-book.ensures)) ∙ books_more (slots_items c.args.closed.slots) n c.take.result c.loop-module.books.items i.books at);
      room = let a = i.room in let b = c.push_reserved.ensures.capacity in omega arith;
    }
