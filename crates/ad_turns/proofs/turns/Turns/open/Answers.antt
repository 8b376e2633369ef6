use Rattle.std.proofs.Common.{List, ℕ, sym, subst, ap, ◌∙◌, refl, arith}
use Rattle.atomic_table.specs.Table.{opening}
use Rattle.ad_base.specs.declared.book.Book.{Book}
use Rattle.ad_turns.specs.declared.view.Doing.TheVariants.{Dealer}
use Rattle.ad_turns.specs.Opening.{MayBeOpened}
use Rattle.ad_turns.specs.Rule.{Kept}
use Rattle.ad_turns.proofs.Openings.{opened_law, zeros_are}
use Rattle.ad_turns.proofs.turns.Turns.open.Goals as goal

pub new-requires : goal.new-requires
new-requires c =
    let may : MayBeOpened c.args.books.items c.args.calls.now = record {
      workers_from = c.requires.workers_from;
      workers_to = c.requires.workers_to;
      modules = c.requires.modules;
      wide = c.requires.wide;
      empty = c.requires.empty;
      room = c.requires.room;
      small = λ m l. c.if-not-do_fit.ensures refl m (let o = c.args.books.ok.0 in let n = c.len.ensures in omega arith);
    } in
    let words = c.as_slice.ensures.value ∙ zeros_are c.in_ok-words.words.items (let o = c.in_ok-words.words.ok.0 in let l = c.in_ok-words.ensures.len in omega arith) c.in_ok-words.ensures.zero in
    subst (λ (bs : List Book). Kept bs c.of-2.result.value.items (opening c.as_slice.result.now c.in_ok-slots.slots.items (Dealer 0 c.of-2.result.value.items))) (ap (λ v. v.items) (sym c.of.ensures))
    (subst (λ (cs : List (List ℕ)). Kept c.args.books.items cs (opening c.as_slice.result.now c.in_ok-slots.slots.items (Dealer 0 cs))) (sym c.in_ok-left.ensures ∙ ap (λ v. v.items) (sym c.of-2.ensures))
    (rw (words, c.in_ok-slots.ensures) (opened_law c.args.books.items c.args.calls.now may)))
