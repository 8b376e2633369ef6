use Rattle.std.proofs.Common.{◌≡◌, ◌<◌, ◌≤◌, ℕ, true, false, map, take, slice_index_or}
use Rattle.std.specs.Mem.Slots.{slots_items, slots_len, slots_filled}
use Rattle.std.specs.Vec.{vec_capacity}
use Rattle.ad_turns.specs.Private.Handles.{book_in}
use Rattle.ad_turns.proofs.close.books_of.Given as goal

abbrev pub invariant-loop-module : goal.invariant-loop-module
invariant-loop-module l = record {
  items : slots_items l.closed.slots ≡ slots_items l.fn.closed.slots;
  count : slots_len l.closed.slots ≡ slots_len l.fn.closed.slots;
  full : (k : ℕ) → l.module ≤ k → k < slots_len l.fn.closed.slots → slice_index_or (slots_filled l.closed.slots) k false ≡ true;
  taken : (k : ℕ) → k < l.module → slice_index_or (slots_filled l.closed.slots) k false ≡ false;
  books : l.books.items ≡ map book_in (take l.module (slots_items l.fn.closed.slots));
  room : slots_len l.fn.closed.slots ≤ vec_capacity l.books;
}
