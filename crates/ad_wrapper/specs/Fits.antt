-- When the tables of a run fit its images, and whose seats a worker has in hand.
use Rattle.std.specs.Prelude.{◌≡◌, ℕ, length, slice_get, All, IfSome, IsSomeAnd}
use Rattle.ad_base.specs.Image.{IsWhole, movable_pages}
use Rattle.ad_call.specs.Call.{HasData}
use Rattle.ad_maps.specs.MapPlace.{cells_of, opening_of}
use Rattle.ad_wrapper.specs.declared.hands.Hands.{Hands}
use Rattle.ad_wrapper.specs.declared.shared.Shared.{Shared}

-- The images are whole, there is a module for each in the mapping table and a book in the turn table, the module was opened
-- with its pages and its cells, and the book with as much data of both kinds.
pub record Fits (s : Shared) : Type 0 where
  pub modules : length s.images ≡ length s.maps.shape.modules
  pub books : length s.images ≡ length s.turns.openings
  pub whole : All IsWhole s.images
  pub pages : (m : ℕ) → IfSome (slice_get s.images m) (λ i. movable_pages i ≡ (opening_of s.maps.shape m).place.pages)
  pub cells : (m : ℕ) → IfSome (slice_get s.images m) (λ i. i.cells ≡ cells_of s.maps.shape m)
  pub «data» : (m : ℕ) → IfSome (slice_get s.images m) (λ i. IsSomeAnd (slice_get s.turns.openings m) (λ b. HasData i b.writable b.fixed))

-- the seats are those of the worker, in these tables
pub record AreHandsOf (s : Shared) (h : Hands) : Type 0 where
  pub in_maps : h.seat.table ≡ s.maps.table
  pub of_seat : h.seat.worker ≡ h.worker
  pub in_stacks : h.stack_seat.table ≡ s.stacks.table
  pub of_stack_seat : h.stack_seat.worker ≡ h.worker
  pub in_turns : h.turn_seat.table ≡ s.turns.table
  pub of_turn_seat : h.turn_seat.worker ≡ h.worker
