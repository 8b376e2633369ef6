-- What holds of the mover in the midst of a line.
use Rattle.std.specs.Prelude.{◌≡◌, ◌≢◌, ◌*◌, ◌≤◌, ℕ, true, List, [], ◌∷◌, ◌++◌, AllPairs, Contains, vec_capacity}
use Rattle.ad_base.specs.declared.ledger.MoveEnd.{MoveEnd}
use Rattle.ad_maps.specs.declared.shape.Shape.{Shape}
use Rattle.ad_maps.specs.declared.view.Deed.{Deed}
use Rattle.ad_maps.specs.declared.view.Made.{Made}
use Rattle.ad_maps.specs.Ledger.{all_made}
use Rattle.ad_maps.specs.MapPlace.{module_of_frame, opening_of}
use Rattle.ad_maps.specs.Seen.{retires_of, MoverSeen, RoomSeen}
use Rattle.ad_mover.specs.declared.mover.Mover.{Mover}
use Rattle.ad_mover.specs.Moves.{current_after, deeds_of, drawn_by, end_of, retired_by, MayCome, MovesModule, Outcome}
use Rattle.ad_mover.specs.Seen.{moving}
use Rattle.ad_wrapper.specs.declared.shared.Shared.{Shared}

-- the seats are those of the movers of these tables, and what is out is what the vector holds, each mapping once
pub record HasSeats (s : Shared) (m : Mover) : Type 0 where
  pub in_maps : m.seat.table ≡ s.maps.table
  pub in_stacks : m.stack_mover.table ≡ s.stacks.table
  pub no_fresh : m.seat.fresh ≡ []
  pub at_rest : m.seat.at_rest ≡ true
  pub outs : m.seat.outs ≡ m.outs.items
  pub differ : AllPairs (λ (g h : Made). g.place.mapping ≢ h.place.mapping) m.outs.items

-- the room of the two vectors stays, and so do the number that the gate is told, and that of the lanes
pub record KeepsRoom (before after : Mover) : Type 0 where
  pub who : after.who ≡ before.who
  pub lanes : after.stack_mover.lanes ≡ before.stack_mover.lanes
  pub outs_room : vec_capacity before.outs ≤ vec_capacity after.outs
  pub done_room : vec_capacity after.done ≡ vec_capacity before.done

-- what a module's move leaves as it was
pub record KeepsOthers (before after : Mover) : Type 0 where
  pub who : after.who ≡ before.who
  pub stack_mover : after.stack_mover ≡ before.stack_mover
  pub done : after.done ≡ before.done
  pub outs_room : vec_capacity after.outs ≡ vec_capacity before.outs

-- the frame is one of the module's, and the seat found it without owner
pub record IsRoomOf (shape : Shape) (m : ℕ) (seat : MoverSeen) (room : RoomSeen) : Type 0 where
  pub of_module : room.of_module ≡ m
  pub frame : module_of_frame shape room.frame ≡ m
  pub found : Contains seat.rooms room.frame

-- one mapping more is out: that of this number
pub record SendsOut (number : ℕ) (before after : Mover) : Type 0 where
  pub out : Made
  pub is : out.place.mapping ≡ number
  pub outs : after.outs.items ≡ before.outs.items ++ out ∷ []

-- moving module m came to this end
pub record ComesTo (shape : Shape) (m : ℕ) (before after : Mover) (end : MoveEnd) : Type 0 where
  pub outcome : Outcome
  pub may : MayCome shape m before.placer (all_made shape before.seat.deeds) outcome
  pub is : end ≡ end_of outcome
  pub drawn : after.placer ≡ drawn_by (opening_of shape m).place.pages before.placer outcome
  pub deeds : after.seat.deeds ≡ before.seat.deeds ++ deeds_of (m * shape.frames) m outcome
  pub current : after.seat.current ≡ current_after m before.seat.current outcome
  pub out : (line : ℕ) → retires_of line after.outs.items ≡ retires_of line before.outs.items ++ retired_by line m before.seat.current outcome

-- module m was moved in a line, and what went out by it is in the vector behind what was there
pub record MovesOne (shape : Shape) (line m : ℕ) (before after : Mover) : Type 0 where
  pub retires : List Deed
  pub moved : MovesModule shape line m (moving before) retires (moving after)
  pub out : retires_of line after.outs.items ≡ retires_of line before.outs.items ++ retires
