-- The stages of a call, in order: it begins, it runs, it leaves, and its stack is put back.
use Rattle.std.specs.Prelude.{◌≡◌, ◌+◌, ◌<◌, ◌≤◌, true, [], ◌∷◌, ◌++◌, length, map, slice_get, IsSomeAnd, Some}
use Rattle.ad_base.specs.declared.image.Image.{Image}
use Rattle.ad_base.specs.Book.{contents_of}
use Rattle.ad_call.specs.Asked.{asked_in_call}
use Rattle.ad_call.specs.Call.{after_call, HasData}
use Rattle.ad_maps.specs.declared.view.Act.TheVariants as act
use Rattle.ad_maps.specs.Ledger as reads
use Rattle.ad_maps.specs.Ledger.{reads_of}
use Rattle.ad_maps.specs.MapPlace.{IsPlaceOf}
use Rattle.ad_maps.specs.Seen.{AddsUnmaps}
use Rattle.ad_stacks.specs.History as stacks
use Rattle.ad_stacks.specs.StackPlace.{IsStackPlace}
use Rattle.ad_turns.specs.Seen.{turn_of}
use Rattle.ad_turns.specs.Turns.{AddsOne, AreRising, HaveLengths}
use Rattle.ad_wrapper.specs.Asking.{act_of}
use Rattle.ad_wrapper.specs.Performed.{call_for, drawn_once}
use Rattle.ad_wrapper.specs.declared.hands.Hands.{Hands}
use Rattle.ad_wrapper.specs.declared.hands.Ready.{Ready}
use Rattle.ad_wrapper.specs.declared.shared.Shared.{Shared}
use Rattle.ad_wrapper.specs.declared.stages.LeftCall.{LeftCall}
use Rattle.ad_wrapper.specs.declared.stages.OpenCall.{OpenCall}

-- The worker is inside the module of its step, holds a stack, and has the module's book, as it was when its turn began, with
-- room for one entry more.
pub record IsUnder (s : Shared) (step : Ready) (u : OpenCall) : Type 0 where
  pub in_maps : u.inside.seat.table ≡ s.maps.table
  pub of_module : u.inside.of_module ≡ step.«module»
  pub is_place : IsPlaceOf s.maps.shape step.«module» u.inside.place
  pub in_stacks : u.stack.seat.table ≡ s.stacks.table
  pub is_stack : IsStackPlace u.stack.place
  pub in_turns : u.held.seat.table ≡ s.turns.table
  pub of_worker : u.held.seat.worker ≡ u.worker
  pub untouched : u.held.before ≡ u.held.book
  pub room : 0 < u.held.book.history.room
  pub lengths : IsSomeAnd (slice_get s.turns.openings step.«module») (λ opening. HaveLengths opening u.held.book)

-- The call began with these hands.
pub record Began (before : Hands) (step : Ready) (u : OpenCall) : Type 0 where
  pub worker : u.worker ≡ before.worker
  pub table : u.inside.seat.table ≡ before.seat.table
  pub seat_worker : u.inside.seat.worker ≡ before.seat.worker
  pub acts : u.inside.seat.acts ≡ before.seat.acts ++ act.Enter ∷ act.Read step.«module» u.inside.place ∷ []
  pub reads : reads.NeverFall (reads_of step.«module» u.inside.seat.acts)
  pub stack : u.stack.seat ≡ record before.stack_seat { taken = before.stack_seat.taken ++ u.stack.place ∷ [] }
  pub stacks : stacks.NeverFall u.stack.seat.taken
  pub turn : u.held.seat ≡ record before.turn_seat { left = drawn_once step.«module» before.turn_seat.left }
  pub at_module : u.held.«module» ≡ step.«module»
  pub entries : length u.held.book.history.entries ≡ u.held.ticket

-- The call ran.
pub record Ran (s : Shared) (step : Ready) (before after : OpenCall) : Type 0 where
  pub image : Image
  pub loaded : slice_get s.images step.«module» ≡ Some image
  pub has_data : HasData image before.held.book.writable before.held.book.fixed
  pub worker : after.worker ≡ before.worker
  pub table : after.inside.seat.table ≡ before.inside.seat.table
  pub seat_worker : after.inside.seat.worker ≡ before.inside.seat.worker
  pub acts : after.inside.seat.acts ≡ before.inside.seat.acts ++ map act_of (asked_in_call image s.fuel (contents_of before.held.book) (call_for before.worker step before.inside.place before.stack.place) step.args)
  pub stack : after.stack ≡ before.stack
  pub turn : after.held ≡ record before.held { book = after.held.book }
  pub called : contents_of after.held.book ≡ after_call image s.fuel (contents_of before.held.book) (call_for before.worker step before.inside.place before.stack.place) step.args
  pub room : after.held.book.history.room + 1 ≡ before.held.book.history.room
  pub lengths : HaveLengths before.held.book after.held.book

-- The book may be given back, and what the worker has in hand is of these tables.
pub record IsOver (s : Shared) (u : OpenCall) : Type 0 where
  pub in_maps : u.inside.seat.table ≡ s.maps.table
  pub in_stacks : u.stack.seat.table ≡ s.stacks.table
  pub in_turns : u.held.seat.table ≡ s.turns.table
  pub entry : AddsOne u.held.seat.worker u.held.before.history.entries u.held.book.history.entries
  pub room : u.held.before.history.room ≤ u.held.book.history.room + 1
  pub lengths : HaveLengths u.held.before u.held.book

-- The call left: its turn is given on, its worker is inside no module, and it holds its stack as before.
pub record Left (u : OpenCall) (left : LeftCall) : Type 0 where
  pub worker : left.worker ≡ u.worker
  pub table : left.seat.table ≡ u.inside.seat.table
  pub seat_worker : left.seat.worker ≡ u.inside.seat.worker
  pub unmaps : AddsUnmaps (u.inside.seat.acts ++ act.Leave ∷ []) left.seat.acts
  pub at_rest : left.seat.at_rest ≡ true
  pub stack : left.stack ≡ u.stack
  pub turn : left.turn_seat ≡ record u.held.seat { turns = u.held.seat.turns ++ turn_of u.held ∷ [] }
  pub positions : AreRising left.turn_seat.turns

-- The stack of the call that left was put back, and these are the worker's hands.
pub record PutBack (left : LeftCall) (after : Hands) : Type 0 where
  pub worker : after.worker ≡ left.worker
  pub seat : after.seat ≡ left.seat
  pub stack : after.stack_seat ≡ left.stack.seat
  pub turn : after.turn_seat ≡ left.turn_seat
