-- What a call makes of its worker's hands, as a relation between the hands before and after.
use Rattle.std.specs.Prelude.{◌≡◌, ℕ, ◌-◌, true, List, [], ◌∷◌, ◌++◌, length, map, slice_get, slice_index, slice_set, Some}
use Rattle.ad_base.specs.declared.image.Image.{Image}
use Rattle.ad_base.specs.declared.place.Place.{Place}
use Rattle.ad_base.specs.Book.{contents_of}
use Rattle.ad_call.specs.declared.asked.Asked.{Asked}
use Rattle.ad_call.specs.declared.call.Call.{Call}
use Rattle.ad_call.specs.Asked.{asked_in_call}
use Rattle.ad_call.specs.Call.{after_call, HasData}
use Rattle.ad_maps.specs.declared.view.Act.{Act}
use Rattle.ad_maps.specs.declared.view.Act.TheVariants as act
use Rattle.ad_maps.specs.Ledger as reads
use Rattle.ad_maps.specs.Ledger.{reads_of}
use Rattle.ad_maps.specs.MapPlace.{IsPlaceOf}
use Rattle.ad_stacks.specs.History as stacks
use Rattle.ad_stacks.specs.StackPlace.{IsStackPlace}
use Rattle.ad_turns.specs.declared.view.Turn.{Turn}
use Rattle.ad_turns.specs.Turns.{AreRising}
use Rattle.ad_wrapper.specs.Asking.{act_of}
use Rattle.ad_wrapper.specs.declared.hands.Hands.{Hands}
use Rattle.ad_wrapper.specs.declared.hands.Ready.{Ready}
use Rattle.ad_wrapper.specs.declared.shared.Shared.{Shared}

-- the call that a worker makes for a step, under the place that it read and on the stack that it took
abbrev pub call_for : ℕ → Ready → Place → Place → Call
call_for worker step under stack = record { line = step.line; worker = worker; export = step.export; under = under; stack = stack }

-- What a call does in the mapping table: it enters, reads the place of its module, asks for pages and local words, leaves, and
-- unmaps the mappings of each batch of which it was the last to pay what was owed.
abbrev pub acts_of_call : ℕ → Place → List Asked → List ℕ → List Act
acts_of_call m under list unmaps = act.Enter ∷ act.Read m under ∷ map act_of list ++ act.Leave ∷ map (λ (n : ℕ). act.Unmap n) unmaps

-- the draws once one of a module was made
abbrev pub drawn_once : ℕ → List ℕ → List ℕ
drawn_once m left = slice_set left m (slice_index left m - 1)

-- The worker made the call of this step, and its hands before are these after.
pub record Performed (s : Shared) (before : Hands) (step : Ready) (after : Hands) : Type 0 where
  -- the image that it called
  pub image : Image
  pub loaded : slice_get s.images step.«module» ≡ Some image
  -- the place that it read, and the stack that it took
  pub under : Place
  pub stack : Place
  pub is_place : IsPlaceOf s.maps.shape step.«module» under
  pub is_stack : IsStackPlace stack
  -- its turn at the module's book, which had as much data as the image: the plain machine's call, between what the book held before
  -- and what it held after
  pub turn : Turn
  pub at_module : turn.«module» ≡ step.«module»
  pub position : turn.position ≡ length turn.before.history.entries
  pub has_data : HasData image turn.before.writable turn.before.fixed
  pub called : contents_of turn.after ≡ after_call image s.fuel (contents_of turn.before) (call_for before.worker step under stack) step.args
  -- the mappings that it unmapped
  pub unmapped : List ℕ
  -- the hands after: those before, with what the call did appended
  pub worker : after.worker ≡ before.worker
  pub seat : after.seat ≡ record before.seat {
    acts = before.seat.acts ++ acts_of_call step.«module» under (asked_in_call image s.fuel (contents_of turn.before) (call_for before.worker step under stack) step.args) unmapped;
    at_rest = true;
  }
  pub stack_seat : after.stack_seat ≡ record before.stack_seat { taken = before.stack_seat.taken ++ stack ∷ [] }
  pub turn_seat : after.turn_seat ≡ record before.turn_seat { left = drawn_once step.«module» before.turn_seat.left; turns = before.turn_seat.turns ++ turn ∷ [] }
  -- the numbers of the mappings of its module that it read never fall, nor do those of its stacks, and its positions rise
  pub reads : reads.NeverFall (reads_of step.«module» after.seat.acts)
  pub stacks : stacks.NeverFall after.stack_seat.taken
  pub positions : AreRising after.turn_seat.turns
