-- The tables of a run as they are opened, and what each thread has in hand then.
use Rattle.std.specs.Prelude.{◌≡◌, ◌<◌, ◌≤◌, ◌*◌, ℕ, List, [], length, map, slice_get, vec_capacity, IsSomeAnd, sum_by}
use Rattle.std.specs.List.{enumerate_from, range_with_len, zip}
use Rattle.ad_base.specs.declared.image.Image.{Image}
use Rattle.ad_base.specs.declared.ledger.Kind.{Kind}
use Rattle.ad_base.specs.declared.ledger.Kind.TheVariants.{Code, Fixed, Stack}
use Rattle.ad_base.specs.declared.place.Place.{Place}
use Rattle.ad_base.specs.Book.{contents_of}
use Rattle.ad_base.specs.Ledger.{Mapping}
use Rattle.ad_core.specs.Turn.{opening_contents}
use Rattle.ad_lines.specs.Opening.{opening_drawn, opening_mappings, places_of_kind}
use Rattle.ad_lines.specs.Room.{moves_of}
use Rattle.ad_lines.specs.Sound.{Lines}
use Rattle.ad_maps.specs.declared.shape.Opening.{Opening}
use Rattle.ad_maps.specs.declared.shape.Shape.{Shape}
use Rattle.ad_maps.specs.declared.words.TheConstants.{MEMBERS}
use Rattle.ad_maps.specs.MapPlace.{numbers}
use Rattle.ad_maps.specs.Seen as maps
use Rattle.ad_mover.specs.declared.mover.Mover.{Mover}
use Rattle.ad_mover.specs.Moves.{Moving}
use Rattle.ad_mover.specs.Seen.{moving, IsMoverOf}
use Rattle.ad_run.specs.declared.seats.SeatLists.{SeatLists}
use Rattle.ad_run.specs.Calls.{calls_at, calls_of_worker}
use Rattle.ad_stacks.specs.Seen as stacks
use Rattle.ad_turns.specs.Seen as turns
use Rattle.ad_wrapper.specs.declared.hands.Hands.{Hands}
use Rattle.ad_wrapper.specs.declared.shared.Shared.{Shared}
use Rattle.ad_wrapper.specs.Fits.{Fits}

-- the mappings before the first line, as the seed draws them
abbrev pub drawn_mappings : Lines → List Mapping
drawn_mappings l = opening_mappings l.workers l.images (opening_drawn l.seed l.workers l.images).places

-- the number of the table frame that a mapping begins with: a movable part has the first frame of its module
abbrev pub first_frame : ℕ → Kind → ℕ → ℕ
first_frame frames Code who = who * frames
first_frame frames Fixed who = 0
first_frame frames Stack who = 0

abbrev pub with_first_frame : ℕ → Mapping → Mapping
with_first_frame frames m = record m { place = record m.place { frame = first_frame frames m.kind m.who } }

-- the mappings before the first line, of modules that have so many frames each
abbrev pub opening_in_frames : ℕ → Lines → List Mapping
opening_in_frames frames l = map (with_first_frame frames) (drawn_mappings l)

-- a module as the mapping table is opened: at its place, in its first frame, with the cells of its image
abbrev pub opening_for : ℕ → (ℕ × Image) × Place → Opening
opening_for frames ((m, i), p) = record { place = record p { frame = m * frames }; cells = i.cells }

-- what the mapping table is opened with
abbrev pub shape_for : ℕ → ℕ → Lines → Shape
shape_for slots frames l = record {
  slots = slots;
  frames = frames;
  workers = l.workers;
  modules = map (opening_for frames) (zip (enumerate_from 0 l.images) (places_of_kind Code (drawn_mappings l)));
}

-- the draws that a worker may make: one for each of its calls of a module
abbrev pub draws_for : Lines → ℕ → List ℕ
draws_for l w = map (λ m. calls_at m (calls_of_worker w l.steps)) (range_with_len 0 (length l.images))

-- the hands of a worker that made no call yet
pub record AreNewHands (s : Shared) (l : Lines) (w : ℕ) (h : Hands) : Type 0 where
  pub worker : h.worker ≡ w
  pub seat : h.seat ≡ maps.new_seat s.maps.table w
  pub stack_seat : h.stack_seat ≡ stacks.new_seat s.stacks.table w
  pub turn_seat : h.turn_seat ≡ turns.new_seat s.turns.table w (draws_for l w)

-- a mover that made no move yet, with what was drawn for the opening
abbrev pub new_moving : Lines → Shape → Moving
new_moving l shape = record { drawn = opening_drawn l.seed l.workers l.images; deeds = []; current = numbers shape; refreshes = []; moves = [] }

-- the tables are opened for these lines: for their images, at the places that are drawn for them, with books that hold what
-- those of the images hold before the first call
pub record IsOpenedFor (slots frames : ℕ) (l : Lines) (s : Shared) : Type 0 where
  pub images : s.images ≡ l.images
  pub fuel : s.fuel ≡ l.fuel
  pub shape : s.maps.shape ≡ shape_for slots frames l
  pub lanes : s.stacks.openings ≡ places_of_kind Stack (drawn_mappings l)
  pub books : map contents_of s.turns.openings ≡ map opening_contents l.images
  pub calls : s.turns.calls ≡ map (draws_for l) (range_with_len 0 l.workers)
  pub fits : Fits s

-- one pair of hands for each worker, in order
pub record AreAllNewHands (s : Shared) (l : Lines) (hands : List Hands) : Type 0 where
  pub count : length hands ≡ l.workers
  pub each : (w : ℕ) → w < l.workers → IsSomeAnd (slice_get hands w) (AreNewHands s l w)

-- The mover made no move yet. It has room for what one line retires, and for what comes of the moves of the steps.
pub record IsNewMover (s : Shared) (l : Lines) (m : Mover) : Type 0 where
  pub who : m.who ≡ l.workers
  pub seen : moving m ≡ new_moving l s.maps.shape
  pub of_tables : IsMoverOf s m
  pub lanes : m.stack_mover.lanes ≡ l.workers
  pub no_outs : m.outs.items ≡ []
  pub outs : MEMBERS ≤ vec_capacity m.outs
  pub done : sum_by moves_of l.steps ≤ vec_capacity m.done

-- there is room for the seats of all workers
pub record HasRoomFor (workers : ℕ) (r : SeatLists) : Type 0 where
  pub no_seat : r.seats.items ≡ []
  pub no_stack_seat : r.stack_seats.items ≡ []
  pub no_turn_seat : r.turn_seats.items ≡ []
  pub seats : workers ≤ vec_capacity r.seats
  pub stack_seats : workers ≤ vec_capacity r.stack_seats
  pub turn_seats : workers ≤ vec_capacity r.turn_seats
