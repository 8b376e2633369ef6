-- How the world is read off the words and the views.
use Rattle.std.specs.Prelude.{◌≡◌, ◌≢◌, ◌⊎◌, ℕ, ◌+◌, ◌*◌, ◌^◌, ◌<◌, List, true, length, count_by, Some}
use Rattle.std.specs.FinMap as map
use Rattle.std.specs.FinSet as set
use mathlib.Core.Option.{some}
use lib.ListN.{get_elem?}
use Rattle.ad_base.specs.declared.place.Place.{Place}
use Rattle.ad_base.specs.Place.{packed}
use Rattle.ad_events.specs.declared.mapping.Status.{Status}
use Rattle.ad_events.specs.declared.mapping.Status.TheVariants.{Fresh, Current, Out, Gone}
use Rattle.ad_events.specs.declared.mapping.Mapping.{Mapping}
use Rattle.ad_events.specs.declared.event.Event.{Event}
use Rattle.ad_events.specs.World.{mapping_of, status_of, world_opening, MayBeInside}
use Rattle.ad_events.specs.WorldLaws.{world_run, AllLawful}
use Rattle.ad_events.specs.Owed.{is_inside, pushed_on}
use Rattle.ad_events.specs.ReclaimInvariant.{IsListed}
use Rattle.ad_maps.specs.declared.shape.Shape.{Shape}
use Rattle.ad_maps.specs.declared.view.Stance.{Stance}
use Rattle.ad_maps.specs.declared.view.Stance.TheVariants as stance
use Rattle.ad_maps.specs.declared.view.Hand.{Hand}
use Rattle.ad_maps.specs.declared.view.Plan.{Plan}
use Rattle.ad_maps.specs.declared.words.TheConstants.{MEMBERS}
use Rattle.ad_maps.specs.declared.view.Doing.{Doing}
use Rattle.ad_maps.specs.declared.view.Doing.TheVariants.{Worker, Mover}
use Rattle.ad_maps.specs.Laws.{found_in}
use Rattle.ad_maps.specs.MapPlace.{directory_word, member_word, numbers, IsPlaceOf}
use Rattle.ad_maps.specs.Names.{Slot, Current as CurrentWord, Directory, Member, IsName}
use Rattle.ad_maps.specs.Rule.{St, Kept, AreAll}

-- some view is worker w's, with this stance
abbrev pub IsAtStance : List Doing → ℕ → Stance → Type 0
IsAtStance views w d = (id : ℕ) × (h : Hand) × (h.stance ≡ d) × (get_elem? views id ≡ some (Worker w h))

-- the directory's word at the region of a mapping's place has one unmap step where the mapping is Gone, and none where it
-- isn't
abbrev pub DirectorySays : St → Place → Status → Type 0
DirectorySays s p status = ((status ≡ Gone) × (found_in s (Directory p.region) ≡ directory_word p 1)) ⊎ ((status ≢ Gone) × (found_in s (Directory p.region) ≡ packed p))

-- The world is read off the words and the views
pub record IsRead (shape : Shape) (s : St) (r : Kept shape s) : Type 0 where
  -- the world is what a list of lawful events makes of the opening's
  pub reached : (events : List Event) × AllLawful (world_opening shape.workers (numbers shape)) events × (r.state.world ≡ world_run (world_opening shape.workers (numbers shape)) events)
  -- the place that stands behind a mapping's number is one of the mapping's module, and has the number
  pub placed : (n : ℕ) (x : Mapping) → map.get r.state.world.mappings n ≡ Some x → ((r.places n).mapping ≡ n) × IsPlaceOf shape x.module (r.places n)
  -- a module's current word is that of the place of a mapping that is the module's, and Current
  pub current : (m : ℕ) → m < length shape.modules → (n : ℕ) × (map.get r.state.world.mappings n ≡ Some (mapping_of m Current)) × (found_in s (CurrentWord m) ≡ packed (r.places n))
  -- and the place of a mapping that is Current is that of its module's current word
  pub current_by : (n m : ℕ) → map.get r.state.world.mappings n ≡ Some (mapping_of m Current) → (m < length shape.modules) × (found_in s (CurrentWord m) ≡ packed (r.places n))
  -- the mover's list of fresh mappings has those that are Fresh, and no other
  pub fresh : (id : ℕ) (q : Plan) → get_elem? s.views id ≡ some (Mover q) → AreAll r.state.world.mappings r.places q.fresh Fresh
  -- the mover's list of mappings that are out has those that are Out, and no other
  pub outs : (id : ℕ) (q : Plan) → get_elem? s.views id ≡ some (Mover q) → AreAll r.state.world.mappings r.places q.outs Out
  -- the directory says of each mapping whether it is Gone
  pub directory : (n : ℕ) (x : Mapping) → map.get r.state.world.mappings n ≡ Some x → DirectorySays s (r.places n) x.status
  -- and a word of the directory that isn't 0 is at the region of a mapping's place
  pub directory_by : (g : ℕ) → IsName (Directory g) → found_in s (Directory g) ≢ 0 → (n : ℕ) × (x : Mapping) × (map.get r.state.world.mappings n ≡ Some x) × ((r.places n).region ≡ g)
  -- a worker whose view is inside a mapping is inside that in the world
  pub inside : (w entry m : ℕ) (p : Place) → IsAtStance s.views w (stance.Inside entry m p) → map.get r.state.world.inside w ≡ Some p.mapping
  -- and a worker that is inside a mapping in the world has a view that is inside it
  pub inside_by : (w n : ℕ) → map.get r.state.world.inside w ≡ Some n → (entry : ℕ) × (m : ℕ) × (p : Place) × (p.mapping ≡ n) × IsAtStance s.views w (stance.Inside entry m p)
  -- a worker whose view has entered has entered in the world
  pub entered : (w entry : ℕ) → IsAtStance s.views w (stance.Entered entry) → set.contains r.state.world.entered w ≡ true
  -- and a worker that has entered in the world has a view that has entered
  pub entered_by : (w : ℕ) → set.contains r.state.world.entered w ≡ true → (entry : ℕ) × IsAtStance s.views w (stance.Entered entry)
  -- a mapping that a view is inside is one in which workers may be, and isn't Gone
  pub pinned : (w entry m : ℕ) (p : Place) → IsAtStance s.views w (stance.Inside entry m p) → MayBeInside (map.get r.state.world.mappings p.mapping) × (status_of r.state.world p.mapping ≢ Some Gone)
  -- a slot's word is 2^32 times the last batch pushed on the slot, and one for each seat that is inside the slot
  pub slots : (t : ℕ) → t < shape.slots → found_in s (Slot t) ≡ 2 ^ 32 * pushed_on r.state.owed t + count_by (is_inside t) r.state.owed.seats
  -- a mapping that a batch lists has the word of one of the batch's members
  pub retired : (n b : ℕ) → r.state.batch n ≡ Some b → (k : ℕ) × (k < MEMBERS) × (found_in s (Member b k) ≡ member_word (r.lines n) (r.places n).region)
  -- a mapping that is retired or gone is listed in a batch, and has the word of one of its members, which isn't 0
  pub listed : (n : ℕ) → IsListed r.state.world n → (b : ℕ) × (k : ℕ) × (r.state.batch n ≡ Some b) × IsName (Member b k) × (found_in s (Member b k) ≢ 0) × (found_in s (Member b k) ≡ member_word (r.lines n) (r.places n).region)
  -- and a member's word that isn't 0 is that of a mapping which its batch lists, and which is retired or gone
  pub retired_by : (b k : ℕ) → IsName (Member b k) → found_in s (Member b k) ≢ 0 → (n : ℕ) × (r.state.batch n ≡ Some b) × IsListed r.state.world n × (found_in s (Member b k) ≡ member_word (r.lines n) (r.places n).region)

abbrev pub ReadingLaw : Type 0
ReadingLaw = (shape : Shape) (s : St) (r : Kept shape s) → IsRead shape s r
