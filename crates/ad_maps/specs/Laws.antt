-- The laws of the steps: made under its own conditions from any words and views that meet the rule, a step keeps the
-- rule, and the machine's state changes by the step it stands for.
use Rattle.std.specs.Prelude.{◌≡◌, ◌≢◌, ℕ, ◌+◌, ◌*◌, ◌-◌, ◌/◌, ◌%◌, ◌^◌, ◌<◌, List, [], ◌∷◌, ◌++◌, length, slice_index, slice_set, Contains}
use mathlib.Core.Option.{some}
use lib.ListN.{get_elem?}
use Rattle.atomic_table.specs.Table.{keeps, stepped}
use Rattle.ad_base.specs.declared.layout.TheConstants.{REGION_BYTES, REGIONS}
use Rattle.ad_base.specs.declared.place.Place.{Place}
use Rattle.ad_base.specs.Place.{base_of, packed, IsPlace, place_at}
use Rattle.ad_events.specs.Reclaim as machine
use Rattle.ad_events.specs.ReclaimLaws.{LawfulIfSome}
use Rattle.ad_maps.specs.declared.shape.Shape.{Shape}
use Rattle.ad_maps.specs.declared.words.TheConstants.{CELLS, FRAME_WORDS, MEMBERS}
use Rattle.ad_maps.specs.declared.view.Act.{Act}
use Rattle.ad_maps.specs.declared.view.Act.TheVariants as act
use Rattle.ad_maps.specs.declared.view.Stance.TheVariants as stance
use Rattle.ad_maps.specs.declared.view.Made.{Made}
use Rattle.ad_maps.specs.declared.view.Stage.TheVariants as stage
use Rattle.ad_maps.specs.declared.view.Freeing.TheVariants as freeing
use Rattle.ad_maps.specs.declared.view.Passing.{Passing}
use Rattle.ad_maps.specs.declared.view.Passing.TheVariants as passing
use Rattle.ad_maps.specs.declared.view.Plan.{Plan}
use Rattle.ad_maps.specs.declared.view.Doing.{Doing}
use Rattle.ad_maps.specs.declared.view.Doing.TheVariants.{Spent, Worker, Mover}
use Rattle.ad_maps.specs.Names.{Name, Slot, Current, Directory, Owner, Cell, Count, Member, index}
use Rattle.ad_maps.specs.MapPlace.{cell_word, cells_of, member_word, IsPlaceOf}
use Rattle.ad_maps.specs.Ledger.{all_made, IsLastIn}
use Rattle.ad_maps.specs.Rule.{St, Kept}
use Rattle.ad_maps.specs.Steps.{agent_of, freeing_of, gives_of, hand, new_hand, settles, after_enter, after_read, after_act, after_leave, after_pay, after_member, after_unmap, after_give, after_look, after_take, after_fill, after_map, after_switch, after_list, after_open, after_push, after_settle, dealing, gathering}

module _ (shape : Shape) where
  -- the step keeps the rule, and it stands for this step of the joined machine, which might be made there and whose event is lawful
  pub record Adds (s : St) (r : Kept shape s) (s' : St) (x : machine.Step) : Type 0 where
    pub may : machine.MayStep r.state x
    pub lawful : LawfulIfSome r.state.world (machine.event_of x)
    pub kept : Kept shape s'
    pub state : kept.state ≡ machine.after r.state x

  -- the step keeps the rule, and the machine's state stays as it is
  pub record Stays (s : St) (r : Kept shape s) (s' : St) : Type 0 where
    pub kept : Kept shape s'
    pub state : kept.state ≡ r.state

-- a seat writes to the word of a name what f makes of the word that it finds, and its view becomes v
abbrev pub moved : St → ℕ → Name → (ℕ → ℕ) → Doing → St
moved s id n f v = stepped s (index n) (f (slice_index s.words (index n))) id [] v keeps

-- what the seat finds in the word of a name
abbrev pub found_in : St → Name → ℕ
found_in s n = slice_index s.words (index n)

-- ---- a worker's steps

-- a worker that is away adds one to its slot's word: it has entered
abbrev pub EnterLaw : Type 0
EnterLaw = (shape : Shape) (s : St) (r : Kept shape s) (id w slot : ℕ) (gives : List Place) (acts : List Act)
    → let view : Doing = Worker w (hand slot stance.Away gives acts) in
    get_elem? s.views id ≡ some view
    → Adds shape s r (moved s id (Slot slot) (λ n. (n + 1) % 2 ^ 64) (after_enter view (found_in s (Slot slot)))) (machine.Enter w slot)

-- a worker that has entered loads the word of a module's current mapping: it has read the mapping whose place it finds
abbrev pub ReadLaw : Type 0
ReadLaw = (shape : Shape) (s : St) (r : Kept shape s) (id w slot entry m : ℕ) (gives : List Place) (acts : List Act)
    → let view : Doing = Worker w (hand slot (stance.Entered entry) gives acts) in
    get_elem? s.views id ≡ some view → m < length shape.modules
    → let found = found_in s (Current m) in
    Adds shape s r (moved s id (Current m) (λ n. n) (after_read m view found)) (machine.Read w m (place_at found).mapping)

-- a worker that is inside loads the directory's word of an address's region
abbrev pub PageLaw : Type 0
PageLaw = (shape : Shape) (s : St) (r : Kept shape s) (id w slot entry m : ℕ) (p : Place) (gives : List Place) (acts : List Act) (va : ℕ)
    → let view : Doing = Worker w (hand slot (stance.Inside entry m p) gives acts) in
    get_elem? s.views id ≡ some view → va / REGION_BYTES < REGIONS
    → let name = Directory (va / REGION_BYTES) in
    Stays shape s r (moved s id name (λ n. n) (after_act (act.Page va) view (found_in s name)))

-- a worker that is inside loads an entry of its mapping's local area
abbrev pub CellLaw : Type 0
CellLaw = (shape : Shape) (s : St) (r : Kept shape s) (id w slot entry m : ℕ) (p : Place) (gives : List Place) (acts : List Act) (e : ℕ)
    → let view : Doing = Worker w (hand slot (stance.Inside entry m p) gives acts) in
    get_elem? s.views id ≡ some view → e < CELLS
    → let name = Cell p.frame e in
    Stays shape s r (moved s id name (λ n. n) (after_act (act.Cell e) view (found_in s name)))

-- a worker that is inside takes one from its slot's word: it has left
abbrev pub LeaveLaw : Type 0
LeaveLaw = (shape : Shape) (s : St) (r : Kept shape s) (id w slot entry m : ℕ) (p : Place) (gives : List Place) (acts : List Act)
    → let view : Doing = Worker w (hand slot (stance.Inside entry m p) gives acts) in
    get_elem? s.views id ≡ some view
    → Adds shape s r (moved s id (Slot slot) (λ n. (n + (2 ^ 64 - 1)) % 2 ^ 64) (after_leave view (found_in s (Slot slot)))) (machine.Leave w)

-- a worker that has left, and hasn't paid all that it owes, takes one from the count of the first batch that it still owes
abbrev pub PayLaw : Type 0
PayLaw = (shape : Shape) (s : St) (r : Kept shape s) (id w slot paid last : ℕ) (gives : List Place) (acts : List Act)
    → let view : Doing = Worker w (hand slot (stance.Paying paid last) gives acts) in
    get_elem? s.views id ≡ some view
    → let name = Count (paid + 1) in
    Adds shape s r (moved s id name (λ n. (n + (2 ^ 64 - 1)) % 2 ^ 64) (after_pay view (found_in s name))) (machine.Pay w)

-- ---- the steps of who frees a batch, a worker or the mover

-- it loads the word of a member of its batch
abbrev pub MemberLaw : Type 0
MemberLaw = (shape : Shape) (s : St) (r : Kept shape s) (id : ℕ) (view : Doing) (b k : ℕ)
    → get_elem? s.views id ≡ some view → freeing_of view ≡ freeing.Batch b k
    → let name = Member b k in
    Stays shape s r (moved s id name (λ n. n) (after_member view (found_in s name)))

-- it adds one unmap step to the directory's word of the member's region: it has unmapped the mapping whose place it finds
abbrev pub UnmapLaw : Type 0
UnmapLaw = (shape : Shape) (s : St) (r : Kept shape s) (id : ℕ) (view : Doing) (b k word : ℕ)
    → get_elem? s.views id ≡ some view → freeing_of view ≡ freeing.Found b k word → gives_of view ≡ []
    → let name = Directory (word % 2 ^ 16) in
    let found = found_in s name in
    Adds shape s r (moved s id name (λ n. (n + 2 ^ 56) % 2 ^ 64) (after_unmap view found)) (machine.Unmap (place_at found).mapping (agent_of view))

-- it gives the frame back of the mapping that it unmapped
abbrev pub GiveLaw : Type 0
GiveLaw = (shape : Shape) (s : St) (r : Kept shape s) (id : ℕ) (view : Doing) (p : Place)
    → get_elem? s.views id ≡ some view → gives_of view ≡ p ∷ []
    → let name = Owner p.frame in
    Stays shape s r (moved s id name (λ _. 0) (after_give view (found_in s name)))

-- ---- the mover's steps

-- the mover looks at the owner of a frame
abbrev pub LookLaw : Type 0
LookLaw = (shape : Shape) (s : St) (r : Kept shape s) (id : ℕ) (q : Plan) (f : ℕ)
    → get_elem? s.views id ≡ some (Mover q) → f < FRAME_WORDS
    → Stays shape s r (moved s id (Owner f) (λ n. n) (after_look f (Mover q) (found_in s (Owner f))))

-- what may be mapped: at a place of the module, in a frame that has no owner, with a number above those of all mappings
-- made before, in a region that none of them has
pub record MayMap (shape : Shape) (q : Plan) (g : Made) : Type 0 where
  pub form : IsPlaceOf shape g.of_module g.place
  pub room : Contains q.rooms g.place.frame
  pub above : (x : Made) → Contains (all_made shape q.deeds) x → x.place.mapping < g.place.mapping
  pub region : (x : Made) → Contains (all_made shape q.deeds) x → x.place.region ≢ g.place.region

-- the mover takes the frame of a new mapping
abbrev pub TakeLaw : Type 0
TakeLaw = (shape : Shape) (s : St) (r : Kept shape s) (id : ℕ) (q : Plan) (g : Made)
    → get_elem? s.views id ≡ some (Mover q) → q.stage ≡ stage.Idle → MayMap shape q g
    → let name = Owner g.place.frame in
    Stays shape s r (moved s id name (λ _. g.place.mapping) (after_take g (Mover q) (found_in s name)))

-- the mover fills the next cell of the frame that it took, for the new mapping's own base
abbrev pub FillLaw : Type 0
FillLaw = (shape : Shape) (s : St) (r : Kept shape s) (id : ℕ) (q : Plan) (g : Made) (e : ℕ)
    → get_elem? s.views id ≡ some (Mover q) → q.stage ≡ stage.Taken g e → e < length (cells_of shape g.of_module)
    → let name = Cell g.place.frame e in
    Stays shape s r (moved s id name (λ _. cell_word (cells_of shape g.of_module) (base_of g.place) e) (after_fill (Mover q) (found_in s name)))

-- the mover puts the new mapping into the directory, once its cells are filled
abbrev pub MapLaw : Type 0
MapLaw = (shape : Shape) (s : St) (r : Kept shape s) (id : ℕ) (q : Plan) (g : Made)
    → get_elem? s.views id ≡ some (Mover q) → q.stage ≡ stage.Taken g (length (cells_of shape g.of_module))
    → let name = Directory g.place.region in
    Adds shape s r (moved s id name (λ _. packed g.place) (after_map (Mover q) (found_in s name))) (machine.Map g.of_module g.place.mapping)

-- the mover swaps the word of a module's current mapping with that of a new one, whose number is above it
abbrev pub SwitchLaw : Type 0
SwitchLaw = (shape : Shape) (s : St) (r : Kept shape s) (id : ℕ) (q : Plan) (g : Made)
    → get_elem? s.views id ≡ some (Mover q) → Contains q.fresh g → slice_index q.current g.of_module < g.place.mapping
    → let name = Current g.of_module in
    Adds shape s r (moved s id name (λ _. packed g.place) (after_switch g (Mover q) (found_in s name))) (machine.Switch g.of_module g.place.mapping)

-- the mover's next batch has k members, and one more may be listed
abbrev pub MayList : Passing → ℕ → Type 0
MayList passing.Rest k = k ≡ 0
MayList (passing.Listing n) k = n ≡ k
MayList (passing.Settled s) k = ⊥
MayList (passing.Pushed s found) k = ⊥

-- the mover lists a mapping that is out in its next batch, under a line: it has retired it
abbrev pub ListLaw : Type 0
ListLaw = (shape : Shape) (s : St) (r : Kept shape s) (id : ℕ) (q : Plan) (g : Made) (line k : ℕ)
    → get_elem? s.views id ≡ some (Mover q) → MayList q.passing k → k < MEMBERS → Contains q.outs g → 0 < line
    → let name = Member (q.batches + 1) k in
    Adds shape s r (moved s id name (λ _. member_word line g.place.region) (after_list g line (Mover q) (found_in s name))) (machine.Retire g.place.mapping)

-- the mover opens the batch that it has listed: its count says that it isn't pushed on any slot
abbrev pub OpenLaw : Type 0
OpenLaw = (shape : Shape) (s : St) (r : Kept shape s) (id : ℕ) (q : Plan) (k : ℕ)
    → get_elem? s.views id ≡ some (Mover q) → q.passing ≡ passing.Listing k
    → let name = Count (q.batches + 1) in
    Adds shape s r (moved s id name (λ _. shape.slots * 2 ^ 32) (after_open (Mover q) (found_in s name))) machine.Open

-- the mover pushes the batch on the next slot, and finds how many are inside
abbrev pub PushLaw : Type 0
PushLaw = (shape : Shape) (s : St) (r : Kept shape s) (id : ℕ) (q : Plan) (slot : ℕ)
    → get_elem? s.views id ≡ some (Mover q) → q.passing ≡ passing.Settled slot
    → let name = Slot slot in
    Adds shape s r (moved s id name (λ n. (n + 2 ^ 32) % 2 ^ 64) (after_push (Mover q) (found_in s name))) (machine.Push slot)

-- the mover settles the slot on which it pushed the batch: those that it found inside are to pay, and nobody else
abbrev pub SettleLaw : Type 0
SettleLaw = (shape : Shape) (s : St) (r : Kept shape s) (id : ℕ) (q : Plan) (slot inside : ℕ)
    → get_elem? s.views id ≡ some (Mover q) → q.passing ≡ passing.Pushed slot inside → q.freeing ≡ freeing.Nothing
    → let name = Count q.batches in
    Adds shape s r (moved s id name (λ n. (n + (2 ^ 64 - settles inside)) % 2 ^ 64) (after_settle (Mover q) (found_in s name))) (machine.Settle slot)

-- ---- splitting and joining

-- the seat of the next worker is split off the mover's
abbrev pub SplitLaw : Type 0
SplitLaw = (shape : Shape) (s : St) (r : Kept shape s) (id : ℕ) (q : Plan) → get_elem? s.views id ≡ some (Mover q) → q.dealt < shape.workers → q.back ≡ []
    → Stays shape s r (record { words = s.words; homes = s.homes; views = slice_set s.views id (Mover (dealing q)) ++ Worker q.dealt (new_hand (q.dealt % q.slots)) ∷ [] })

-- the seat of the next worker, away, is joined to the mover's
abbrev pub JoinLaw : Type 0
JoinLaw = (shape : Shape) (s : St) (r : Kept shape s) (id : ℕ) (q : Plan) (other w slot : ℕ) (acts : List Act)
    → let h = hand slot stance.Away [] acts in
    get_elem? s.views id ≡ some (Mover q) → ¬ (other ≡ id) → get_elem? s.views other ≡ some (Worker w h) → w ≡ length q.back
    → Stays shape s r (record { words = s.words; homes = s.homes; views = slice_set (slice_set s.views id (Mover (gathering q h))) other Spent })

-- ---- what the mover finds

-- where no new mapping is under way, the mover finds in a frame's owner 0 or the mapping that was made last in the frame
abbrev pub OwnerLaw : Type 0
OwnerLaw = (shape : Shape) (s : St) (r : Kept shape s) (id : ℕ) (q : Plan) (f : ℕ)
    → get_elem? s.views id ≡ some (Mover q) → q.stage ≡ stage.Idle → f < FRAME_WORDS → found_in s (Owner f) ≢ 0
    → IsLastIn (all_made shape q.deeds) f (found_in s (Owner f))

-- ---- what a worker that is inside finds

-- a worker inside finds the directory's word of its own mapping in its region, and in any other region no word of a
-- place with its number
abbrev pub OwnPagesLaw : Type 0
OwnPagesLaw = (shape : Shape) (s : St) (r : Kept shape s) (id w slot entry m : ℕ) (p : Place) (gives : List Place) (acts : List Act)
    → get_elem? s.views id ≡ some (Worker w (hand slot (stance.Inside entry m p) gives acts))
    → (found_in s (Directory p.region) ≡ packed p)
    × ((v : ℕ) (q : Place) → v < REGIONS → v ≢ p.region → IsPlace q → found_in s (Directory v) ≡ packed q → q.mapping ≢ p.mapping)

-- a worker inside finds the cells of its own mapping: each for its own base, or the number, and 0 past them
abbrev pub OwnCellsLaw : Type 0
OwnCellsLaw = (shape : Shape) (s : St) (r : Kept shape s) (id w slot entry m : ℕ) (p : Place) (gives : List Place) (acts : List Act) (e : ℕ)
    → get_elem? s.views id ≡ some (Worker w (hand slot (stance.Inside entry m p) gives acts)) → e < CELLS
    → found_in s (Cell p.frame e) ≡ cell_word (cells_of shape m) (base_of p) e
