-- The table as `open` makes it: its words, and the views of the seats, as each is dealt.
use Rattle.std.specs.Prelude.{◌≡◌, ◌≢◌, ℕ, ◌%◌, ◌<◌, ◌≤◌, ◌==◌, [], ◌∷◌, map, length, slice_get, All, Option}
use Rattle.std.specs.List.{find, range_with_len}
use Rattle.std.specs.Option.{option_map_or}
use Rattle.atomic_table.specs.Table.{opening}
use Rattle.ad_base.specs.Place.{base_of, packed}
use Rattle.ad_maps.specs.declared.shape.Opening.{Opening}
use Rattle.ad_maps.specs.declared.shape.Shape.{Shape}
use Rattle.ad_maps.specs.declared.view.Doing.{Doing}
use Rattle.ad_maps.specs.declared.view.Doing.TheVariants.{Worker, Mover}
use Rattle.ad_maps.specs.declared.words.TheConstants.{SLOTS, MODULE_WORDS, REGION_WORDS, FRAME_WORDS, CELLS, NUMBERS, MEMBERS, WORDS}
use Rattle.ad_maps.specs.Laws.{found_in}
use Rattle.ad_maps.specs.MapPlace.{cell_word, opening_of, IsShape}
use Rattle.ad_maps.specs.Names.{Slot, Current, Directory, Owner, Cell, Count, Member, Words, in_order}
use Rattle.ad_maps.specs.Rule.{St, Kept, IsMapped, starting, starting_plan}
use Rattle.ad_maps.specs.Steps.{new_hand}

-- ---- the words

-- the module that is opened in a region
abbrev pub in_region : Shape → ℕ → Option Opening
in_region shape r = find (λ (o : Opening). o.place.region == r) shape.modules

-- the module that is opened in a frame
abbrev pub in_frame : Shape → ℕ → Option Opening
in_frame shape f = find (λ (o : Opening). o.place.frame == f) shape.modules

-- what the words hold
abbrev pub opening_words : Shape → Words
opening_words shape = record {
  slot = λ s. 0;
  current = λ m. option_map_or (λ (o : Opening). packed o.place) (slice_get shape.modules m) 0;
  directory = λ r. option_map_or (λ (o : Opening). packed o.place) (in_region shape r) 0;
  owner = λ f. option_map_or (λ (o : Opening). o.place.mapping) (in_frame shape f) 0;
  cell = λ f e. option_map_or (λ (o : Opening). cell_word o.cells (base_of o.place) e) (in_frame shape f) 0;
  count = λ b. 0;
  member = λ b k. 0;
}

-- no module is opened in this region
abbrev pub IsEmptyRegion : Shape → ℕ → Type 0
IsEmptyRegion shape r = All (λ (o : Opening). o.place.region ≢ r) shape.modules

-- no module is opened in this frame
abbrev pub IsEmptyFrame : Shape → ℕ → Type 0
IsEmptyFrame shape f = All (λ (o : Opening). o.place.frame ≢ f) shape.modules

-- Read by name, the words say that each module's first mapping is its current one, is in the directory without unmap
-- steps, owns its frame, and has its cells there; that there is no mapping in any other region or frame, and no other
-- module; that nobody has entered, and no batch was pushed; and that no batch has a count or a member
pub record AreOpeningWords (shape : Shape) (s : St) : Type 0 where
  pub long : length s.words ≡ WORDS
  pub current : (m : ℕ) → m < length shape.modules → found_in s (Current m) ≡ packed (opening_of shape m).place
  pub mapped : (m : ℕ) → m < length shape.modules → IsMapped shape (λ r. found_in s (Directory r)) (λ f. found_in s (Owner f)) (λ f e. found_in s (Cell f e)) m (opening_of shape m).place
  pub no_mapping : (r : ℕ) → r < REGION_WORDS → IsEmptyRegion shape r → found_in s (Directory r) ≡ 0
  pub no_owner : (f : ℕ) → f < FRAME_WORDS → IsEmptyFrame shape f → found_in s (Owner f) ≡ 0
  pub no_cell : (f e : ℕ) → f < FRAME_WORDS → e < CELLS → IsEmptyFrame shape f → found_in s (Cell f e) ≡ 0
  pub no_module : (m : ℕ) → length shape.modules ≤ m → m < MODULE_WORDS → found_in s (Current m) ≡ 0
  pub slots : (t : ℕ) → t < SLOTS → found_in s (Slot t) ≡ 0
  pub counts : (b : ℕ) → b < NUMBERS → found_in s (Count b) ≡ 0
  pub members : (b k : ℕ) → b < NUMBERS → k < MEMBERS → found_in s (Member b k) ≡ 0

-- ---- the words and the views

-- the mover's view once the first k workers have been dealt their seats
abbrev pub mover_dealt : Shape → ℕ → Doing
mover_dealt shape k = Mover (record (starting_plan shape) { dealt = k })

-- the view of the seat that a worker is dealt: it is away, and did nothing yet
abbrev pub worker_dealt : Shape → ℕ → Doing
worker_dealt shape w = Worker w (new_hand (w % shape.slots))

-- the table as it is opened
abbrev pub opened_table : Shape → St
opened_table shape = opening (in_order (opening_words shape)) [] (starting shape)

-- the table once the first k workers have been dealt their seats
abbrev pub dealt_table : Shape → ℕ → St
dealt_table shape k = record { words = in_order (opening_words shape); homes = []; views = mover_dealt shape k ∷ map (worker_dealt shape) (range_with_len 0 k) }

-- ---- the laws

-- the words that a table is opened with are an opening table's
abbrev pub OpeningWordsLaw : Type 0
OpeningWordsLaw = (shape : Shape) → IsShape shape → AreOpeningWords shape (opened_table shape)

-- the table as it is opened meets the rule
abbrev pub OpenedLaw : Type 0
OpenedLaw = (shape : Shape) → IsShape shape → Kept shape (opened_table shape)

-- and so does it behind each seat that is dealt
abbrev pub DealtLaw : Type 0
DealtLaw = (shape : Shape) → IsShape shape → (k : ℕ) → k ≤ shape.workers → Kept shape (dealt_table shape k)
