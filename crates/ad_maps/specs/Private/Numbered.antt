-- The directory of a closed table, by mapping number, and the rows that its words say.
use Rattle.std.specs.Prelude.{◌≡◌, ◌≢◌, ℕ, ◌+◌, ◌*◌, ◌/◌, ◌%◌, ◌^◌, ◌<◌, List, [], length, map, slice_index, All, Contains}
use Rattle.ad_base.specs.declared.ledger.Kind.TheVariants.{Code}
use Rattle.ad_base.specs.declared.ledger.Row.{Row}
use Rattle.ad_base.specs.declared.place.Place.{Place}
use Rattle.ad_base.specs.Place.{packed, IsPlace, place_at}
use Rattle.ad_maps.specs.declared.view.Act.{Act}
use Rattle.ad_maps.specs.declared.shape.Shape.{Shape}
use Rattle.ad_maps.specs.declared.view.Deed.{Deed}
use Rattle.ad_maps.specs.declared.view.Hand.{Hand}
use Rattle.ad_maps.specs.declared.view.Plan.{Plan}
use Rattle.ad_maps.specs.declared.view.Doing.TheVariants.{Mover}
use Rattle.ad_maps.specs.declared.words.TheConstants.{MEMBERS, NUMBERS, REGION_WORDS, DIRECTORY_BASE, MEMBER_BASE}
use Rattle.ad_maps.specs.Ledger.{all_made}
use Rattle.ad_maps.specs.Rows.{AreInOrder, AreRowsOf, HaveReadRows, HaveRowOfEach, HaveUnmappedRows, HaveUnmapsTold}
use Rattle.ad_maps.specs.Seen.{SeatSeen}
use Rattle.ad_maps.specs.Steps.{Sat}
use Rattle.ad_maps.specs.Private.Handles.{plan_of}

-- the place that a directory word says, and its count of unmap steps
abbrev pub place_in : ℕ → Place
place_in word = place_at (word % 2 ^ 56)

-- a directory word that isn't 0 has a place
pub record HasPlace (word : ℕ) : Type 0 where
  pub place : IsPlace (place_in word)
  pub packs : word % 2 ^ 56 ≡ packed (place_in word)

-- the directory's word for a region
abbrev pub directory_at : List ℕ → ℕ → ℕ
directory_at words r = slice_index words (DIRECTORY_BASE + r)

-- a directory in which each word is 0 or has a place, and no two have one mapping
pub record IsDirectory (words : List ℕ) : Type 0 where
  pub form : (r : ℕ) → r < REGION_WORDS → directory_at words r ≢ 0 → HasPlace (directory_at words r)
  pub once : (r q : ℕ) → r < REGION_WORDS → q < REGION_WORDS → directory_at words r ≢ 0 → directory_at words q ≢ 0 → (place_in (directory_at words r)).mapping ≡ (place_in (directory_at words q)).mapping → r ≡ q

-- the words of the regions below k stand at the numbers of their mappings, and 0 at each other number
pub record AreNumbered (words : List ℕ) (k : ℕ) (numbered : List ℕ) : Type 0 where
  pub len : length numbered ≡ NUMBERS
  pub found : (n : ℕ) → n < NUMBERS → slice_index numbered n ≢ 0 → (r : ℕ) × (r < k) × (directory_at words r ≡ slice_index numbered n) × ((place_in (slice_index numbered n)).mapping ≡ n)
  pub each : (r : ℕ) → r < k → directory_at words r ≢ 0 → slice_index numbered (place_in (directory_at words r)).mapping ≡ directory_at words r

-- the word of each number is 0, or has a place with that number
pub record IsByNumber (numbered : List ℕ) : Type 0 where
  pub len : length numbered ≡ NUMBERS
  pub form : (n : ℕ) → n < NUMBERS → slice_index numbered n ≢ 0 → HasPlace (slice_index numbered n)
  pub number : (n : ℕ) → n < NUMBERS → slice_index numbered n ≢ 0 → (place_in (slice_index numbered n)).mapping ≡ n

-- the word of a member, the members of all batches in order
abbrev pub member_at : List ℕ → ℕ → ℕ
member_at words i = slice_index words (MEMBER_BASE + i)

-- the region and the line that a member's word says
abbrev pub region_in : ℕ → ℕ
region_in word = word % 2 ^ 16

abbrev pub line_of : ℕ → ℕ
line_of word = word / 2 ^ 16

-- no two members have one region
abbrev pub AreMembers : List ℕ → Type 0
AreMembers words = (i j : ℕ) → i < NUMBERS * MEMBERS → j < NUMBERS * MEMBERS → member_at words i ≢ 0 → member_at words j ≢ 0 → region_in (member_at words i) ≡ region_in (member_at words j) → i ≡ j

-- the lines of the members below k stand at their regions, and 0 at each other region
pub record AreLined (words : List ℕ) (k : ℕ) (lines : List ℕ) : Type 0 where
  pub len : length lines ≡ REGION_WORDS
  pub found : (r : ℕ) → r < REGION_WORDS → slice_index lines r ≢ 0 → (i : ℕ) × (i < k) × (member_at words i ≢ 0) × (region_in (member_at words i) ≡ r)
  pub each : (i : ℕ) → i < k → member_at words i ≢ 0 → slice_index lines (region_in (member_at words i)) ≡ line_of (member_at words i)

-- the row of a directory word, where each module has so many frames and the lines stand at the regions
abbrev pub row_at : ℕ → List ℕ → ℕ → Row
row_at frames lines word = record {
  mapping = (place_in word).mapping;
  kind = Code;
  who = (place_in word).frame / frames;
  place = place_in word;
  line = slice_index lines (place_in word).region;
  unmaps = word / 2 ^ 56;
}

-- the rows of the words below k, in order
pub record AreRowsBelow (frames : ℕ) (lines numbered : List ℕ) (k : ℕ) (rows : List Row) : Type 0 where
  pub each_word : (n : ℕ) → n < k → slice_index numbered n ≢ 0 → Contains rows (row_at frames lines (slice_index numbered n))
  pub each_row : (r : Row) → Contains rows r → (n : ℕ) × (n < k) × (slice_index numbered n ≢ 0) × (r ≡ row_at frames lines (slice_index numbered n))
  pub in_order : AreInOrder rows
  pub below : All (λ (r : Row). r.mapping < k) rows

-- the rows are those of the directory's words that aren't 0, in order of number
pub record SayRows (frames : ℕ) (lines words : List ℕ) (rows : List Row) : Type 0 where
  pub each_word : (r : ℕ) → r < REGION_WORDS → directory_at words r ≢ 0 → Contains rows (row_at frames lines (directory_at words r))
  pub each_row : (x : Row) → Contains rows x → (r : ℕ) × (r < REGION_WORDS) × (directory_at words r ≢ 0) × (x ≡ row_at frames lines (directory_at words r))
  pub in_order : AreInOrder rows

-- the rows are those of the directory's words and the members' lines
pub record SayLinedRows (frames : ℕ) (words : List ℕ) (rows : List Row) : Type 0 where
  pub lines : List ℕ
  pub are : AreLined words (NUMBERS * MEMBERS) lines
  pub say : SayRows frames lines words rows

-- the rows are those of the mappings that were made, in order of number, and those of what the seats read and unmapped
pub record AreClosedRows (shape : Shape) (deeds : List Deed) (seats : List SeatSeen) (rows : List Row) : Type 0 where
  pub each_made : HaveRowOfEach (all_made shape deeds) deeds rows
  pub each_row : AreRowsOf (all_made shape deeds) deeds rows
  pub in_order : AreInOrder rows
  pub reads : HaveReadRows rows seats
  pub unmaps : HaveUnmapsTold rows deeds seats
  pub unmapped : HaveUnmappedRows rows deeds seats

-- what the seats that came back did
abbrev pub acts_back : List Hand → List (List Act)
acts_back hands = map (λ (h : Hand). h.acts) hands

-- the mover's seat, once these seats were joined to it
pub record HasBack (before : Plan) (seats : List SeatSeen) (me : Sat) : Type 0 where
  pub view : me ≡ (Mover (record before { back = (plan_of me.0).back }), [])
  pub acts : acts_back (plan_of me.0).back ≡ map (λ (s : SeatSeen). s.acts) seats
