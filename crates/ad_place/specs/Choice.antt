-- The choice of places at random, as a function of a seed.
use Rattle.std.specs.Prelude.{ℕ, ◌+◌, ◌-◌, ◌*◌, ◌%◌, Bool, ◌==◌, not, List, [], ◌∷◌, ◌++◌, Option, length, map, fold, find, replicate, unwrap_or}
use Rattle.std.specs.List.{list_any, range_with_len}
use Rattle.byteorder.specs.Endian.{little_bytes}
use Rattle.rand_chacha.specs.ChaCha.{word_at, key_of}
use Rattle.ad_base.specs.declared.layout.TheConstants.{MODULE_REGION, MODULE_REGIONS, REGION_PAGES, STACK_REGION, STACK_REGIONS}
use Rattle.ad_base.specs.declared.ledger.Kind.{Kind}
use Rattle.ad_base.specs.declared.ledger.Kind.TheVariants.{Code, Fixed, Stack}
use Rattle.ad_base.specs.declared.place.Place.{Place}

-- the key: the seed's eight bytes, the lowest first, and 24 zeros
abbrev pub seed_bytes : ℕ → List ℕ
seed_bytes seed = little_bytes 8 seed ++ replicate 24 0

-- word k, counted from 0, of a seed's random words: stream 0 of ChaCha with twenty rounds (RFC 8439, 2.3,
-- with a 64-bit counter)
unfoldable pub random_word : ℕ → ℕ → ℕ
random_word seed k = word_at 10 (key_of (seed_bytes seed)) 0 k

-- the first region for a kind of mapping
abbrev pub first_region : Kind → ℕ
first_region Code = MODULE_REGION
first_region Fixed = MODULE_REGION
first_region Stack = STACK_REGION

-- how many regions there are for a kind of mapping, from the first one on
abbrev pub region_count : Kind → ℕ
region_count Code = MODULE_REGIONS
region_count Fixed = MODULE_REGIONS
region_count Stack = STACK_REGIONS

-- candidate i of a kind's regions, where the search begins at the region that a word says
abbrev pub candidate : Kind → ℕ → ℕ → ℕ
candidate kind word i = first_region kind + (word + i) % region_count kind

-- a kind's regions: those from candidate 0 on, cyclically, each once
unfoldable pub regions_from : Kind → ℕ → List ℕ
regions_from kind word = map (candidate kind word) (range_with_len 0 (region_count kind))

-- whether one of the places has the region
abbrev pub has_region : List Place → ℕ → Bool
has_region places region = list_any (λ p. region == p.region) places

-- the first of a kind's regions that isn't used, if there is one
abbrev pub first_unused : (ℕ → Bool) → Kind → ℕ → Option ℕ
first_unused used kind word = find (λ region. not (used region)) (regions_from kind word)

-- the first of a kind's regions that none of the places has; with fewer places than there may be mappings
-- there is one, and 0 isn't seen
unfoldable pub unused_region : List Place → Kind → ℕ → ℕ
unused_region places kind word = unwrap_or (first_unused (has_region places) kind word) 0

-- what was drawn so far: the seed, and the places in order
pub record Drawn : Type 0 where
  pub seed : ℕ
  pub places : List Place

-- The place that is drawn next, for a mapping of this kind and so many pages. Where k places were drawn, word
-- 2 k says where the search for its region begins, and word 2 k + 1 its start page.
unfoldable pub next_place : Drawn → Kind → ℕ → Place
next_place d kind pages = record {
  region = unused_region d.places kind (random_word d.seed (2 * length d.places));
  start = 1 + random_word d.seed (2 * length d.places + 1) % (REGION_PAGES - 1 - pages);
  pages = pages;
  mapping = length d.places + 1;
  frame = 0;
}

-- what was drawn once this one more is
abbrev pub with_next : Drawn → Kind → ℕ → Drawn
with_next d kind pages = record d { places = d.places ++ next_place d kind pages ∷ [] }

-- what is drawn at a seed for a list of kinds and pages, in order
abbrev pub drawn_from : Drawn → List (Kind × ℕ) → Drawn
drawn_from d requests = fold (λ d request. with_next d request.0 request.1) d requests

-- the places of a seed for a list of kinds and pages, in order
unfoldable pub places_of : ℕ → List (Kind × ℕ) → List Place
places_of seed requests = (drawn_from (record { seed = seed; places = [] }) requests).places
