-- Where stacks lie, and the words that say so.
use Rattle.std.specs.Prelude.{◌≡◌, ℕ, ◌+◌, ◌*◌, ◌^◌, ◌≤◌, ◌==◌, Option, None, Some, if◌then◌else◌}
use Rattle.ad_base.specs.declared.layout.TheConstants.{STACK_PAGES, STACK_REGION}
use Rattle.ad_base.specs.declared.place.Place.{Place}
use Rattle.ad_base.specs.Place.{packed, place_at, IsPlace}

-- a place in a region for stacks, of a stack's pages, with frame 0
pub record IsStackPlace (p : Place) : Type 0 where
  pub place : IsPlace p
  pub for_stacks : STACK_REGION ≤ p.region
  pub size : p.pages ≡ STACK_PAGES
  pub no_frame : p.frame ≡ 0

-- the word is that of a stack's place
pub record IsStackWord (word : ℕ) : Type 0 where
  pub place : IsStackPlace (place_at word)
  pub packs : word ≡ packed (place_at word)

-- the word of a lane in which this stack is
abbrev pub lane_word : Option Place → ℕ
lane_word None = 0
lane_word (Some p) = packed p

-- the stack that a lane's word says
abbrev pub lane_place : ℕ → Option Place
lane_place word = if word == 0 then None else Some (place_at word)

-- The record word of a stack: its place, its lane in bits 48 to 55, where a place has its frame, and its
-- unmap steps in bits 56 to 63.
abbrev pub record_word : Place → ℕ → ℕ → ℕ
record_word p lane unmaps = packed p + lane * 2 ^ 48 + unmaps * 2 ^ 56
